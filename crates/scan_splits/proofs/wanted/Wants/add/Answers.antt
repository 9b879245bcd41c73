use Rattle.std.proofs.Common.{◌≡◌, ◌∙◌, ap, sym, ◌++◌, ◌∷◌, [], false}
use Rattle.scan_values.specs.Selections.{is_among}
use Rattle.scan_splits.proofs.Wanting.{distinct-push, same-push, among-inserted}
use Rattle.scan_splits.proofs.wanted.Wants.add.Goals as goal

pub invariant_of-self-2 : goal.invariant_of-self-2
invariant_of-self-2 c =
    let ids = c.self.inside.ids.items in
    let more : c.push_reserved.new.self.items ≡ ids ++ c.args.id ∷ [] = c.push_reserved.ensures.items ∙ ap (λ xs. xs ++ c.args.id ∷ []) c.in_ok-reserve.ensures.items in
    let apart : is_among ids c.args.id ≡ false = ap (λ xs. is_among xs c.args.id) c.self.view_is ∙ sym c.has.ensures ∙ c.if-has.false in
    record {
      distinct = rw more (distinct-push ids c.args.id c.self.invariant.distinct apart);
      same = rw more (same-push c.self.inside.known.keys c.insert.new.self.keys ids c.args.id c.self.invariant.same (among-inserted c.self.inside.known.keys c.insert.new.self.keys c.args.id c.in_ok-insert.ensures.updates.0));
    }
