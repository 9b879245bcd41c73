use Rattle.std.proofs.Common.{◌≡◌, ◌+◌, ◌++◌, ◌∷◌, [], ap, sym, subst, ◌∙◌, arith, length, ℕ, rules}
use Rattle.std.specs.Ordering.{nat_cmp}
use Rattle.std.specs.BTreeMap.{insert_entry}
use Rattle.std.specs.Vec.Iter.{into_iter_items}
use Rattle.scan_run.specs.Generated.{numbered}
use Rattle.scan_run.proofs.Numbers.{carry}
use Rattle.scan_run.proofs.Mapping.{AllBelow, insert_last, below_last}
use Rattle.scan_run.proofs.generate.segments.by_number.Goals as goal

pub loop-bytes-preserved : goal.loop-bytes-preserved
loop-bytes-preserved c =
    let s = c.in-Some.ensures.steps in
    let h = c.loop-bytes.invariant in
    let id = c.loop-bytes.id in
    let old = c.loop-bytes.map.entries in
    let bytes = c.in-Some.bytes in
    let rest = into_iter_items c.next.new.self in
    let longer = ap length s.0 in
    let up : c.in-Some-checked_add.next ≡ id + 1 = search rules in
    let e : c.insert.new.self.entries ≡ old ++ (id, bytes) ∷ [] =
    c.in_ok-insert.ensures.entries ∙ (ap (λ k. insert_entry nat_cmp old k bytes) c.from.ensures ∙ insert_last old id bytes h.below) in
    let P : ℕ → Type 0 = λ k. AllBelow k c.insert.new.self.entries in
    record {
      len = omega (arith, s.1, h.len, longer);
      below = subst P (sym up) (subst (AllBelow (id + 1)) (sym e) (below_last old id bytes h.below));
      same = carry old c.insert.new.self.entries _ _ _ _ e (ap (numbered id) s.0 ∙ ap (λ k. (id, bytes) ∷ numbered k rest) (sym up)) h.same;
    }
