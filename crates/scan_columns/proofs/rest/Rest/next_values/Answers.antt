use Rattle.std.proofs.Common.{◌≡◌, ◌∷◌, [], ◌++◌, ◌+◌, map, take, drop, refl, ap, sym, ◌∙◌}
use Rattle.std.proofs.lemmas.List.{map-append, append-nil}
use Rattle.scan_values.specs.Values.{val_of}
use Rattle.scan_columns.proofs.FieldLemmas.{take_next, drop_next}
use Rattle.scan_columns.proofs.rest.Rest.next_values.Goals as goal
use Rattle.scan_columns.proofs.rest.Rest.next_values.Goals.{in-Some+in_ok-push, in_default}

pub loop-i-preserved : goal.loop-i-preserved
loop-i-preserved c =
    let whole = c.args.self.now in
    let k = c.loop-i.i in
    let made = c.loop-i.made.items in
    let item : map val_of c.match-next.made.items ≡ map val_of made ++ take 1 c.loop-i.self =
    elim c.match-next.branch [
      | in-Some+in_ok-push w ↦ ap (λ v. map val_of v.items) w.made-is ∙ ap (map val_of) w.in_ok-push.ensures.items ∙ map-append val_of made (w.in-Some.value ∷ []) ∙ ap (λ vs. map val_of made ++ vs) w.in-Some.ensures.item
      | in_default w ↦ ap (λ v. map val_of v.items) w.made-is ∙ sym (append-nil (map val_of made)) ∙ ap (λ vs. map val_of made ++ vs) w.in_default.ensures.item
    ] in
    record {
      items = item ∙ ap (λ vs. map val_of made ++ take 1 vs) c.loop-i.invariant.rest ∙ ap (λ vs. vs ++ take 1 (drop k whole)) c.loop-i.invariant.items ∙ take_next whole k (k + 1) refl;
      rest = c.next.ensures.rest ∙ ap (drop 1) c.loop-i.invariant.rest ∙ drop_next whole k (k + 1) refl;
    }
