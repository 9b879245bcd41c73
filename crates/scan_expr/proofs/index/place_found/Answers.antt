use Rattle.std.proofs.Common.{[], ◌∷◌, refl, ap, sym, ◌∙◌}
use Rattle.std.specs.Prelude.{is_some}
use Rattle.scan_expr.proofs.Placing.{has_field-found, found_place}
use Rattle.scan_expr.proofs.index.place_found.Goals as goal

pub returns-in_ok-one_place-in-Some-clause-found : goal.returns-in_ok-one_place-in-Some-clause-found
returns-in_ok-one_place-in-Some-clause-found c = has_field-found c.args.name.now c.args.fields.now ∙ ap is_some (sym c.in-Some.ensures)

pub returns-in_ok-one_place-in-Some-clause-places : goal.returns-in_ok-one_place-in-Some-clause-places
returns-in_ok-one_place-in-Some-clause-places c =
    c.in_ok-one_place-in-Some.ensures ∙ ap (λ p. p ∷ []) (found_place c.args.name.now c.args.fields.now c.in-Some.place c.in-Some.ensures)

pub returns-in-None-clause-lost : goal.returns-in-None-clause-lost
returns-in-None-clause-lost c = λ _. (refl, has_field-found c.args.name.now c.args.fields.now ∙ ap is_some (sym c.in-None.ensures))
