use Rattle.std.proofs.Common.{refl, ap, sym, ◌∙◌}
use Rattle.scan_values.specs.DataType.{fields_of}
use Rattle.scan_expr.specs.Typing.{have_fields}
use Rattle.scan_expr.proofs.Placing.{have_turn, place_turn}
use Rattle.scan_expr.proofs.index.places_found.Goals as goal

pub returns-in_default-clause-lost : goal.returns-in_default-clause-lost
returns-in_default-clause-lost c = λ _.
    let fs = c.args.fields.now in
    let names = c.as_slice-name-items.result.now in
    let n = c.name-item.result in
    let at = c.in_default.ensures in
    (refl, ap (λ ns. have_fields ns (fields_of fs)) (sym c.as_slice-name-items.ensures) ∙ c.loop-name.invariant.found ∙ have_turn names c.loop-name.name-index n fs _ c.loop-name-test.true c.name-item.is at)

pub loop-name-preserved : goal.loop-name-preserved
loop-name-preserved c =
    let fs = c.args.fields.now in
    let names = c.as_slice-name-items.result.now in
    let n = c.name-item.result in
    let at = c.in-Some.ensures in
    record {
      places = c.in_ok-push.ensures.items ∙ place_turn names c.loop-name.name-index n fs c.in-Some.place c.loop-name.places.items c.loop-name-test.true c.name-item.is at c.loop-name.invariant.places;
      found = c.loop-name.invariant.found ∙ have_turn names c.loop-name.name-index n fs _ c.loop-name-test.true c.name-item.is at;
    }
