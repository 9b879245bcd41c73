use Rattle.std.proofs.Common.{ap, ◌∙◌, map, arith}
use Rattle.std.proofs.lemmas.Grind.{common_steps}
use Rattle.scan_values.specs.Marked.{chained}
use Rattle.scan_values.specs.Val.{vals_of, marked_all}
use Rattle.scan_expr.specs.Places.{nth}
use Rattle.scan_expr.proofs.Evals.{marks}
use Rattle.scan_expr.proofs.Placing.{chained-at}
use Rattle.scan_expr.proofs.evaluate.select_fields.Goals as goal

pub returns : goal.returns
returns c =
    let ms = marked_all (vals_of c.args.values.now) in
    rw (c.new.ensures) (marks c.loop-place.picked.items ∙ ap chained (c.loop-place.invariant ∙ ap (map (nth ms)) (grind (arith, common_steps))) ∙ chained-at ms c.args.places.now)
