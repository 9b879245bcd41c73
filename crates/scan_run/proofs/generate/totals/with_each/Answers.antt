use Rattle.std.proofs.Common.{◌≡◌, ◌+◌, drop, ap, ◌∙◌, Some}
use Rattle.std.specs.Prelude.{slice_get}
use Rattle.scan_values.specs.Values.{val_of}
use Rattle.scan_run.specs.Totals.{with_row, with_values}
use Rattle.scan_run.specs.declared.generate.totals.Totals.{Totals}
use Rattle.scan_run.proofs.Adding.{value_more}
use Rattle.scan_run.proofs.generate.totals.with_each.Goals as goal

pub loop-i-preserved : goal.loop-i-preserved
loop-i-preserved c =
    let vs = c.args.values.now.items in
    let v = val_of c.as_value.result.now in
    let e : c.in_ok-now.now ≡ with_row c.loop-i.now v = c.in_ok-now.ensures in
    let at : Some v ≡ slice_get vs c.loop-i.i = ap Some c.as_value.ensures ∙ c.in_ok-value.ensures in
    ap (λ (t : Totals). with_values t (drop (c.loop-i.i + 1) vs)) e
    ∙ value_more c.args.totals c.loop-i.now vs c.loop-i.i v (with_values c.args.totals vs) at c.loop-i.invariant
