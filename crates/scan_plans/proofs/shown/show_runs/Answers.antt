use Rattle.std.proofs.Common.{◌++◌, ◌==◌, true, refl, ap, arith}
use Rattle.std.proofs.Math.ListN.{drop_of_length-le}
use Rattle.scan_values.specs.Shown.{comma}
use Rattle.scan_layout.specs.Shown.{shown_segment, shown_segments}
use Rattle.scan_values.proofs.Left.{begun, goes_on, ended}
use Rattle.scan_plans.proofs.Showing.{next_run}
use Rattle.scan_plans.proofs.shown.show_runs.Goals as goal

pub loop-i-init : goal.loop-i-init
loop-i-init g c = λ p. begun g.W.Write.write_str_gives _ _ p

pub loop-i-preserved : goal.loop-i-preserved
loop-i-preserved g c =
    λ p.
    let so_far = c.loop-i.invariant p in
    goes_on g.W.Write.write_str_gives _ _ _ _ (comma (c.loop-i.i == 0) ++ shown_segment (c.id.result, c.rows.result)) _ _
    (next_run c.args.runs.now c.loop-i.i c.id.result c.rows.result (omega arith) c.id.ensures c.rows.ensures)
    so_far (c.in_ok-show_run.ensures so_far.wrote.plain (refl {a = true}))

pub returns : goal.returns
returns g c =
    λ p ok.
    ended g.W.Write.write_str_gives _ _ _ _ (ap (λ gs. shown_segments (c.loop-i.i == 0) gs) (drop_of_length-le c.args.runs.now (omega arith))) (c.loop-i.invariant p)
