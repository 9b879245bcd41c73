use Rattle.std.proofs.Common.{◌++◌, ◌==◌, true, refl, ap, arith}
use Rattle.std.proofs.Math.ListN.{drop_of_length-le}
use Rattle.std.proofs.Output.{has_written_append, has_written_of_eq}
use Rattle.scan_values.proofs.Left.{begun, goes_on, ended}
use Rattle.scan_values.specs.Shown.{comma}
use Rattle.scan_layout.specs.Shown.{shown_segment, shown_segments}
use Rattle.scan_layout.proofs.Showing.{next_segment}
use Rattle.scan_layout.proofs.shown.show_segments.Goals as goal

pub loop-i-init : goal.loop-i-init
loop-i-init g c = λ p. begun g.W.Write.write_str_gives _ _ p

pub loop-i-preserved : goal.loop-i-preserved
loop-i-preserved g c =
    λ p.
    let so_far = c.loop-i.invariant p in
    let before = has_written_of_eq g.W.Write.write_str_gives _ _ _ _ c.comma.ensures (c.in_ok-write_str.ensures.writes so_far.wrote.plain (refl {a = true})) in
    goes_on g.W.Write.write_str_gives _ _ _ _ (comma (c.loop-i.i == 0) ++ shown_segment c.index-segments-i.result) _ _
    (next_segment c.args.segments.now c.loop-i.i c.index-segments-i.result (omega arith) c.index-segments-i.is)
    so_far (has_written_append g.W.Write.write_str_gives _ _ _ _ _ before (c.in_ok-show_segment.ensures before.plain (refl {a = true})))

pub returns : goal.returns
returns g c =
    λ p ok.
    ended g.W.Write.write_str_gives _ _ _ _ (ap (λ gs. shown_segments (c.loop-i.i == 0) gs) (drop_of_length-le c.args.segments.now (omega arith))) (c.loop-i.invariant p)
