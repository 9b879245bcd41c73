use Rattle.std.proofs.Common.{◌<◌, ◌-◌, ◌^◌, arith, get_or}
use mir.Syntax.{w64}
use Rattle.std.proofs.lemmas.Int.{to_z_pos}
use Rattle.scan_columns.proofs.EndLemmas.{next_rises, next_last, next_below, sizes_step}
use Rattle.scan_columns.proofs.ends.written_counts.Goals as goal

pub overflow_cast-end : goal.overflow_cast-end
overflow_cast-end c =
    let low : get_or c.args.ends.now c.loop-i.i 0 < 2 ^ 63 = next_below c.loop-i.start (2 ^ 63) c.args.ends.now c.loop-i.i c.loop-i-test.true c.loop-i.invariant.rises c.loop-i.invariant.low in
    omega (arith, low)

pub loop-i-preserved : goal.loop-i-preserved
loop-i-preserved c =
    let ns = c.args.ends.now in
    let next = next_rises c.loop-i.start ns c.loop-i.i c.loop-i-test.true c.loop-i.invariant.rises in
    let low : get_or ns c.loop-i.i 0 < 2 ^ 63 = next_below c.loop-i.start (2 ^ 63) ns c.loop-i.i c.loop-i-test.true c.loop-i.invariant.rises c.loop-i.invariant.low in
    record {
      rises = next.1;
      low = omega (arith, c.loop-i.invariant.low, next_last c.loop-i.start ns c.loop-i.i c.loop-i-test.true);
      long = c.loop-i.invariant.long;
      same = sizes_step c.loop-i.start ns c.loop-i.made.items c.loop-i.i _ _ c.loop-i-test.true (omega (arith, c.loop-i.invariant.long, c.loop-i.made.ok.0)) (to_z_pos w64 (get_or ns c.loop-i.i 0 - c.loop-i.start) (omega (arith, low))) c.loop-i.invariant.same;
    }
