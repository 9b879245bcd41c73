use Rattle.std.proofs.Common.{◌≡◌, ◌≤◌, length, get_or, false, arith}
use mir.Val.{bool_byte}
use Rattle.scan_spelling.proofs.Keeping.{byte_low}
use Rattle.scan_plans.proofs.RowLemmas.{rows_step}
use Rattle.scan_plans.proofs.future.written_rows.Goals as goal

pub loop-i-preserved : goal.loop-i-preserved
loop-i-preserved c =
    let low : bool_byte (get_or c.args.bits.now c.loop-i.i false) ≤ 1 = byte_low (get_or c.args.bits.now c.loop-i.i false) in
    let even : length c.loop-i.rows.items ≡ length c.args.bits.now = omega (arith, c.loop-i.invariant.long) in
    record {
      behind = omega (arith, low, c.loop-i.invariant.behind);
      long = c.loop-i.invariant.long;
      same = rows_step c.args.bits.now c.loop-i.rows.items c.args.first c.loop-i.i c.loop-i.count _ c.loop-i.invariant.behind c.loop-i-test.true even c.loop-i.invariant.same;
    }
