use Rattle.std.proofs.Common.{arith, false, get_or, ◌≤◌, ◌≡◌, length}
use mir.Val.{bool_byte}
use Rattle.scan_spelling.proofs.Keeping.{kept_step, byte_low}
use Rattle.scan_spelling.proofs.run.kept.Goals as goal

pub loop-i-preserved : goal.loop-i-preserved
loop-i-preserved g c =
    let low : bool_byte (get_or c.args.mask.now c.loop-i.i false) ≤ 1 = byte_low (get_or c.args.mask.now c.loop-i.i false) in
    let even : length c.loop-i.items.items ≡ length c.args.mask.now = omega (arith, c.loop-i.invariant.long) in
    record {
      behind = omega (arith, low, c.loop-i.invariant.behind);
      long = c.loop-i.invariant.long;
      same = kept_step c.args.mask.now c.loop-i.items.items c.loop-i.i c.loop-i.count c.index.result.now _ c.loop-i.invariant.behind c.loop-i-test.true even c.index.ensures c.loop-i.invariant.same;
    }
