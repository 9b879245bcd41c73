use Rattle.std.proofs.Common.{arith}
use Rattle.scan_core.proofs.Ranging.{neighbours_done}
use Rattle.scan_core.proofs.splits.neighbours.Goals as goal

pub returns : goal.returns
returns c = neighbours_done c.loop-i.ranges.items c.args.boundaries.now c.loop-i.i c.loop-i.invariant.from (omega arith) c.loop-i.invariant.made
