use Rattle.scan_drive.proofs.Freely.{Over}
use Rattle.scan_drive.proofs.delivery.deliver_any.Given as goal

abbrev pub invariant-loop-turn : goal.invariant-loop-turn
invariant-loop-turn g l = Over g.W.SplitWork.split g.W.SplitWork.comes g.W.SplitWork.items l.fn.active l.active l.fn.chunks.items l.chunks.items l.fn.left l.left l.why l.turn
