use Rattle.scan_drive.proofs.Restoring.{Undoes}
use Rattle.scan_drive.proofs.line.put_back.Given as goal

abbrev pub invariant-loop-left : goal.invariant-loop-left
invariant-loop-left g l = Undoes l.fn.exchanges.items l.left l.fn.files.items l.files.items

abbrev pub decreases-loop-left : goal.decreases-loop-left
decreases-loop-left g l = l.left
