use Rattle.scan_drive.proofs.Windows.{BusySoFar}
use Rattle.scan_drive.proofs.round.count_busy.Given as goal

abbrev pub invariant-loop-i : goal.invariant-loop-i
invariant-loop-i g l = BusySoFar l.turns.items l.slots.items l.first l.i l.busy l.last
