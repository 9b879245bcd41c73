use Rattle.std.proofs.Common.{◌≡◌, ◌++◌}
use Rattle.scan_drive.specs.Desks.{live_ids}
use Rattle.scan_drive.proofs.desk.Desk.live.Given as goal

abbrev pub invariant-loop-id : goal.invariant-loop-id
invariant-loop-id l = l.ids.items ++ l.id-iterator ≡ live_ids l.self
