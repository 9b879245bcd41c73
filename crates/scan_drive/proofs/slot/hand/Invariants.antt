use Rattle.std.proofs.Common.{drop}
use Rattle.scan_drive.specs.Slots.{handed}
use Rattle.scan_drive.proofs.Handing.{Walks}
use Rattle.scan_drive.proofs.slot.hand.Given as goal

abbrev pub invariant-loop-place : goal.invariant-loop-place
invariant-loop-place g l = Walks l.id (handed l.id l.arrival) (drop l.place-index l.places) l.places l.fn.slots.items l.slots.items
