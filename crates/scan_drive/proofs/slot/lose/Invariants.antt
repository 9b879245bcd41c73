use Rattle.std.proofs.Common.{drop}
use Rattle.scan_drive.specs.Slots.{given_up}
use Rattle.scan_drive.specs.declared.slot.Halt.TheVariants as halt
use Rattle.scan_drive.proofs.Handing.{Walks}
use Rattle.scan_drive.proofs.slot.lose.Given as goal

abbrev pub invariant-loop-place : goal.invariant-loop-place
invariant-loop-place g l = Walks l.id (given_up (halt.Source l.id)) (drop l.place-index l.places) l.places l.fn.slots.items l.slots.items
