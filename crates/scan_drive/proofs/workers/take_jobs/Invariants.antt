use Rattle.std.proofs.Common.{drop, take}
use Rattle.scan_drive.specs.Slots.{HasFresh}
use Rattle.scan_drive.specs.Workers.{AreInTurn, AreJobs, places_of}
use Rattle.scan_drive.proofs.workers.take_jobs.Given as goal

abbrev pub invariant-loop-i : goal.invariant-loop-i
invariant-loop-i g l = record {
  jobs : AreJobs l.jobs.items l.fn.slots.items l.slots.items;
  fresh : HasFresh l.slots.items (drop l.i l.turns.items);
  order : AreInTurn (places_of l.jobs.items) (take l.i l.turns.items);
}
