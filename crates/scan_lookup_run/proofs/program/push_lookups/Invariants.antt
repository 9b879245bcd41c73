use Rattle.std.proofs.Common.{◌≡◌}
use Rattle.scan_lookup_run.specs.Served.{Serves}
use Rattle.scan_lookup_run.specs.declared.reading.Job.{Job}
use Rattle.scan_lookup_run.proofs.Serving.{Serving}
use Rattle.scan_lookup_run.proofs.program.push_lookups.Given as goal

abbrev pub invariant-loop-places : goal.invariant-loop-places
invariant-loop-places g l = (j : Job) → Serves j l.fn.session → j.lookups ≡ l.lookups → Serving j l.session l.places-index l.lookups l.fn.out.items l.out.items
