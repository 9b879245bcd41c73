use Rattle.std.proofs.Common.{◌≡◌, length}
use Rattle.scan_run.specs.WriteAll.{WroteFront}
use Rattle.scan_run.proofs.output.write_all.Given as goal

abbrev pub invariant-writing : goal.invariant-writing
invariant-writing g l = (w : WroteFront l.bytes (g.O.Output.output l.fn.output) (g.O.Output.output l.output)) × (w.rest ≡ l.rest)

abbrev pub decreases-writing : goal.decreases-writing
decreases-writing g l = length l.rest
