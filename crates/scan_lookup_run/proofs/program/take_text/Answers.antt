use Rattle.std.proofs.Common.{inr, sym, subst}
use Rattle.scan_lookup_run.specs.Runs.{IsEnd}
use Rattle.scan_lookup_run.proofs.program.take_text.Goals as goal

pub returns-in-Err-lookup_text-clause-end : goal.returns-in-Err-lookup_text-clause-end
returns-in-Err-lookup_text-clause-end g c = inr (c.in-Ok.job, c.in-Ok.ensures.ok, subst (IsEnd c.in-Ok.job) (sym c.status_of_fault.ensures) c.in-Err-lookup_text.ensures.err)
