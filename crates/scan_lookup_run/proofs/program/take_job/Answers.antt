use Rattle.std.proofs.Common.{Err, refl, ap, subst, inl, List, ℕ}
use Rattle.scan_lookup_run.specs.Jobs.{IsJob}
use Rattle.scan_lookup_run.specs.declared.reading.Job.{Job}
use Rattle.scan_lookup_run.proofs.Parsing.{job_agrees}
use Rattle.scan_lookup_run.proofs.Running.{no_job}
use Rattle.scan_lookup_run.proofs.program.take_job.Goals as goal

pub returns-in-Ok-job_of_bytes-clause-agree : goal.returns-in-Ok-job_of_bytes-clause-agree
returns-in-Ok-job_of_bytes-clause-agree g c = job_agrees c.as_slice.result.now c.in-Ok-job_of_bytes.job c.in-Ok-job_of_bytes.ensures.ok

pub returns-in-Err-Bad-clause-halt : goal.returns-in-Err-Bad-clause-halt
returns-in-Err-Bad-clause-halt g c =
    let none = c.in-Err-Bad.ensures.bad (ap Err c.in-Err-Bad.field-0-is) in
    let refused = no_job (g.I.Input.input c.args.input.now) (g.I.Input.input c.read_all.new.input) c.in-Ok.bytes.items c.in-Ok.ensures.ok in
    inl (refl, refused (subst (λ (xs : List ℕ). (j : Job) → ¬ IsJob xs j) c.as_slice.ensures.value none))
