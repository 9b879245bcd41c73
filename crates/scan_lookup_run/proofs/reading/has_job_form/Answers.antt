use Rattle.std.proofs.Common.{sym, ◌∙◌}
use Rattle.scan_lookup_run.specs.Jobs.{is_job_key}
use Rattle.scan_lookup_run.proofs.Parsing.{have_only-keys, only_of}
use Rattle.scan_lookup_run.proofs.reading.has_job_form.Goals as goal

pub returns-in-Some : goal.returns-in-Some
returns-in-Some c = c.has_job_keys.ensures ∙ sym (have_only-keys is_job_key c.in-Some.map.now.entries) ∙ sym (only_of is_job_key _ _ c.in-Some.ensures)
