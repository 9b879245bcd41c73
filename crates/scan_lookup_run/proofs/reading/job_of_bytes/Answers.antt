use Rattle.std.proofs.Common.{subst}
use Rattle.serde_json.specs.View.{view}
use Rattle.scan_manifest.specs.Parse.{IsParse}
use Rattle.scan_lookup_run.specs.Jobs.{job_in}
use Rattle.scan_lookup_run.proofs.Parsing.{no_other}
use Rattle.scan_lookup_run.proofs.reading.job_of_bytes.Goals as goal

pub returns-in-Ok-clause-bad : goal.returns-in-Ok-clause-bad
returns-in-Ok-clause-bad c = λ h j i. no_other c.args.bytes.now (view c.in-Ok.json) c.in-Ok.ensures.ok.1 (subst (IsParse (job_in (view c.in-Ok.json))) h c.read_job.ensures) j i
