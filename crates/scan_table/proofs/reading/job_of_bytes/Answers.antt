use Rattle.serde_json.specs.View.{view}
use Rattle.scan_table.proofs.Parsing.{no_other}
use Rattle.scan_table.proofs.reading.job_of_bytes.Goals as goal

pub returns-in-Ok-clause-bad : goal.returns-in-Ok-clause-bad
returns-in-Ok-clause-bad c = λ h j i. no_other c.args.bytes.now (view c.in-Ok.json) c.in-Ok.ensures.ok.1 (c.read_job.ensures.bad h) j i
