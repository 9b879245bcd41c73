use Rattle.std.proofs.Common.{ap}
use Rattle.scan_tool.proofs.Idle.{none_asked}
use Rattle.scan_tool.proofs.files.OpenFile.into_scan_file.Goals as goal

pub returns : goal.returns
returns g c = none_asked c.with_places-source.result.requests (ap (λ s. s.requests) c.with_places-source.ensures)
