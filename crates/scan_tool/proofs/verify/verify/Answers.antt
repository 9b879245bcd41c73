use Rattle.std.proofs.Common.{ap}
use Rattle.scan_tool.proofs.Idle.{none_asked}
use Rattle.scan_tool.proofs.verify.verify.Goals as goal

pub check_segments-requires : goal.check_segments-requires
check_segments-requires g c = none_asked c.with_places-source.result.requests (ap (λ s. s.requests) c.with_places-source.ensures)
