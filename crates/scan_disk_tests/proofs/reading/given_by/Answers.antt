use Rattle.std.proofs.Common.{ap}
use Rattle.scan_disk_tests.proofs.Asking.{none_asked}
use Rattle.scan_disk_tests.proofs.reading.given_by.Goals as goal

pub push_segments-requires : goal.push_segments-requires
push_segments-requires g c = none_asked c.with_places-source.result.requests (ap (λ s. s.requests) c.with_places-source.ensures)
