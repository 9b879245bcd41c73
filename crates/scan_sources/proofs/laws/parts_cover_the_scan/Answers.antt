use Rattle.scan_sources.proofs.Covering.{parts_cover}
use Rattle.scan_sources.proofs.laws.parts_cover_the_scan.Goals as goal

pub returns : goal.returns
returns g c = parts_cover
