use Rattle.scan_sources.proofs.Together.{parts_together}
use Rattle.scan_sources.proofs.laws.parts_give_the_scan.Goals as goal

pub returns : goal.returns
returns g c = parts_together c.splits_give_their_rows.ensures
