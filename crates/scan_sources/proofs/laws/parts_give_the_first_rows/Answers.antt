use Rattle.scan_sources.proofs.Limited.{parts_first}
use Rattle.scan_sources.proofs.laws.parts_give_the_first_rows.Goals as goal

pub returns : goal.returns
returns g c = parts_first c.splits_give_their_rows.ensures
