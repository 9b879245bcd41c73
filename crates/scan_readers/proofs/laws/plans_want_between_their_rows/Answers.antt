use Rattle.scan_readers.proofs.Narrow.{between_wanted}
use Rattle.scan_readers.proofs.laws.plans_want_between_their_rows.Goals as goal

pub returns : goal.returns
returns c = between_wanted
