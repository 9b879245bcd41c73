use Rattle.scan_drive.proofs.Cutting.{first_rows}
use Rattle.scan_drive.proofs.laws.cuts_give_the_first_rows.Goals as goal

pub returns : goal.returns
returns c = first_rows
