use Rattle.scan_layout.proofs.Local.{local}
use Rattle.scan_layout.proofs.laws.a_row_stands_on_what_it_touches.Goals as goal

pub returns : goal.returns
returns c = local
