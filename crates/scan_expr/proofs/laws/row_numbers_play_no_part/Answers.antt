use Rattle.scan_expr.proofs.Clean.{any_row}
use Rattle.scan_expr.proofs.laws.row_numbers_play_no_part.Goals as goal

pub returns : goal.returns
returns c = any_row
