use Rattle.scan_expr.proofs.Overflowing.{any_row_overflows}
use Rattle.scan_expr.proofs.laws.row_numbers_play_no_part_in_overflows.Goals as goal

pub returns : goal.returns
returns c = any_row_overflows
