use Rattle.scan_layout.proofs.Clean.{row_clean}
use Rattle.scan_layout.proofs.laws.a_row_is_clean_where_its_segments_decode.Goals as goal

pub returns : goal.returns
returns c = row_clean
