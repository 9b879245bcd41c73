use Rattle.scan_layout.proofs.RowFits.{row_fits}
use Rattle.scan_layout.proofs.laws.rows_fit_the_dtype.Goals as goal

pub returns : goal.returns
returns c = row_fits
