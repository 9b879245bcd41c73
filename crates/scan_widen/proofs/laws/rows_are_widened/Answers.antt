use Rattle.scan_widen.proofs.RowsAll.{rows_widen}
use Rattle.scan_widen.proofs.Whole.{rows_under_dtype}
use Rattle.scan_widen.proofs.laws.rows_are_widened.Goals as goal

pub returns-clause-behind : goal.returns-clause-behind
returns-clause-behind c = rows_under_dtype

pub returns-clause-any : goal.returns-clause-any
returns-clause-any c = rows_widen
