use Rattle.scan_import.proofs.Columns.{was_fresh}
use Rattle.scan_import.proofs.csv_rows.reader_of.Goals as goal

pub returns-clause-fresh : goal.returns-clause-fresh
returns-clause-fresh g c = λ bytes e. was_fresh g.R.Read.remaining c.from_reader.result bytes (g.R.Read.remaining c.args.input) c.from_reader.ensures.source e c.from_reader.ensures.state
