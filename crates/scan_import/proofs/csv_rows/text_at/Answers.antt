use Rattle.csv.specs.Records.{fields_of}
use Rattle.scan_import.proofs.Columns.{field_there}
use Rattle.scan_import.proofs.csv_rows.text_at.Goals as goal

pub unreachable-requires : goal.unreachable-requires
unreachable-requires c = field_there (fields_of c.args.row.now) c.args.i c.requires c.in-None.ensures.value
