use Rattle.scan_values.specs.Values.{val_of}
use Rattle.scan_table.proofs.rows.add_row.Goals as goal

pub returns : goal.returns
returns c = λ ms rows h k. c.add_fields.ensures ms rows (val_of c.args.row) h c.fields_of-fields.ensures k
