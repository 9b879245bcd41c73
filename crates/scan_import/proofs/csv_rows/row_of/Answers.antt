use Rattle.std.proofs.Common.{Some, ap, sym, ◌∙◌}
use Rattle.csv.specs.Records.{fields_of}
use Rattle.scan_values.specs.FieldLists.{dtypes_of}
use Rattle.scan_values.specs.Val.{struct_val, vals_of}
use Rattle.scan_import.proofs.Columns.{record_meant}
use Rattle.scan_import.proofs.csv_rows.row_of.Goals as goal

pub returns-in-Ok : goal.returns-in-Ok
returns-in-Ok c =
    record_meant (dtypes_of c.args.fields.now) c.args.columns.now (fields_of c.args.row.now) c.in-Ok.values.items c.in-Ok.ensures ∙ sym (ap (λ vs. Some (struct_val (vals_of vs))) c.new.ensures)
