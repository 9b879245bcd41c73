use Rattle.std.proofs.Common.{sym, ap, ◌∙◌}
use Rattle.scan_values.specs.Values.{val_of}
use Rattle.scan_table.specs.Rows.{fields_in}
use Rattle.scan_table.proofs.Rowing.{listed-vals}
use Rattle.scan_table.proofs.rows.fields_of.Goals as goal

pub returns-in-Struct : goal.returns-in-Struct
returns-in-Struct c = c.into_vec.ensures ∙ sym (listed-vals c.in-Struct.values) ∙ ap (λ v. fields_in (val_of v)) (sym c.in-Struct.is)
