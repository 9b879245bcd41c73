use Rattle.std.proofs.Common.{sym, ◌∙◌, map}
use Rattle.scan_columns.specs.Cells.{vals_in}
use Rattle.scan_columns.proofs.RowLemmas.{whole_length, parts_length}
use Rattle.scan_columns.proofs.rows.Rows.len.Goals as goal

pub returns-in-Whole : goal.returns-in-Whole
returns-in-Whole c = rw (c.in-Whole.is) (c.len.ensures ∙ sym (whole_length (vals_in c.in-Whole.cells.now)))

pub returns-in-Parts : goal.returns-in-Parts
returns-in-Parts c = rw (c.in-Parts.is) (sym (parts_length (map vals_in c.in-Parts.field-0.now) c.in-Parts.len))
