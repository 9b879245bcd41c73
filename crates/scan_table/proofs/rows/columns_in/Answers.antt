use Rattle.std.proofs.Common.{sym, ap, ◌∙◌}
use Rattle.scan_columns.specs.Cells.{vals_in}
use Rattle.scan_table.proofs.Columned.{have_columns}
use Rattle.scan_table.proofs.rows.columns_in.Goals as goal

pub returns-in-Structs : goal.returns-in-Structs
returns-in-Structs c = have_columns c.fields.result c.in-Structs.structs c.args.run.now.items (ap vals_in (sym c.in-Structs.is) ∙ c.cells.ensures) c.fields.ensures
