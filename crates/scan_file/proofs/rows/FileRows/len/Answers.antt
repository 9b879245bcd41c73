use Rattle.std.proofs.Common.{sym, ap, ◌∙◌, length}
use Rattle.scan_file.specs.FileRows.{RowsData, row_items}
use Rattle.scan_file.proofs.RowLists.{rows_long}
use Rattle.scan_file.proofs.rows.FileRows.len.Goals as goal

pub returns : goal.returns
returns c = c.len.ensures ∙ sym (rows_long (record { numbers = c.self.inside.numbers.items; values = c.self.inside.values }) c.self.invariant) ∙ ap (λ (r : RowsData). length (row_items r)) c.self.view_is
