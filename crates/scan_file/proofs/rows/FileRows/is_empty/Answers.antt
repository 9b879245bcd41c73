use Rattle.std.proofs.Common.{sym, ap, ◌∙◌, ◌==◌, length}
use Rattle.scan_file.specs.FileRows.{RowsData, row_items}
use Rattle.scan_file.proofs.RowLists.{rows_long}
use Rattle.scan_file.proofs.rows.FileRows.is_empty.Goals as goal

pub returns : goal.returns
returns c =
    let r : RowsData = record { numbers = c.self.inside.numbers.items; values = c.self.inside.values } in
    c.is_empty.ensures ∙ ap (λ n. n == 0) (sym (rows_long r c.self.invariant)) ∙ ap (λ (x : RowsData). length (row_items x) == 0) c.self.view_is
