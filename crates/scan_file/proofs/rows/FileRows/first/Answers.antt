use Rattle.std.proofs.Common.{sym, ap, ◌∙◌, take, arith}
use Rattle.scan_values.specs.Arrays.{ArrayData}
use Rattle.scan_file.specs.FileRows.{RowsData, row_items}
use Rattle.scan_file.proofs.RowLists.{all_rows, first_rows}
use Rattle.scan_file.proofs.rows.FileRows.first.Goals as goal

pub returns-then-len-most : goal.returns-then-len-most
returns-then-len-most c =
    let r : RowsData = record { numbers = c.self.inside.numbers.items; values = c.self.inside.values } in
    let long = c.len.ensures in
    let most = c.if-len-most.true in
    sym (ap row_items c.self.view_is) ∙ all_rows r c.args.most c.self.invariant (omega (arith, long, most)) ∙ ap (λ (x : RowsData). take c.args.most (row_items x)) c.self.view_is

pub returns : goal.returns
returns c =
    let r : RowsData = record { numbers = c.self.inside.numbers.items; values = c.self.inside.values } in
    first_rows r c.args.most c.truncate.new.self.items c.in_ok-values.values c.truncate.ensures.items (ap (λ (x : ArrayData). x.dtype) c.in_ok-values.ensures) (ap (λ (x : ArrayData). x.items) c.in_ok-values.ensures) ∙ ap (λ (x : RowsData). take c.args.most (row_items x)) c.self.view_is
