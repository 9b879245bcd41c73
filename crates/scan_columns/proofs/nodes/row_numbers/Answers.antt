use borrow.Author.Rules.{rules}
use Rattle.std.proofs.Common.{◌≡◌, pos, map, ◌∙◌}
use Rattle.std.specs.List.{range_with_len}
use Rattle.scan_values.specs.Val.{int_val}
use Rattle.scan_columns.specs.Cells.{vals_in}
use Rattle.scan_columns.proofs.RowLemmas.{whole_numbers, parts_numbers}
use Rattle.scan_columns.proofs.nodes.row_numbers.Goals as goal

pub returns-in-Whole : goal.returns-in-Whole
returns-in-Whole c = rw (c.in-Whole.is, c.new.ensures, c.len.ensures) (whole_numbers (vals_in c.in-Whole.cells.now))

pub returns-in_ok-numbers-in-Parts : goal.returns-in_ok-numbers-in-Parts
returns-in_ok-numbers-in-Parts c =
    let columns = map vals_in c.in-Parts.field-0.now in
    let made : vals_in c.in_ok-numbers-in-Parts.field-0 ≡ map (λ r. int_val (pos r)) (range_with_len 0 c.in-Parts.len) = search (rules, c.in_ok-numbers-in-Parts.ensures) in
    rw (c.in-Parts.is) (made ∙ parts_numbers columns (range_with_len 0 c.in-Parts.len))
