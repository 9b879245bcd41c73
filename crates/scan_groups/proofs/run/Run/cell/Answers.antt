use Rattle.std.proofs.Common.{◌≡◌, ◌<◌, length, get_or, pos, ap, ◌∙◌, arith, rules}
use mir.Val.{to_z, of_z}
use mir.Syntax.{w64, w128}
use Rattle.scan_values.specs.Val.{int_val}
use Rattle.scan_groups.specs.Cells.{cell_val}
use Rattle.scan_groups.proofs.Runs.{numbers_long, cells_long, nulls_long, number_at, cell_at, null_at}
use Rattle.scan_groups.proofs.run.Run.cell.Goals as goal

pub bounds-numbers-i : goal.bounds-numbers-i
bounds-numbers-i c = let long = numbers_long c.args.self c.in-Numbers.numbers c.in-Numbers.is in omega (arith, c.requires, long)

pub bounds-cells-i : goal.bounds-cells-i
bounds-cells-i c = let long = cells_long c.args.self c.in-Cells.cells c.in-Cells.is in omega (arith, c.requires, long)

pub returns-in-Numbers : goal.returns-in-Numbers
returns-in-Numbers c =
    let zs = c.in-Numbers.numbers in
    let long = numbers_long c.args.self zs c.in-Numbers.is in
    let lt : c.args.i < length zs.now = omega (arith, c.requires, long) in
    let back : to_z w128 (of_z w128 c.from.result) ≡ c.from.result = search rules in
    let read : to_z w64 (of_z w64 (get_or zs.now c.args.i (pos 0))) ≡ get_or zs.now c.args.i (pos 0) = search rules in
    ap int_val (back ∙ c.from.ensures ∙ read) ∙ number_at c.args.self zs c.args.i (pos 0) c.in-Numbers.is lt

pub returns-in-Cells : goal.returns-in-Cells
returns-in-Cells c =
    let cs = c.in-Cells.cells in
    let long = cells_long c.args.self cs c.in-Cells.is in
    let lt : c.args.i < length cs.now = omega (arith, c.requires, long) in
    ap cell_val c.index-cells-i.is ∙ cell_at c.args.self cs c.args.i c.index-cells-i.result c.in-Cells.is lt

pub returns-in-Nulls : goal.returns-in-Nulls
returns-in-Nulls c = let long = nulls_long c.args.self c.in-Nulls.field-0 c.in-Nulls.is in null_at c.args.self c.in-Nulls.field-0 c.args.i c.in-Nulls.is (omega (arith, c.requires, long))
