use Rattle.std.proofs.Common.{◌≡◌, rules}
use mir.Val.{to_z, of_z}
use mir.Syntax.{w128}
use Rattle.scan_groups.proofs.order.compare_cells.Goals as goal

pub returns : goal.returns
returns c =
    let x : to_z w128 (of_z w128 c.in-Number.x) ≡ c.in-Number.x = search rules in
    let y : to_z w128 (of_z w128 c.in-Number-b.y) ≡ c.in-Number-b.y = search rules in
    search (rules, x, y)
