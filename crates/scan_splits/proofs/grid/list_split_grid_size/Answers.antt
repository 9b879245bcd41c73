use Rattle.std.proofs.Common.{◌∙◌, arith}
use Rattle.scan_splits.proofs.Grids.{size_is}
use Rattle.scan_splits.proofs.grid.list_split_grid_size.Goals as goal

pub returns : goal.returns
returns c =
    let p = c.next_power_of_two-cells in
    c.max.ensures ∙ size_is c.args.rows p.result c.ranges.rows.fits p.ensures.power (omega (arith, p.ensures.lower_bound, c.div_ceil.ensures)) (omega (arith, p.ensures.upper_bound, c.div_ceil.ensures))
