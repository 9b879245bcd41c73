use Rattle.std.proofs.Common.{◌≡◌, ◌-◌, map}
use Rattle.scan_values.specs.Selections.{numbers, is_among}
use Rattle.scan_values.proofs.Rising.{replicate-all, map-not}
use Rattle.scan_values.proofs.selection.Selection.row_mask.Goals as goal

pub returns-in-All : goal.returns-in-All
returns-in-All c =
    let r = c.args.r.now in
    rw (c.in-All.is, ← replicate-all r.start (r.end - r.start)) c.new_true.ensures

pub returns-in_ok-bits-in-ExcludeByIndex : goal.returns-in_ok-bits-in-ExcludeByIndex
returns-in_ok-bits-in-ExcludeByIndex c =
    let r = c.args.r.now in
    let marks : c.in_ok-bits-in-ExcludeByIndex.bits.items ≡ map (is_among c.in-ExcludeByIndex.rows) (numbers r.start r.end) = c.in_ok-bits-in-ExcludeByIndex.ensures in
    rw (c.in-ExcludeByIndex.is, c.from_bools-in-ExcludeByIndex.ensures, c.contrary.ensures, marks) (map-not (is_among c.in-ExcludeByIndex.rows) (numbers r.start r.end))
