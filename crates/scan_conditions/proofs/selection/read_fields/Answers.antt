use Rattle.std.proofs.Common.{◌≤◌, length, map, arith}
use Rattle.scan_conditions.specs.Parts.{part_of}
use Rattle.scan_conditions.proofs.Parted.{past_parts}
use Rattle.scan_conditions.proofs.Reading.{selected_all}
use Rattle.scan_conditions.proofs.selection.read_fields.Goals as goal

pub returns : goal.returns
returns c =
    let past : length c.args.parts.now ≤ c.in_ok-selected.end = omega arith in
    selected_all (map part_of c.args.parts.now) c.in_ok-selected.end c.in_ok-selected.selected.names.items c.in_ok-selected.selected.fields.items (past_parts c.args.parts.now c.in_ok-selected.end past) c.in_ok-selected.ensures
