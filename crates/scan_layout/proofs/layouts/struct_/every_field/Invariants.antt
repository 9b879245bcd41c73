use Rattle.std.proofs.Common.{◌≡◌, ◌-◌, ◌++◌}
use Rattle.scan_layout.specs.Slots.{every_field}
use Rattle.scan_layout.proofs.layouts.struct_.every_field.Given as goal

abbrev pub invariant-loop-i : goal.invariant-loop-i
invariant-loop-i l = l.found.items ++ every_field l.i (l.count - l.i) ≡ every_field 0 l.count
