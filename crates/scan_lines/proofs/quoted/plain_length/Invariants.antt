use Rattle.std.proofs.Common.{◌≡◌, take}
use Rattle.std.specs.List.{flat_map}
use Rattle.scan_lines.specs.Line.{escaped}
use Rattle.scan_lines.proofs.quoted.plain_length.Given as goal

abbrev pub invariant-loop-i : goal.invariant-loop-i
invariant-loop-i l = flat_map escaped (take l.i l.text) ≡ take l.i l.text
