use Rattle.std.proofs.Common.{◌≡◌, ◌++◌, drop}
use Rattle.std.specs.Prelude.{string_bytes}
use Rattle.scan_conditions.specs.Written.{joined_names, with_dots}
use Rattle.scan_conditions.proofs.selection.joined.Given as goal

abbrev pub invariant-loop-i : goal.invariant-loop-i
invariant-loop-i l = string_bytes l.text ++ with_dots (drop l.i l.names) ≡ joined_names l.names
