use Rattle.std.proofs.Common.{◌≡◌, ◌&&◌, drop}
use Rattle.scan_spelling.specs.LeafColumns.{are_flags}
use Rattle.scan_spelling.proofs.spelt.are_flags.Given as goal

abbrev pub invariant-loop-flag : goal.invariant-loop-flag
invariant-loop-flag l = (l.good && are_flags (drop l.flag-index l.flags)) ≡ are_flags l.flags
