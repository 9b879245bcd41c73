-- Which of the delivered files are given, by their numbers.
use Rattle.std.specs.Prelude.{◌&&◌, ℕ, Bool, true, Option, Some, None}
use Rattle.std.specs.declared.ops.Range.{Range}
use Rattle.scan_values.specs.Selections.{selects}
use Rattle.scan_core.specs.RowRanges.{is_in}
use Rattle.scan_multi_sources.specs.declared.numbers.PartitionNumbers.{PartitionNumbers}

-- a number lies in a range, or in all
abbrev pub is_within : Option (Range ℕ) → ℕ → Bool
is_within None n = true
is_within (Some r) n = is_in r n

-- the file of a number is given
abbrev pub is_given : PartitionNumbers → ℕ → Bool
is_given p n = is_within p.range n && selects p.selection n
