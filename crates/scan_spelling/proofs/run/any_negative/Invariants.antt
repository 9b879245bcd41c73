use Rattle.std.proofs.Common.{◌≡◌, ◌||◌, drop}
use Rattle.std.specs.Int.{is_negative}
use Rattle.std.specs.List.{list_any}
use Rattle.scan_spelling.proofs.run.any_negative.Given as goal

abbrev pub invariant-loop-number : goal.invariant-loop-number
invariant-loop-number l = (l.any || list_any is_negative (drop l.number-index l.numbers)) ≡ list_any is_negative l.numbers
