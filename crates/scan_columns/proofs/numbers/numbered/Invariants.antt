use Rattle.std.proofs.Common.{◌≡◌, ◌+◌, ◌++◌, drop, length}
use Rattle.std.specs.List.{items_where_true}
use Rattle.scan_columns.specs.Numbers.{numbers_from}
use Rattle.scan_columns.proofs.numbers.numbered.Given as goal

abbrev pub invariant-loop-i : goal.invariant-loop-i
invariant-loop-i l = l.made ++ items_where_true (drop l.i l.mask) (numbers_from (l.first + l.i) (length (drop l.i l.mask))) ≡ items_where_true l.mask (numbers_from l.first (length l.mask))
