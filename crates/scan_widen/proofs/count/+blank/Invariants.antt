use Rattle.std.proofs.Common.{◌≡◌, ◌≤◌, ◌+◌, ◌*◌, drop, length}
use Rattle.scan_values.specs.DataType.{fields_of, size_of, fields_size}
use Rattle.scan_widen.specs.Blanks.{blanks_behind}
use Rattle.scan_widen.specs.Counts.{capped}
use Rattle.scan_widen.proofs.count.+blank.Given as goal

abbrev pub decreases-count_blank : goal.decreases-count_blank
decreases-count_blank l = 8 * size_of l.dtype.now

abbrev pub decreases-count_blanks : goal.decreases-count_blanks
decreases-count_blanks l = 8 * fields_size (fields_of l.fields.now) + 1

abbrev pub invariant-count_blanks-loop-i : goal.invariant-count_blanks-loop-i
invariant-count_blanks-loop-i l =
    (capped (l.total + length (blanks_behind (fields_of (drop l.i l.fields)) l.rows)) ≡ capped (l.count + length (blanks_behind (fields_of l.fields) l.rows)))
    × (l.total ≤ 4294967297)
