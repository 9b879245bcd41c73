use Rattle.std.proofs.Common.{◌+◌, ◌-◌, ◌*◌, map}
use Rattle.scan_conditions.specs.Parts.{part_of}
use Rattle.scan_conditions.specs.Reads.{IsRead, said_of}
use Rattle.scan_conditions.proofs.reader.+reading.Given as goal

abbrev pub decreases-level_at : goal.decreases-level_at
decreases-level_at l = 20 * l.depth + 2 * (6 - l.level) + 4

abbrev pub decreases-joined_at : goal.decreases-joined_at
decreases-joined_at l = 20 * l.depth + 2 * (6 - l.level) + 3

abbrev pub decreases-contrary_at : goal.decreases-contrary_at
decreases-contrary_at l = 20 * l.depth + 9

abbrev pub decreases-primary_at : goal.decreases-primary_at
decreases-primary_at l = 20 * l.depth + 3

abbrev pub decreases-grouped_at : goal.decreases-grouped_at
decreases-grouped_at l = 20 * l.depth + 2

abbrev pub decreases-call_at : goal.decreases-call_at
decreases-call_at l = 20 * l.depth + 2

abbrev pub invariant-joined_at-joined : goal.invariant-joined_at-joined
invariant-joined_at-joined l = IsRead l.rows l.level (map part_of l.parts) l.at l.end-2 (said_of l.operand)
