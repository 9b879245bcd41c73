use Rattle.std.proofs.Common.{◌≡◌, ◌+◌, ◌<◌, ◌^◌, drop}
use Rattle.scan_layout.specs.Check.{total_rows}
use Rattle.scan_layout.proofs.check.total_rows.Given as goal

abbrev pub invariant-loop-count : goal.invariant-loop-count
invariant-loop-count l = (l.total < 2 ^ 64) × (l.total + total_rows (drop l.count-index l.segments) ≡ total_rows l.segments)
