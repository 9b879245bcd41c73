use Rattle.std.proofs.Common.{◌≡◌, ◌≤◌, ◌-◌, ◌++◌, length, Some}
use Rattle.scan_lines.specs.Writes.{Writes}
use Rattle.scan_lines.proofs.Quoting.{front_text}
use Rattle.scan_lines.proofs.quoted.put_quoted.Given as goal

abbrev pub invariant-runs : goal.invariant-runs
invariant-runs l =
    Writes (front_text l.text l.start) l.at l.fn.buf l.buf (Some l.end)
    × (l.start ≤ length l.text)

abbrev pub decreases-runs : goal.decreases-runs
decreases-runs l = length l.text - l.start
