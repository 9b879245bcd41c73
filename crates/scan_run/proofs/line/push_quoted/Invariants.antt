use Rattle.std.proofs.Common.{◌≡◌, ◌≤◌, ◌-◌, ◌++◌, drop, length}
use Rattle.std.specs.Prelude.{codes}
use Rattle.std.specs.List.{flat_map}
use Rattle.scan_run.specs.Line.{escaped, quoted}
use Rattle.scan_run.proofs.line.push_quoted.Given as goal

abbrev pub invariant-runs : goal.invariant-runs
invariant-runs l =
    (l.fn.out.items ++ quoted l.text ≡ l.out.items ++ (flat_map escaped (drop l.start l.text) ++ codes "\""))
    × (length l.fn.out.items ≤ length l.out.items) × (l.start ≤ length l.text)

abbrev pub decreases-runs : goal.decreases-runs
decreases-runs l = length l.text - l.start
