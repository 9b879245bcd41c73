use Rattle.std.proofs.Common.{◌≡◌, ◌≤◌, ◌-◌, length}
use Rattle.scan_table.proofs.Rowing.{HasRows}
use Rattle.scan_table.proofs.rows.add_runs.Given as goal

abbrev pub invariant-runs : goal.invariant-runs
invariant-runs l = record {
  within : l.from ≤ l.len;
  len : l.len ≡ length l.column.items;
  rows : HasRows l.keys l.column.dtype l.column.items l.from l.fn.groups l.groups;
}

abbrev pub decreases-runs : goal.decreases-runs
decreases-runs l = l.len - l.from
