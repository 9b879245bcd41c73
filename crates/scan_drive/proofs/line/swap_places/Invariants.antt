use Rattle.std.proofs.Common.{◌≡◌, ◌≤◌, ◌-◌, take, drop}
use Rattle.scan_drive.specs.Line.{exchanged}
use Rattle.scan_drive.proofs.line.swap_places.Given as goal

abbrev pub invariant-loop-k : goal.invariant-loop-k
invariant-loop-k l = record {
  from : l.from ≤ l.k;
  same : l.order.items ≡ exchanged (take (l.k - l.from) (drop l.from l.fn.exchanges.items)) l.fn.order.items;
}
