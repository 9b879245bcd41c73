use Rattle.std.proofs.Common.{◌≡◌, length, take}
use Rattle.scan_groups.specs.Cells.{run_vals}
use Rattle.scan_groups.specs.Totals.{Adds, IsCountOf}
use Rattle.scan_groups.proofs.adding.count_values.Given as goal

abbrev pub invariant-loop-i : goal.invariant-loop-i
invariant-loop-i l = record {
  long : length l.counts.items ≡ length l.fn.counts.items;
  more : Adds IsCountOf 0 (take l.i l.places) (take l.i (run_vals l.run)) l.fn.counts.items l.counts.items;
}
