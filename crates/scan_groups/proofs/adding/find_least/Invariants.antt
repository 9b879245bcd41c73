use Rattle.std.proofs.Common.{◌≡◌, length, take, map}
use Rattle.scan_values.specs.Val.{null_val}
use Rattle.scan_values.specs.Values.{val_of}
use Rattle.scan_groups.specs.Cells.{run_vals}
use Rattle.scan_groups.specs.Totals.{Adds, IsLeastOf}
use Rattle.scan_groups.proofs.adding.find_least.Given as goal

abbrev pub invariant-loop-i : goal.invariant-loop-i
invariant-loop-i l = record {
  long : length l.values.items ≡ length l.fn.values.items;
  more : Adds IsLeastOf null_val (take l.i l.places) (take l.i (run_vals l.run)) (map val_of l.fn.values.items) (map val_of l.values.items);
}
