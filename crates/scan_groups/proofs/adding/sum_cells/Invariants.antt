use Rattle.std.proofs.Common.{◌≡◌, ℕ, length, take}
use Rattle.std.specs.Prelude.{All}
use Rattle.scan_groups.specs.Cells.{run_vals}
use Rattle.scan_groups.specs.Totals.{Adds, IsSumOf, no_sum}
use Rattle.scan_groups.specs.Within.{IsWithin}
use Rattle.scan_groups.proofs.adding.sum_cells.Given as goal

abbrev pub invariant-loop-i : goal.invariant-loop-i
invariant-loop-i l = record {
  long : length l.sums.items ≡ length l.fn.sums.items;
  near : (k : ℕ) → All (IsWithin k) l.fn.sums.items → All (IsWithin k) l.sums.items;
  more : Adds IsSumOf no_sum (take l.i l.places) (take l.i (run_vals l.run)) l.fn.sums.items l.sums.items;
}
