use Rattle.std.proofs.Common.{◌<◌, ◌≤◌, ◌≡◌, ℕ, length, get_or}
use Rattle.scan_columns.proofs.picks.last_uses.Given as goal

abbrev pub invariant-loop-i : goal.invariant-loop-i
invariant-loop-i l = record {
  count : length l.last.items ≡ l.fn.count;
  last : (j : ℕ) → j < l.i → j ≤ get_or l.last.items (get_or l.places j 0) 0;
}
