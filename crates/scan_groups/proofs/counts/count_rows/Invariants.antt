use Rattle.std.proofs.Common.{◌≡◌, ◌≤◌, ◌+◌, List, length, take}
use Rattle.std.specs.Prelude.{All}
use Rattle.scan_values.specs.Val.{Val}
use Rattle.scan_groups.specs.Totals.{Adds, IsCount}
use Rattle.scan_groups.proofs.counts.count_rows.Given as goal

abbrev pub invariant-loop-i : goal.invariant-loop-i
invariant-loop-i l = record {
  long : length l.counts.items ≡ length l.fn.counts.items;
  bound : l.i ≤ length l.places;
  most : All (λ n. n ≤ l.most + l.i) l.counts.items;
  more : (vs : List Val) → length vs ≡ length l.places → Adds IsCount 0 (take l.i l.places) (take l.i vs) l.fn.counts.items l.counts.items;
}
