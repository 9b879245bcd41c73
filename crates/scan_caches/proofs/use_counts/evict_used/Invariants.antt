use Rattle.std.proofs.Common.{◌≡◌, ◌-◌, ℕ, take, slice_get}
use Rattle.std.specs.BTreeMap.{btree_map_len}
use Rattle.scan_caches.specs.Bounded.{weight, trimmed}
use Rattle.scan_caches.specs.UseOrder.{plain, Falls, Indexed, behind}
use Rattle.std.proofs.Common.{true}
use Rattle.scan_caches.proofs.use_counts.evict_used.Given as goal

abbrev pub invariant-loop-total : goal.invariant-loop-total
invariant-loop-total g l = record {
  front : slice_get l.pairs.entries 0 ≡ slice_get l.initial.pairs.entries 0;
  cap : l.pairs.cap ≡ l.initial.pairs.cap;
  fall : (n : ℕ) × Falls n l.pairs.entries;
  indexed : Indexed l.uses.entries l.order (behind true l.pairs.entries);
  total : l.total ≡ weight (plain l.pairs.entries);
  rest : trimmed l.uses.entries (l.capacity - weight (take 1 (plain l.initial.pairs.entries))) (l.max_entries - 1) (plain (behind true l.pairs.entries))
      ≡ trimmed l.uses.entries (l.capacity - weight (take 1 (plain l.initial.pairs.entries))) (l.max_entries - 1) (plain (behind true l.initial.pairs.entries));
}

abbrev pub decreases-loop-total : goal.decreases-loop-total
decreases-loop-total g l = btree_map_len l.order
