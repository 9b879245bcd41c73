use Rattle.std.specs.BTreeMap.{btree_map_len}
use Rattle.scan_caches.specs.UseOrder.{Indexed}
use Rattle.scan_caches.proofs.use_counts.is_least.Given as goal

abbrev pub invariant-loop-place : goal.invariant-loop-place
invariant-loop-place g l = Indexed l.uses.entries l.order l.pairs.entries

abbrev pub decreases-loop-place : goal.decreases-loop-place
decreases-loop-place g l = btree_map_len l.order
