use Rattle.std.proofs.Common.{◌≡◌, length}
use Rattle.scan_caches.specs.Bounded.{weight, fitted}
use Rattle.scan_caches.specs.UseOrder.{plain}
use Rattle.scan_caches.proofs.bounded.evict.Given as goal

abbrev pub invariant-loop-total : goal.invariant-loop-total
invariant-loop-total g l = record {
  cap : l.pairs.cap ≡ l.initial.pairs.cap;
  weight : l.total ≡ weight (plain l.pairs.entries);
  fits : fitted l.capacity l.max_entries (plain l.pairs.entries) ≡ fitted l.capacity l.max_entries (plain l.initial.pairs.entries);
}

abbrev pub decreases-loop-total : goal.decreases-loop-total
decreases-loop-total g l = length l.pairs.entries
