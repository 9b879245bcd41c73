-- Steps that may be applied, whatever a stream or an iterator has come to.
use Rattle.scan_core.specs.LazyData.{LazyStream, waits, begun, over, LazyApplies}
use Rattle.scan_core.specs.LazyIter.{LazyIter, IterApplies}

pub stream_applies : {R M : Type 0} (applies : M → Type 0) → ((m : M) → applies m) → (l : LazyStream R M) → LazyApplies applies l
stream_applies applies h (waits b) = h b.step
stream_applies applies h (begun t) = h t.step
stream_applies applies h (over d) = tt

pub iter_applies : {R M S : Type 0} (applies : M → Type 0) → ((m : M) → applies m) → (l : LazyIter R M S) → IterApplies applies l
iter_applies applies h (waits p) = h (p.0).step
iter_applies applies h (begun i) = h (i.stream).step
iter_applies applies h (over d) = tt
