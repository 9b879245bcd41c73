use Rattle.std.proofs.Common.{◌≡◌, length, subst, sym, ◌∙◌}
use Rattle.scan_caches.specs.Bounded.{Bounded}
use Rattle.scan_caches.proofs.Plain.{plain-length}
use Rattle.scan_caches.proofs.bounded.MokaSegmentCache.entry_count.Goals as goal

pub returns-clause-count : goal.returns-clause-count
returns-clause-count g c = subst (λ (b : Bounded). c.len.result ≡ length b.pairs) c.self.view_is (c.len.ensures.len ∙ sym (plain-length c.self.inside.pairs.entries))
