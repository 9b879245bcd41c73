use Rattle.std.proofs.Common.{◌<◌, length, ap, subst, ◌∙◌, arith}
use Rattle.scan_segments.specs.declared.cache.CachePut.TheVariants as put
use Rattle.scan_caches.specs.Bounded.{Bounded, bounded, Puts}
use Rattle.scan_caches.specs.UseOrder.{plain}
use Rattle.scan_caches.proofs.Weights.{puts_last, length-fitted}
use Rattle.scan_caches.proofs.Plain.{plain-length}
use Rattle.scan_caches.proofs.UseOrder.{pushed, not_used}
use Rattle.scan_caches.proofs.bounded.MokaSegmentCache.store_last.Goals as goal

pub returns : goal.returns
returns g c =
    let s = c.self.inside in
    let i = c.self.invariant in
    let e = c.evict-self-inside in
    let new : Bounded = bounded (plain e.new.pairs.entries) s.uses.entries s.capacity s.max_entries s.eviction in
    let size = c.requires.size.0 in
    let most = c.requires.size.1 in
    let cap = ap (λ (b : Bounded). b.capacity) c.self.view_is in
    let count = i.2 in
    let room = i.4 in
    let less : length s.pairs.entries < s.pairs.cap = omega arith in
    let p = pushed s.pairs c.push_pair.new.pairs c.args.key.now c.args.buffer.now 0 less c.in-Ok.ensures.pairs in
    subst (λ (b : Bounded). Puts c.args.key.now c.args.buffer.now b new put.Stored) c.self.view_is
    (puts_last s.capacity s.max_entries s.uses.entries s.eviction (plain s.pairs.entries) (plain c.push_pair.new.pairs.entries) (plain e.new.pairs.entries) c.args.key.now c.args.buffer.now
    (ap (λ (b : Bounded). b.eviction) c.self.view_is ∙ c.requires.eviction) (omega arith) p.1 e.ensures.pairs)

pub invariant_of-self-2 : goal.invariant_of-self-2
invariant_of-self-2 g c =
    let s = c.self.inside in
    let i = c.self.invariant in
    let e = c.evict-self-inside in
    let w = e.ensures.weight in
    let few = length-fitted s.capacity s.max_entries (plain c.push_pair.new.pairs.entries) in
    let n = ap length e.ensures.pairs in
    let m = plain-length e.new.pairs.entries in
    (w.0, w.1, omega arith, i.3, e.ensures.cap ∙ ap (λ l. l.cap) c.in-Ok.ensures.pairs ∙ i.4, i.5, λ u. absurd (not_used s.eviction (ap (λ (b : Bounded). b.eviction) c.self.view_is ∙ c.requires.eviction) u))
