use Rattle.std.proofs.Common.{◌≡◌, ◌<◌, ◌+◌, ◌-◌, length, ap, sym, subst, ◌∙◌, false, is_some, arith, inr, true, refl}
use Rattle.scan_caches.specs.declared.bounded.SegmentEviction.TheVariants as by
use Rattle.scan_segments.specs.declared.cache.CachePut.TheVariants as put
use Rattle.std.specs.Map.{lookup}
use Rattle.scan_segments.specs.Keys.{same_key}
use Rattle.scan_caches.specs.Bounded.{Bounded, bounded, fits, is_rare, kept, Puts}
use Rattle.scan_caches.specs.UseOrder.{plain, place, Indexed, behind}
use Rattle.scan_caches.proofs.UseOrder.{pushed, rare_is, index_own, some_mapped, fall_front, kept_used}
use Rattle.scan_caches.proofs.bounded.MokaSegmentCache.store_used.Goals as goal

pub returns-then-is_rare : goal.returns-then-is_rare
returns-then-is_rare g c =
    let s = c.self.inside in
    let tiny : s.eviction ≡ by.TinyLfu = ap (λ (b : Bounded). b.eviction) c.self.view_is ∙ c.requires.eviction in
    let room : c.has_room-full.result ≡ fits (s.capacity - c.args.size) (s.max_entries - 1) (plain s.pairs.entries) =
    subst (λ (b : Bounded). c.has_room-full.result ≡ fits (b.capacity - c.args.size) (b.max_entries - 1) b.pairs) (sym c.self.view_is) c.has_room-full.ensures in
    let b0 : Bounded = bounded (plain s.pairs.entries) s.uses.entries s.capacity s.max_entries s.eviction in
    let rare : c.is_rare.result ≡ is_rare s.eviction c.args.key.now c.args.buffer.now b0 = rare_is s.eviction c.args.key.now c.args.buffer.now b0 c.is_rare.result c.has_room-full.result c.args.size tiny c.requires.size.0 room c.is_rare.ensures.rare in
    let yes : is_rare s.eviction c.args.key.now c.args.buffer.now b0 ≡ true = sym rare ∙ c.if-is_rare.true in
    subst (λ (b : Bounded). Puts c.args.key.now c.args.buffer.now b b0 put.Passed) c.self.view_is (inr yes, refl)

pub is_rare-requires-clause-known : goal.is_rare-requires-clause-known
is_rare-requires-clause-known g c =
    let s = c.self.inside in
    c.is_some-known.ensures ∙ ap is_some c.place_of-place.ensures ∙ some_mapped (λ h. place s.uses.entries (c.args.key.now, h)) (lookup (same_key c.args.key.now) s.pairs.entries)

pub evict_used-self-inside-requires-clause-indexed : goal.evict_used-self-inside-requires-clause-indexed
evict_used-self-inside-requires-clause-indexed g c =
    let s = c.self.inside in
    let tiny : s.eviction ≡ by.TinyLfu = ap (λ (b : Bounded). b.eviction) c.self.view_is ∙ c.requires.eviction in
    let count = c.self.invariant.2 in
    let full = c.self.invariant.4 in
    let less : length s.pairs.entries < s.pairs.cap = omega arith in
    let p = pushed s.pairs c.push_pair.new.pairs c.args.key.now c.args.buffer.now s.clock less c.in-Ok.ensures.pairs in
    subst (λ es. Indexed s.uses.entries c.drop_own.new.order es) (sym (ap (behind true) p.0))
    (index_own s.uses.entries c.is_rare.new.order c.drop_own.new.order s.pairs.entries s.clock c.args.key.now c.place_of-place.result (c.self.invariant.6 tiny).0 c.place_of-place.ensures c.drop_own.ensures c.is_rare.ensures.indexed)

pub evict_used-self-inside-requires-clause-fall : goal.evict_used-self-inside-requires-clause-fall
evict_used-self-inside-requires-clause-fall g c =
    let s = c.self.inside in
    let tiny : s.eviction ≡ by.TinyLfu = ap (λ (b : Bounded). b.eviction) c.self.view_is ∙ c.requires.eviction in
    let count = c.self.invariant.2 in
    let full = c.self.invariant.4 in
    let less : length s.pairs.entries < s.pairs.cap = omega arith in
    let p = pushed s.pairs c.push_pair.new.pairs c.args.key.now c.args.buffer.now s.clock less c.in-Ok.ensures.pairs in
    (s.clock + 1, fall_front s.clock c.args.key.now c.args.buffer.now s.pairs.entries c.push_pair.new.pairs.entries p.0 (c.self.invariant.6 tiny).0)

pub returns : goal.returns
returns g c =
    let s = c.self.inside in
    let tiny : s.eviction ≡ by.TinyLfu = ap (λ (b : Bounded). b.eviction) c.self.view_is ∙ c.requires.eviction in
    let count = c.self.invariant.2 in
    let full = c.self.invariant.4 in
    let less : length s.pairs.entries < s.pairs.cap = omega arith in
    let p = pushed s.pairs c.push_pair.new.pairs c.args.key.now c.args.buffer.now s.clock less c.in-Ok.ensures.pairs in
    let room : c.has_room-full.result ≡ fits (s.capacity - c.args.size) (s.max_entries - 1) (plain s.pairs.entries) =
    subst (λ (b : Bounded). c.has_room-full.result ≡ fits (b.capacity - c.args.size) (b.max_entries - 1) b.pairs) (sym c.self.view_is) c.has_room-full.ensures in
    let b0 : Bounded = bounded (plain s.pairs.entries) s.uses.entries s.capacity s.max_entries s.eviction in
    let rare : c.is_rare.result ≡ is_rare s.eviction c.args.key.now c.args.buffer.now b0 = rare_is s.eviction c.args.key.now c.args.buffer.now b0 c.is_rare.result c.has_room-full.result c.args.size tiny c.requires.size.0 room c.is_rare.ensures.rare in
    let e = c.evict_used-self-inside in
    let no : is_rare s.eviction c.args.key.now c.args.buffer.now b0 ≡ false = sym rare ∙ c.if-is_rare.false in
    let size = c.requires.size.0 in
    let most = c.requires.size.1 in
    let cap = ap (λ (b : Bounded). b.capacity) c.self.view_is in
    let stay : plain e.new.pairs.entries ≡ kept s.eviction c.args.key.now c.args.buffer.now b0 =
    kept_used s.uses.entries s.capacity (s.max_entries - 1) s.clock s.pairs.entries c.push_pair.new.pairs.entries e.new.pairs.entries c.args.key.now c.args.buffer.now c.len-len.ensures.valid.0 p.0 e.ensures.front e.ensures.trimmed
    ∙ sym (ap (λ q. kept q c.args.key.now c.args.buffer.now b0) tiny) in
    subst (λ (b : Bounded). Puts c.args.key.now c.args.buffer.now b (bounded (plain e.new.pairs.entries) s.uses.entries s.capacity s.max_entries s.eviction) put.Stored) c.self.view_is
    (omega arith, no, ap (λ ps. bounded ps s.uses.entries s.capacity s.max_entries s.eviction) stay)
