use Rattle.std.proofs.Common.{◌≡◌, ◌*◌, length, ap, sym, subst, ◌∙◌, Some, None, rules, arith}
use Rattle.std.specs.Prelude.{option_map}
use Rattle.std.specs.Map.{lookup}
use Rattle.scan_caches.specs.declared.bounded.SegmentEviction.TheVariants as by
use Rattle.scan_segments.specs.declared.cache.CacheGet.TheVariants as get
use Rattle.scan_segments.specs.Keys.{same_key}
use Rattle.scan_caches.specs.Bounded.{Bounded, bounded, weight, Gets}
use Rattle.scan_caches.specs.UseOrder.{plain}
use Rattle.scan_caches.proofs.Weights.{weight-promoted, length-promoted}
use Rattle.scan_caches.proofs.Plain.{plain-length, plain-lookup, plain-promoted}
use Rattle.scan_caches.proofs.UseOrder.{unused, not_used}
use Rattle.scan_caches.proofs.bounded.MokaSegmentCache.look_up_last.Goals as goal

pub returns-in_default : goal.returns-in_default
returns-in_default g c =
    let s = c.self.inside in
    let none : lookup (same_key c.args.key.now) s.pairs.entries ≡ None = search rules in
    let last : s.eviction ≡ by.Lru = ap (λ (b : Bounded). b.eviction) c.self.view_is ∙ c.requires in
    let now : Gets c.args.key.now (bounded (plain s.pairs.entries) s.uses.entries s.capacity s.max_entries s.eviction) (bounded (plain s.pairs.entries) s.uses.entries s.capacity s.max_entries s.eviction) get.Miss =
    (plain-lookup (same_key c.args.key.now) s.pairs.entries ∙ ap (option_map (λ h. h.bytes)) none, ap (λ us. bounded (plain s.pairs.entries) us s.capacity s.max_entries s.eviction) (unused c.args.key.now s.eviction (4 * s.max_entries) s.uses.entries last)) in
    subst (λ (b : Bounded). Gets c.args.key.now b b get.Miss) c.self.view_is now

pub invariant_of-self : goal.invariant_of-self
invariant_of-self g c =
    let i = c.self.invariant in
    let s = c.self.inside in
    let e = ap (λ l. plain l.entries) c.promote.ensures.entries ∙ plain-promoted (same_key c.args.key.now) s.pairs.entries in
    let w = ap weight e ∙ weight-promoted (same_key c.args.key.now) (plain s.pairs.entries) in
    let n = ap length e ∙ length-promoted (same_key c.args.key.now) (plain s.pairs.entries) in
    let old = plain-length s.pairs.entries in
    let new = plain-length c.promote.new.self.entries in
    let few = i.2 in
    (i.0 ∙ sym w, i.1, omega arith, i.3, ap (λ l. l.cap) c.promote.ensures.entries ∙ i.4, i.5, λ u. absurd (not_used s.eviction (ap (λ (b : Bounded). b.eviction) c.self.view_is ∙ c.requires) u))

pub returns : goal.returns
returns g c =
    let s = c.self.inside in
    let there : lookup (same_key c.args.key.now) s.pairs.entries ≡ Some c.in-Some.held.now = search rules in
    let last : s.eviction ≡ by.Lru = ap (λ (b : Bounded). b.eviction) c.self.view_is ∙ c.requires in
    let e = ap (λ l. plain l.entries) c.promote.ensures.entries ∙ plain-promoted (same_key c.args.key.now) s.pairs.entries in
    let us = unused c.args.key.now s.eviction (4 * s.max_entries) s.uses.entries last in
    subst (λ (b : Bounded). Gets c.args.key.now b (bounded (plain c.promote.new.self.entries) s.uses.entries s.capacity s.max_entries s.eviction) (get.Hit c.in-Ok.bytes)) c.self.view_is
    (plain-lookup (same_key c.args.key.now) s.pairs.entries ∙ ap (option_map (λ h. h.bytes)) there ∙ ap Some (sym c.in-Ok.ensures), λ i. bounded (e i) (us i) s.capacity s.max_entries s.eviction)
