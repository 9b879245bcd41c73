use Rattle.std.proofs.Common.{◌≡◌, ◌+◌, ◌*◌, length, ap, sym, subst, ◌∙◌, is_some, rules, arith}
use Rattle.scan_caches.specs.declared.bounded.SegmentEviction.TheVariants as by
use Rattle.scan_segments.specs.declared.cache.CacheGet.TheVariants as get
use Rattle.scan_segments.specs.Keys.{same_key}
use Rattle.scan_caches.specs.Bounded.{Bounded, bounded, weight, used, uses_after, Gets}
use Rattle.scan_caches.specs.UseOrder.{plain, Falls, Indexed, behind}
use Rattle.scan_caches.proofs.Weights.{weight-promoted, length-promoted}
use Rattle.scan_caches.proofs.Plain.{plain-length}
use Rattle.scan_caches.proofs.UseOrder.{promoted_none}
use Rattle.scan_caches.proofs.bounded.MokaSegmentCache.look_up_used.Goals as goal

pub invariant_of-self-in-Ok-Some : goal.invariant_of-self-in-Ok-Some
invariant_of-self-in-Ok-Some g c =
    let i = c.self.invariant in
    let s = c.self.inside in
    let u = c.in-Ok-Some.ensures in
    let w = ap weight u.pairs ∙ weight-promoted (same_key c.args.key.now) (plain s.pairs.entries) in
    let n = ap length u.pairs ∙ length-promoted (same_key c.args.key.now) (plain s.pairs.entries) in
    let old = plain-length s.pairs.entries in
    let new = plain-length c.use_key.new.pairs.entries in
    let few = i.2 in
    let next : c.in-Some.next ≡ s.clock + 1 = search rules in (
      i.0 ∙ sym w,
      i.1,
      omega arith,
      i.3,
      c.use_key.ensures.cap ∙ i.4,
      ap (λ l. l.cap) u.uses ∙ i.5,
      λ _. (
        subst (λ m. Falls m c.use_key.new.pairs.entries) (sym next) u.fall,
        subst (λ o. Indexed c.use_key.new.uses.entries c.use_key.new.order (behind (is_some o) c.use_key.new.pairs.entries)) c.in-Ok-Some.field-0-is u.indexed,
      ),
    )

pub invariant_of-self-in-Ok-None : goal.invariant_of-self-in-Ok-None
invariant_of-self-in-Ok-None g c =
    let i = c.self.invariant in
    let s = c.self.inside in
    let u = c.in-Ok-None.ensures in
    let w = ap weight u.pairs ∙ weight-promoted (same_key c.args.key.now) (plain s.pairs.entries) in
    let n = ap length u.pairs ∙ length-promoted (same_key c.args.key.now) (plain s.pairs.entries) in
    let old = plain-length s.pairs.entries in
    let new = plain-length c.use_key.new.pairs.entries in
    let few = i.2 in
    let next : c.in-Some.next ≡ s.clock + 1 = search rules in (
      i.0 ∙ sym w,
      i.1,
      omega arith,
      i.3,
      c.use_key.ensures.cap ∙ i.4,
      ap (λ l. l.cap) u.uses ∙ i.5,
      λ _. (
        subst (λ m. Falls m c.use_key.new.pairs.entries) (sym next) u.fall,
        subst (λ o. Indexed c.use_key.new.uses.entries c.use_key.new.order (behind (is_some o) c.use_key.new.pairs.entries)) c.in-Ok-None.field-0-is u.indexed,
      ),
    )

pub returns-in-Ok-None : goal.returns-in-Ok-None
returns-in-Ok-None g c =
    let s = c.self.inside in
    let u = c.in-Ok-None.ensures in
    let tiny : s.eviction ≡ by.TinyLfu = ap (λ (b : Bounded). b.eviction) c.self.view_is ∙ c.requires in
    let none = sym c.in-Ok-None.field-0-is ∙ u.value in
    let es = u.pairs ∙ promoted_none (same_key c.args.key.now) (plain s.pairs.entries) none in
    let us = ap (λ l. l.entries) u.uses ∙ ap (λ n. used n c.args.key.now s.uses.entries) c.self.invariant.5 ∙ sym (ap (λ q. uses_after c.args.key.now q (4 * s.max_entries) s.uses.entries) tiny) in
    subst (λ (b : Bounded). Gets c.args.key.now b (bounded (plain c.use_key.new.pairs.entries) c.use_key.new.uses.entries s.capacity s.max_entries s.eviction) get.Miss) c.self.view_is
    (sym none, λ i. bounded (es i) (us i) s.capacity s.max_entries s.eviction)
