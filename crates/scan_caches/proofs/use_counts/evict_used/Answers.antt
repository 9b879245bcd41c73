use Rattle.std.proofs.Common.{◌≡◌, ℕ, suc, List, [], ◌∷◌, ◌⊎◌, ◌-◌, ◌<◌, ◌∙◌, inl, inr, length, take, true, Some, slice_get, ap, sym, arith}
use Rattle.std.specs.Prelude.{option_map}
use Rattle.scan_caches.specs.Bounded.{weight}
use Rattle.scan_caches.specs.UseOrder.{Entry, plain, behind}
use Rattle.scan_caches.proofs.Evictions.{trimmed-all}
use Rattle.scan_caches.proofs.UseOrder.{front_weight, front_length}
use Rattle.scan_caches.proofs.use_counts.evict_used.Goals.{then-total-from, else-total-from+then-len-max_entries}
use Rattle.scan_caches.proofs.use_counts.evict_used.Goals as goal

by_weight : (es : List Entry) {n m : ℕ} → n < weight (plain es) → m ≡ suc (length (plain es)) → 1 < m
by_weight [] h l = absurd (omega arith)
by_weight (e ∷ es) h l = omega arith

pub drop_first-requires-clause-front : goal.drop_first-requires-clause-front
drop_first-requires-clause-front g c = ap (option_map (λ e. e.1.tick)) c.loop-total.invariant.front ∙ c.requires.front

pub drop_first-requires-clause-some : goal.drop_first-requires-clause-some
drop_first-requires-clause-some g c =
    let i = c.loop-total.invariant in
    let w = i.total in
    let f = c.from.ensures in
    let es = c.loop-total.pairs.entries in
    let split = front_weight es c.args.pairs.now.entries i.front in
    let tick : option_map (λ e. e.1.tick) (slice_get es 0) ≡ Some c.args.newest = ap (option_map (λ e. e.1.tick)) i.front ∙ c.requires.front in
    let long = front_length es c.args.newest tick in
    let fit = c.requires.fits.0 in
    let some = c.requires.fits.1 in
    let over : (c.args.capacity - weight (take 1 (plain c.args.pairs.now.entries)) < weight (plain (behind true es))) ⊎ (c.args.max_entries - 1 < length (plain (behind true es))) = elim c.if-total-from.branch [
      | then-total-from b ↦ let t = b.if-total-from.true in inl (omega arith)
      | else-total-from+then-len-max_entries b ↦ let n = b.len.ensures.len in let t = b.if-len-max_entries.true in inr (omega arith)
    ] in
    elim over [
      | inl heavy ↦ by_weight (behind true es) heavy long
      | inr more ↦ omega arith
    ]

pub overflow_sub-total : goal.overflow_sub-total
overflow_sub-total g c =
    let w = c.loop-total.invariant.total in
    let d = c.drop_first.ensures.weight in
    omega arith

pub loop-total-preserved : goal.loop-total-preserved
loop-total-preserved g c =
    let i = c.loop-total.invariant in
    let w = i.total in
    let f = c.from.ensures in
    let es = c.loop-total.pairs.entries in
    let split = front_weight es c.args.pairs.now.entries i.front in
    let tick : option_map (λ e. e.1.tick) (slice_get es 0) ≡ Some c.args.newest = ap (option_map (λ e. e.1.tick)) i.front ∙ c.requires.front in
    let long = front_length es c.args.newest tick in
    let fit = c.requires.fits.0 in
    let some = c.requires.fits.1 in
    let over : (c.args.capacity - weight (take 1 (plain c.args.pairs.now.entries)) < weight (plain (behind true es))) ⊎ (c.args.max_entries - 1 < length (plain (behind true es))) = elim c.if-total-from.branch [
      | then-total-from b ↦ let t = b.if-total-from.true in inl (omega arith)
      | else-total-from+then-len-max_entries b ↦ let n = b.len.ensures.len in let t = b.if-len-max_entries.true in inr (omega arith)
    ] in
    let d = c.drop_first.ensures in
    let g = d.weight in
    record {
      front = d.front ∙ i.front;
      cap = d.cap ∙ i.cap;
      fall = d.fall;
      indexed = d.indexed;
      total = omega arith;
      rest = d.trimmed (c.args.capacity - weight (take 1 (plain c.args.pairs.now.entries))) (c.args.max_entries - 1) over ∙ i.rest;
    }

pub returns-clause-trimmed : goal.returns-clause-trimmed
returns-clause-trimmed g c =
    let i = c.loop-total.invariant in
    let w = i.total in
    let f = c.from.ensures in
    let es = c.loop-total.pairs.entries in
    let split = front_weight es c.args.pairs.now.entries i.front in
    let tick : option_map (λ e. e.1.tick) (slice_get es 0) ≡ Some c.args.newest = ap (option_map (λ e. e.1.tick)) i.front ∙ c.requires.front in
    let long = front_length es c.args.newest tick in
    let fit = c.requires.fits.0 in
    let some = c.requires.fits.1 in
    let l = c.len.ensures.len in
    let t = c.if-total-from.false in
    let m = c.if-len-max_entries.false in
    sym (trimmed-all c.args.uses.now.entries (c.args.capacity - weight (take 1 (plain c.args.pairs.now.entries))) (c.args.max_entries - 1) (plain (behind true es)) (omega arith) (omega arith)) ∙ i.rest
