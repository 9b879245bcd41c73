use Rattle.std.proofs.Common.{◌≡◌, ◌<◌, ◌∙◌, length, true, false, is_some, rules, Some, None, sym, ap, subst, slice_get, arith}
use Rattle.std.specs.Prelude.{option_map}
use Rattle.std.specs.BTreeMap.{get}
use Rattle.std.specs.List.{IsDistinct}
use Rattle.std.specs.Map.{keys_of, lookup, remove_entry}
use Rattle.scan_segments.specs.Keys.{same_key}
use Rattle.scan_caches.specs.Bounded.{weight, trimmed}
use Rattle.scan_caches.specs.UseOrder.{plain, Falls, Indexed, behind, is_place, place_cmp}
use Rattle.scan_caches.proofs.Plain.{plain-removed, plain-lookup, plain-keys}
use Rattle.scan_caches.proofs.Evictions.{found-goes, trimmed-goes}
use Rattle.scan_caches.proofs.UseOrder.{index_passed, index_gone, index_newer, in_behind, placed_some, front_stays, behind_apart, fall_removed, first_goes, nothing_there}
use Rattle.scan_caches.proofs.use_counts.drop_first.Goals as goal

pub unreachable-requires : goal.unreachable-requires
unreachable-requires g c =
    let none : is_some c.pop_first.result ≡ false = ap is_some c.in_default.is in
    placed_some c.args.uses.now.entries c.args.order.now c.args.pairs.now.entries (λ l. let some = c.pop_first.ensures.variant.1 l in absurd (cc)) c.requires.indexed c.requires.some

pub returns-then-place-newest-clause-indexed : goal.returns-then-place-newest-clause-indexed
returns-then-place-newest-clause-indexed g c =
    let l = c.if-place-newest.true in
    index_newer c.args.uses.now.entries c.args.order.now c.pop_first.new.self c.args.pairs.now.entries c.requires.fall.0 c.args.newest c.in-Some.place c.requires.fall.1 c.requires.front (omega arith) c.in-Some.ensures.updates c.requires.indexed

pub returns-then-not-is_place-clause-indexed : goal.returns-then-not-is_place-clause-indexed
returns-then-not-is_place-clause-indexed g c =
    let at : get place_cmp c.args.order.now c.in-Some.place ≡ Some c.in-Some.key = c.in-Some.ensures.value in
    let stale : is_place c.args.uses.now.entries c.args.pairs.now.entries c.in-Some.place c.in-Some.key ≡ false = search rules in
    index_passed c.args.uses.now.entries c.args.order.now c.pop_first.new.self c.args.pairs.now.entries (behind true c.args.pairs.now.entries) c.in-Some.place c.in-Some.key c.len-len.ensures.valid.0 (in_behind true c.args.pairs.now.entries) at stale c.in-Some.ensures.updates c.requires.indexed

pub unreachable-requires-in-None : goal.unreachable-requires-in-None
unreachable-requires-in-None g c =
    let is : is_place c.args.uses.now.entries c.args.pairs.now.entries c.in-Some.place c.in-Some.key ≡ true = search rules in
    let none : lookup (same_key c.in-Some.key) c.args.pairs.now.entries ≡ None = search rules in
    nothing_there c.in-Some.key c.args.uses.now.entries c.args.pairs.now.entries c.in-Some.place is none

pub returns-clause-front : goal.returns-clause-front
returns-clause-front g c =
    let is : is_place c.args.uses.now.entries c.args.pairs.now.entries c.in-Some.place c.in-Some.key ≡ true = search rules in
    let there : lookup (same_key c.in-Some.key) c.args.pairs.now.entries ≡ Some c.in-Some-pop.held = search rules in
    let l = c.if-place-newest.false in
    let less : c.in-Some.place.1 < c.args.newest = omega arith in
    let new : c.pop.new.self.entries ≡ remove_entry (same_key c.in-Some.key) c.args.pairs.now.entries = ap (λ l. l.entries) c.pop.ensures.entries in
    let stays = front_stays c.args.uses.now.entries c.args.newest c.in-Some.place c.in-Some.key c.in-Some-pop.held less c.args.pairs.now.entries c.requires.front is there in
    ap (λ es. slice_get es 0) new ∙ stays.0

pub returns-clause-fall : goal.returns-clause-fall
returns-clause-fall g c =
    let new : c.pop.new.self.entries ≡ remove_entry (same_key c.in-Some.key) c.args.pairs.now.entries = ap (λ l. l.entries) c.pop.ensures.entries in
    (c.requires.fall.0, subst (λ es. Falls c.requires.fall.0 es) (sym new) (fall_removed (same_key c.in-Some.key) c.requires.fall.0 c.args.pairs.now.entries c.requires.fall.1))

pub returns-clause-indexed : goal.returns-clause-indexed
returns-clause-indexed g c =
    let is : is_place c.args.uses.now.entries c.args.pairs.now.entries c.in-Some.place c.in-Some.key ≡ true = search rules in
    let there : lookup (same_key c.in-Some.key) c.args.pairs.now.entries ≡ Some c.in-Some-pop.held = search rules in
    let l = c.if-place-newest.false in
    let less : c.in-Some.place.1 < c.args.newest = omega arith in
    let new : c.pop.new.self.entries ≡ remove_entry (same_key c.in-Some.key) c.args.pairs.now.entries = ap (λ l. l.entries) c.pop.ensures.entries in
    let stays = front_stays c.args.uses.now.entries c.args.newest c.in-Some.place c.in-Some.key c.in-Some-pop.held less c.args.pairs.now.entries c.requires.front is there in
    let at : get place_cmp c.args.order.now c.in-Some.place ≡ Some c.in-Some.key = c.in-Some.ensures.value in
    subst (λ es. Indexed c.args.uses.now.entries c.pop_first.new.self es) (sym (ap (behind true) new ∙ stays.1))
    (index_gone c.args.uses.now.entries c.args.order.now c.pop_first.new.self (behind true c.args.pairs.now.entries) c.in-Some.place c.in-Some.key (behind_apart c.args.pairs.now.entries c.len-len.ensures.valid.0) at c.in-Some.ensures.updates c.requires.indexed)

pub returns-clause-weight : goal.returns-clause-weight
returns-clause-weight g c =
    let there : lookup (same_key c.in-Some.key) c.args.pairs.now.entries ≡ Some c.in-Some-pop.held = search rules in
    let new : c.pop.new.self.entries ≡ remove_entry (same_key c.in-Some.key) c.args.pairs.now.entries = ap (λ l. l.entries) c.pop.ensures.entries in
    let p = (found-goes (same_key c.in-Some.key) (plain c.args.pairs.now.entries) c.in-Some-pop.held.bytes (plain-lookup (same_key c.in-Some.key) c.args.pairs.now.entries ∙ ap (option_map (λ h. h.bytes)) there)).0 in
    let w = ap weight (ap plain new ∙ plain-removed (same_key c.in-Some.key) c.args.pairs.now.entries) in
    omega (arith, p, w, ap length c.as_slice.ensures)

pub returns-clause-trimmed : goal.returns-clause-trimmed
returns-clause-trimmed g c cap n over =
    let is : is_place c.args.uses.now.entries c.args.pairs.now.entries c.in-Some.place c.in-Some.key ≡ true = search rules in
    let there : lookup (same_key c.in-Some.key) c.args.pairs.now.entries ≡ Some c.in-Some-pop.held = search rules in
    let l = c.if-place-newest.false in
    let less : c.in-Some.place.1 < c.args.newest = omega arith in
    let new : c.pop.new.self.entries ≡ remove_entry (same_key c.in-Some.key) c.args.pairs.now.entries = ap (λ l. l.entries) c.pop.ensures.entries in
    let stays = front_stays c.args.uses.now.entries c.args.newest c.in-Some.place c.in-Some.key c.in-Some-pop.held less c.args.pairs.now.entries c.requires.front is there in
    let us = c.args.uses.now.entries in
    let es = behind true c.args.pairs.now.entries in
    let apart : IsDistinct same_key (keys_of (plain es)) = subst (λ ks. IsDistinct same_key ks) (sym (plain-keys es)) (behind_apart c.args.pairs.now.entries c.len-len.ensures.valid.0) in
    let least = first_goes us c.args.order.now c.args.pairs.now.entries c.requires.fall.0 c.args.newest c.in-Some.place c.in-Some.key c.requires.fall.1 c.requires.front c.requires.indexed c.in-Some.ensures.least less is in
    ap (trimmed us cap n) (ap plain (ap (behind true) new ∙ stays.1) ∙ plain-removed (same_key c.in-Some.key) es)
    ∙ trimmed-goes us cap n (plain es) c.in-Some.key c.in-Some-pop.held.bytes apart over least (plain-lookup (same_key c.in-Some.key) es ∙ ap (option_map (λ h. h.bytes)) stays.2)
