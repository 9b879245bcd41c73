use Rattle.std.proofs.Common.{◌≡◌, true, false, is_some, rules, Some, ap}
use Rattle.std.specs.BTreeMap.{get}
use Rattle.scan_caches.specs.UseOrder.{is_place, place_cmp}
use Rattle.scan_caches.proofs.UseOrder.{first_least, index_passed, none_least}
use Rattle.scan_caches.proofs.use_counts.is_least.Goals as goal

pub returns-then-is_place-clause-least : goal.returns-then-is_place-clause-least
returns-then-is_place-clause-least g c =
    let is : is_place c.args.uses.now.entries c.args.pairs.now.entries c.in-Some.place.now c.in-Some.other.now ≡ true = search rules in
    first_least c.args.uses.now.entries c.loop-place.order c.args.pairs.now.entries c.in-Some.place.now c.args.key.now c.in-Some.other.now c.count_of.result c.loop-place.invariant c.in-Some.ensures.least is c.count_of.ensures

pub loop-place-preserved-else-is_place : goal.loop-place-preserved-else-is_place
loop-place-preserved-else-is_place g c =
    let at : get place_cmp c.loop-place.order c.in-Some.place.now ≡ Some c.in-Some.other.now = c.in-Some.ensures.value in
    let stale : is_place c.args.uses.now.entries c.args.pairs.now.entries c.in-Some.place.now c.in-Some.other.now ≡ false = search rules in
    index_passed c.args.uses.now.entries c.loop-place.order c.remove.new.self c.args.pairs.now.entries c.args.pairs.now.entries c.in-Some.place.now c.in-Some.other.now c.len-len.ensures.valid.0 (λ e i. i) at stale c.remove.ensures.updates c.loop-place.invariant

pub returns-clause-least : goal.returns-clause-least
returns-clause-least g c =
    let none : is_some c.first_key_value.result ≡ false = ap is_some c.in_default.is in
    none_least c.args.uses.now.entries c.loop-place.order c.args.pairs.now.entries c.args.key.now (λ l. let some = c.first_key_value.ensures.variant.1 l in absurd (cc)) c.loop-place.invariant
