use Rattle.std.proofs.Common.{◌≡◌, ◌+◌, ◌++◌, ◌<◌, ◌≤◌, [], ◌∷◌, List, ℕ, get_or, take, length, arith, sym, subst, rules}
use Rattle.scan_places.specs.declared.place.Place.{Place}
use Rattle.scan_lookup.specs.declared.groups.Group.{Group}
use Rattle.scan_lookup.specs.declared.groups.Slot.{Slot}
use Rattle.scan_lookup.proofs.Grouping.{Grouping, grouping_none, grouping_next, grouping_done}
use Rattle.scan_lookup.proofs.Listing.{take_next, take_whole}
use Rattle.scan_lookup.proofs.groups.grouped.Goals as goal

pub loop-i-init : goal.loop-i-init
loop-i-init c =
    let none : c.new-groups.result.items ≡ [] = search rules in
    let slots : c.in_ok-slots.slots.items ≡ [] = search rules in
    record {
      grouping = subst (λ (gs : List Group). Grouping [] gs c.in_ok-slots.slots.items c.new-numbers.result) (sym none)
          (subst (λ (ss : List Slot). Grouping [] [] ss c.new-numbers.result) (sym slots) (subst (Grouping [] [] []) (sym c.new-numbers.ensures) grouping_none));
    }

pub add-requires : goal.add-requires
add-requires c = c.loop-i.invariant.grouping.numbers

pub loop-i-preserved : goal.loop-i-preserved
loop-i-preserved c =
    let places : List Place = c.args.places.now in
    let i : ℕ = c.loop-i.i in
    let d : Place = record { file = 0; row = 0 } in
    let p : Place = get_or places i d in
    let lt : i < length places = omega (arith, c.loop-i-test.true) in
    let done : take i places ++ p ∷ [] ≡ take (i + 1) places = sym (take_next places i d lt) in
    let s : Slot = c.in_ok-slot.slot in
    let pushed : c.push.new.self.items ≡ c.loop-i.slots.items ++ (s ∷ []) = search rules in
    let next = grouping_next (take i places) c.loop-i.groups.items c.add.new.groups.items c.loop-i.slots.items c.loop-i.numbers c.add.new.numbers p s c.loop-i.invariant.grouping c.in_ok-slot.ensures in
    record {
      grouping = subst (λ (ss : List Slot). Grouping (take (i + 1) places) c.add.new.groups.items ss c.add.new.numbers) (sym pushed)
          (subst (λ (ds : List Place). Grouping ds c.add.new.groups.items (c.loop-i.slots.items ++ s ∷ []) c.add.new.numbers) done next);
    }

pub returns : goal.returns
returns c =
    let places : List Place = c.args.places.now in
    let end : length places ≤ c.loop-i.i = omega (arith, c.loop-i-test.false) in
    grouping_done places c.loop-i.groups.items c.loop-i.slots.items c.loop-i.numbers
    (subst (λ (ds : List Place). Grouping ds c.loop-i.groups.items c.loop-i.slots.items c.loop-i.numbers) (take_whole places c.loop-i.i end) c.loop-i.invariant.grouping)
