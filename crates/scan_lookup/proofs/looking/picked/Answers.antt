use Rattle.std.proofs.Common.{◌≡◌, ◌+◌, ◌++◌, ◌<◌, ◌≤◌, [], ◌∷◌, ◌∙◌, List, ℕ, Option, Some, get_or, map, take, length, arith, sym, ap, rules}
use Rattle.scan_values.specs.Val.{Val}
use Rattle.scan_values.specs.Values.{val_of}
use Rattle.scan_values.specs.declared.value.Value.{Value}
use Rattle.scan_lookup.specs.Reading.{slot_value}
use Rattle.scan_lookup.specs.declared.groups.Slot.{Slot}
use Rattle.scan_lookup.proofs.Listing.{map_pushed, take_next, take_whole}
use Rattle.scan_lookup.proofs.looking.picked.Goals as goal

pub loop-i-init : goal.loop-i-init
loop-i-init c =
    let none : c.in_ok-picked.picked.items ≡ [] = search rules in
    record { same = ap (λ (vs : List Value). map Some (map val_of vs)) none }

pub value_in-requires : goal.value_in-requires
value_in-requires c = c.requires c.loop-i.i (record { group = 0; place = 0 }) (omega (arith, c.loop-i-test.true))

pub loop-i-preserved : goal.loop-i-preserved
loop-i-preserved c =
    let slots : List Slot = c.args.slots.now in
    let i : ℕ = c.loop-i.i in
    let d : Slot = record { group = 0; place = 0 } in
    let s : Slot = get_or slots i d in
    let lt : i < length slots = omega (arith, c.loop-i-test.true) in
    let f : Slot → Option Val = slot_value c.args.values.now in
    let v : Value = c.in_ok-value.value in
    let old : List Value = c.loop-i.picked.items in
    let pushed : c.push.new.self.items ≡ old ++ (v ∷ []) = search rules in
    let inv : map Some (map val_of old) ≡ map f (take i slots) = c.loop-i.invariant.same in
    let one : Some (val_of v) ≡ f s = c.in_ok-value.ensures in
    let done : take i slots ++ s ∷ [] ≡ take (i + 1) slots = sym (take_next slots i d lt) in
    record {
      same =
          ap (λ (vs : List Value). map Some (map val_of vs)) pushed
          ∙ ap (map Some) (map_pushed val_of old v) ∙ map_pushed Some (map val_of old) (val_of v)
          ∙ ap (λ (os : List (Option Val)). os ++ Some (val_of v) ∷ []) inv ∙ ap (λ (o : Option Val). map f (take i slots) ++ o ∷ []) one
          ∙ sym (map_pushed f (take i slots) s) ∙ ap (map f) done;
    }

pub returns : goal.returns
returns c =
    let slots : List Slot = c.args.slots.now in
    let end : length slots ≤ c.loop-i.i = omega (arith, c.loop-i-test.false) in
    c.loop-i.invariant.same ∙ ap (map (slot_value c.args.values.now)) (take_whole slots c.loop-i.i end)
