-- Numbers whose places are known.
use Rattle.std.specs.Prelude.{◌≡◌, ℕ, List, [], ◌∷◌, Some, All}
use Rattle.std.specs.BTreeMap.{BTreeMap, get}
use Rattle.scan_values.specs.Val.{Val, int_val}
use Rattle.scan_groups.specs.Order.{key_cmp}
use Rattle.scan_groups.specs.declared.near.Near.{Near}
use Rattle.scan_groups.specs.declared.near.Slot.{Slot}

-- the key of one number has this place
abbrev pub IsAt : BTreeMap (List Val) ℕ → Slot → Type 0
IsAt m s = get key_cmp m (int_val s.number ∷ []) ≡ Some s.place

abbrev pub AreAt : BTreeMap (List Val) ℕ → Near → Type 0
AreAt m n = All (IsAt m) n.slots.items
