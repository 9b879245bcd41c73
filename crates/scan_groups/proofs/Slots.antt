-- What stands in slots is true.
use Rattle.std.proofs.Common.{◌≡◌, ℕ, ◌<◌, List, length, get_or, sym, subst, ℤ}
use Rattle.std.specs.Prelude.{All, Result, Ok, Err, IfOk}
use Rattle.std.specs.BTreeMap.{BTreeMap}
use Rattle.std.proofs.lemmas.List.Elements.{All-get_or}
use Rattle.scan_values.specs.Val.{Val}
use Rattle.scan_groups.specs.Near.{IsAt}
use Rattle.scan_groups.specs.declared.near.Slot.{Slot}

pub slot_at : (m : BTreeMap (List Val) ℕ) (slots : List Slot) (i : ℕ) (s : Slot) (z : ℤ) → All (IsAt m) slots → i < length slots → s ≡ get_or slots i s → s.number ≡ z → IsAt m (record { number = z; place = s.place })
slot_at m slots i s z all lt is e = subst (λ n. IsAt m (record { number = n; place = s.place })) e (subst (IsAt m) (sym is) (All-get_or (IsAt m) slots i s lt all))

pub as_same : {A E : Type 0} (r : Result A E) (P : A → Type 0) (a : A) → IfOk r (λ x. x ≡ a) → P a → IfOk r P
as_same (Ok x) P a e h = subst P (sym e) h
as_same (Err f) P a e h = tt
