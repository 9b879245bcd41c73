-- Slots one by one.
use Rattle.std.proofs.Common.{◌≡◌, ℕ, zero, suc, ◌+◌, ◌<◌, ◌≤◌, List, [], ◌∷◌, ◌++◌, length, get_or, drop, arith, add-one, refl, drop-cons, map}
use Rattle.scan_values.specs.declared.dtype.DTypeKind.{DTypeKind}
use Rattle.scan_values.specs.declared.value.Value.{Value}
use Rattle.scan_values.specs.Values.{val_of}
use Rattle.scan_spelling.specs.Written.{slots, slot_bytes, flags, flag_of}

pub slots_at : (kind : DTypeKind) (vs : List Value) (i : ℕ) (v : Value) → i < length vs → v ≡ get_or vs i v →
    slots kind (map val_of (drop i vs)) ≡ slot_bytes kind (val_of v) ++ slots kind (map val_of (drop (i + 1) vs))
slots_at kind vs i v h e = rw (drop-cons vs i v h, ← e, add-one) refl

pub slots_past : (kind : DTypeKind) (vs : List Value) (i : ℕ) → length vs ≤ i → slots kind (map val_of (drop i vs)) ≡ []
slots_past kind [] zero h = refl
slots_past kind [] (suc i) h = refl
slots_past kind (v ∷ vs) zero h = absurd (omega arith)
slots_past kind (v ∷ vs) (suc i) h = slots_past kind vs i (omega arith)

pub flags_at : (vs : List Value) (i : ℕ) (v : Value) → i < length vs → v ≡ get_or vs i v → flags (map val_of (drop i vs)) ≡ flag_of (val_of v) ∷ flags (map val_of (drop (i + 1) vs))
flags_at vs i v h e = rw (drop-cons vs i v h, ← e, add-one) refl

pub flags_past : (vs : List Value) (i : ℕ) → length vs ≤ i → flags (map val_of (drop i vs)) ≡ []
flags_past [] zero h = refl
flags_past [] (suc i) h = refl
flags_past (v ∷ vs) zero h = absurd (omega arith)
flags_past (v ∷ vs) (suc i) h = flags_past vs i (omega arith)
