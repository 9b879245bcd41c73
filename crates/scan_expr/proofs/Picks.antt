-- The field of a name, by its place.
use Rattle.std.proofs.Common.{◌≡◌, ℕ, ◌<◌, zero, suc, List, [], ◌∷◌, length, get_or, map, Some, true, false, bytes_eq, refl, sym, ap, arith}
use Rattle.std.specs.List.{position}
use Rattle.std.proofs.lemmas.List.Quantifiers.{position-Some}
use Rattle.scan_values.specs.DataType.{DataType, Name, fields_of}
use Rattle.scan_values.specs.FieldLists.{names_of}
use Rattle.scan_values.specs.Marked.{listed}
use Rattle.scan_values.specs.Val.{Val, null_val, vals_of, marked, marked_all}
use Rattle.scan_values.specs.Values.{val_of}
use Rattle.scan_values.specs.declared.value.Value.{Value}
use Rattle.scan_expr.specs.Eval.{pick}

pub length-listed : (vs : List Val) → length (listed (marked_all (vals_of vs))) ≡ length vs
length-listed [] = refl
length-listed (v ∷ vs) = ap suc (length-listed vs)

-- the name at i is n, and none before
record IsAt (n : Name) (fs : List (Name × DataType)) (i : ℕ) : Type 0 where
  within : i < length fs
  same : bytes_eq n (get_or (names_of fs) i []) ≡ true
  before : (k : ℕ) → k < i → bytes_eq n (get_or (names_of fs) k []) ≡ false

length-names_of : (fs : List (Name × DataType)) → length (names_of fs) ≡ length fs
length-names_of [] = refl
length-names_of (f ∷ fs) = ap suc (length-names_of fs)

is_at : (n : Name) (fs : List (Name × DataType)) (i : ℕ) → position (bytes_eq n) (names_of fs) ≡ Some i → IsAt n fs i
is_at n fs i h = let p = position-Some (bytes_eq n) (names_of fs) i [] h in
    record { within = omega (arith, p.0, length-names_of fs); same = p.1; before = p.2 }

below : (n : Name) (f : Name × DataType) (fs : List (Name × DataType)) (i : ℕ) → IsAt n (f ∷ fs) (suc i) → IsAt n fs i
below n f fs i a = record { within = omega (arith, a.within); same = a.same; before = λ k h. a.before (suc k) (omega arith) }

at : (n : Name) (fs : List (Name × DataType)) (vs : List Val) (i : ℕ) → IsAt n fs i → i < length vs → pick n (fields_of fs) (marked_all (vals_of vs)) ≡ marked (get_or vs i null_val)
at n [] vs i a l = absurd (omega (arith, a.within))
at n (f ∷ fs) [] i a l = absurd (omega arith)
at n (f ∷ fs) (w ∷ vs) zero a l = rw (a.same) refl
at n (f ∷ fs) (w ∷ vs) (suc i) a l = rw (a.before 0 (omega arith)) (at n fs vs i (below n f fs i a) (omega arith))

pub pick_at : (n : Name) (fs : List (Name × DataType)) (vs : List Val) (i : ℕ) → Some i ≡ position (bytes_eq n) (names_of fs) → i < length vs → pick n (fields_of fs) (marked_all (vals_of vs)) ≡ marked (get_or vs i null_val)
pick_at n fs vs i h l = at n fs vs i (is_at n fs i (sym h)) l

-- what stands at a place is the value there
pub val_at : (vs : List Value) (i : ℕ) (v : Value) → i < length vs → v ≡ get_or vs i v → val_of v ≡ get_or (map val_of vs) i null_val
val_at [] i v l e = absurd (omega arith)
val_at (w ∷ vs) zero v l e = ap val_of e
val_at (w ∷ vs) (suc i) v l e = val_at vs i v (omega arith) e
