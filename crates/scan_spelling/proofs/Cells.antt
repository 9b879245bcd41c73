-- Cells one by one.
use Rattle.std.proofs.Common.{◌≡◌, ℕ, zero, suc, ◌+◌, ◌-◌, ◌<◌, ◌≤◌, List, [], ◌∷◌, ◌++◌, length, get_or, drop, replicate, arith, add-one, refl, sym, ap, Option, Some, None, drop-cons, append_assoc, append-nil, map}
use Rattle.std.specs.Prelude.{option_map}
use Rattle.scan_values.specs.declared.dtype.DTypeKind.{DTypeKind}
use Rattle.scan_values.specs.Val.{Val}
use Rattle.std.proofs.lemmas.List.{map-append}
use Rattle.scan_values.specs.declared.value.Value.{Value}
use Rattle.scan_values.specs.Values.{val_of}
use Rattle.scan_spelling.specs.Spelling.{cell, cells}

-- values before others that are read
abbrev pub with_front : List Val → Option (List Val) → Option (List Val)
with_front front read = option_map (λ vs. front ++ vs) read

joined : (front : List Val) (v : Val) (o : Option (List Val)) → with_front front (option_map (λ vs. v ∷ vs) o) ≡ with_front (front ++ v ∷ []) o
joined front v None = refl
joined front v (Some vs) = ap Some (sym (append_assoc front (v ∷ []) vs))

pub cells_step : (front : List Val) (kind : DTypeKind) (flag : ℕ) (flags rest : List ℕ) (v : Val) (after : List ℕ) → cell kind flag rest ≡ Some (v, after) →
    with_front front (cells kind (flag ∷ flags) rest) ≡ with_front (front ++ v ∷ []) (cells kind flags after)
cells_step front kind flag flags rest v after e = rw e (joined front v (cells kind flags after))

pub cells_fault : (front : List Val) (kind : DTypeKind) (flag : ℕ) (flags rest : List ℕ) → cell kind flag rest ≡ None → with_front front (cells kind (flag ∷ flags) rest) ≡ None
cells_fault front kind flag flags rest e = rw e refl

pub flag_step : (front : List Val) (kind : DTypeKind) (flags : List ℕ) (i : ℕ) (rest : List ℕ) (v : Val) (after : List ℕ) → i < length flags → cell kind (get_or flags i 0) rest ≡ Some (v, after) →
    with_front front (cells kind (drop i flags) rest) ≡ with_front (front ++ v ∷ []) (cells kind (drop (i + 1) flags) after)
flag_step front kind flags i rest v after h e = rw (drop-cons flags i 0 h, add-one) (cells_step front kind (get_or flags i 0) (drop (suc i) flags) rest v after e)

pub flag_fault : (front : List Val) (kind : DTypeKind) (flags : List ℕ) (i : ℕ) (rest : List ℕ) → i < length flags → cell kind (get_or flags i 0) rest ≡ None →
    with_front front (cells kind (drop i flags) rest) ≡ None
flag_fault front kind flags i rest h e = rw (drop-cons flags i 0 h) (cells_fault front kind (get_or flags i 0) (drop (suc i) flags) rest e)

pub flags_end : (front : List Val) (kind : DTypeKind) (flags : List ℕ) (i : ℕ) (rest : List ℕ) → length flags ≤ i → length rest ≡ 0 → with_front front (cells kind (drop i flags) rest) ≡ Some front
flags_end front kind [] zero [] h e = ap Some (append-nil front)
flags_end front kind [] (suc i) [] h e = ap Some (append-nil front)
flags_end front kind [] i (b ∷ rest) h e = absurd (omega arith)
flags_end front kind (x ∷ flags) zero rest h e = absurd (omega arith)
flags_end front kind (x ∷ flags) (suc i) rest h e = flags_end front kind flags i rest (omega arith) e

pub flags_more : (front : List Val) (kind : DTypeKind) (flags : List ℕ) (i : ℕ) (rest : List ℕ) → length flags ≤ i → (length rest ≡ 0 → ⊥) → with_front front (cells kind (drop i flags) rest) ≡ None
flags_more front kind [] zero [] h n = absurd (n refl)
flags_more front kind [] (suc i) [] h n = absurd (n refl)
flags_more front kind [] zero (b ∷ rest) h n = refl
flags_more front kind [] (suc i) (b ∷ rest) h n = refl
flags_more front kind (x ∷ flags) zero rest h n = absurd (omega arith)
flags_more front kind (x ∷ flags) (suc i) rest h n = flags_more front kind flags i rest (omega arith) n

replicate_more : (n i : ℕ) → i < n → replicate {A = ℕ} (n - i) 1 ≡ 1 ∷ replicate {A = ℕ} (n - (i + 1)) 1
replicate_more n i h = let e : n - i ≡ suc (n - (i + 1)) = omega arith in ap (λ k. replicate {A = ℕ} k 1) e

pub row_step : (front : List Val) (kind : DTypeKind) (n i : ℕ) (rest : List ℕ) (v : Val) (after : List ℕ) → i < n → cell kind 1 rest ≡ Some (v, after) →
    with_front front (cells kind (replicate (n - i) 1) rest) ≡ with_front (front ++ v ∷ []) (cells kind (replicate (n - (i + 1)) 1) after)
row_step front kind n i rest v after h e = rw (replicate_more n i h) (cells_step front kind 1 (replicate (n - (i + 1)) 1) rest v after e)

pub row_fault : (front : List Val) (kind : DTypeKind) (n i : ℕ) (rest : List ℕ) → i < n → cell kind 1 rest ≡ None → with_front front (cells kind (replicate (n - i) 1) rest) ≡ None
row_fault front kind n i rest h e = rw (replicate_more n i h) (cells_fault front kind 1 (replicate (n - (i + 1)) 1) rest e)

none_left : (n i : ℕ) → n ≤ i → replicate {A = ℕ} (n - i) 1 ≡ []
none_left n i h = let e : n - i ≡ 0 = omega arith in ap (λ k. replicate {A = ℕ} k 1) e

pub rows_end : (front : List Val) (kind : DTypeKind) (n i : ℕ) (rest : List ℕ) → n ≤ i → length rest ≡ 0 → with_front front (cells kind (replicate (n - i) 1) rest) ≡ Some front
rows_end front kind n i rest h e = rw (none_left n i h) (flags_end front kind [] 0 rest (omega arith) e)

pub rows_more : (front : List Val) (kind : DTypeKind) (n i : ℕ) (rest : List ℕ) → n ≤ i → (length rest ≡ 0 → ⊥) → with_front front (cells kind (replicate (n - i) 1) rest) ≡ None
rows_more front kind n i rest h k = rw (none_left n i h) (flags_more front kind [] 0 rest (omega arith) k)

-- the same with what a loop has pushed
pub flag_pushed : (front : List Value) (kind : DTypeKind) (flags : List ℕ) (i : ℕ) (rest : List ℕ) (v : Value) (after : List ℕ) → i < length flags → cell kind (get_or flags i 0) rest ≡ Some (val_of v, after) →
    with_front (map val_of front) (cells kind (drop i flags) rest) ≡ with_front (map val_of (front ++ v ∷ [])) (cells kind (drop (i + 1) flags) after)
flag_pushed front kind flags i rest v after h e = rw (map-append val_of front (v ∷ [])) (flag_step (map val_of front) kind flags i rest (val_of v) after h e)

pub row_pushed : (front : List Value) (kind : DTypeKind) (n i : ℕ) (rest : List ℕ) (v : Value) (after : List ℕ) → i < n → cell kind 1 rest ≡ Some (val_of v, after) →
    with_front (map val_of front) (cells kind (replicate (n - i) 1) rest) ≡ with_front (map val_of (front ++ v ∷ [])) (cells kind (replicate (n - (i + 1)) 1) after)
row_pushed front kind n i rest v after h e = rw (map-append val_of front (v ∷ [])) (row_step (map val_of front) kind n i rest (val_of v) after h e)
