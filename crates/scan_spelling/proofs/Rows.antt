-- Rows one by one, of bits.
use Rattle.std.proofs.Common.{◌≡◌, ℕ, suc, ◌+◌, ◌-◌, ◌<◌, ◌≤◌, List, [], ◌∷◌, ◌++◌, length, get_or, take, drop, map, replicate, arith, refl, sym, ◌∙◌, ap, Some, None, drop-cons, add-one}
use Rattle.std.proofs.lemmas.List.{length-take-le, drop_all, get_or-take}
use Rattle.scan_values.specs.declared.dtype.DTypeKind.{DTypeKind}
use Rattle.scan_values.specs.declared.value.Value.{Value}
use Rattle.scan_values.specs.Val.{Val}
use Rattle.scan_values.specs.Values.{val_of}
use Rattle.scan_spelling.specs.Spelling.{under_flag, cell, cells, bool_of, bits_of, bytes_for}
use Rattle.scan_spelling.proofs.BitGroups.{bits_length}
use Rattle.scan_spelling.proofs.Cells.{with_front, flag_pushed, flag_fault, flags_end, flags_more, row_pushed, row_fault, rows_end}
use Rattle.scan_spelling.proofs.RoundTrip.{part_front, read_cell}

-- the bits of so many rows
abbrev pub row_bits : ℕ → List ℕ → List ℕ
row_bits n bytes = take n (bits_of bytes)

pub row_bits_length : (n : ℕ) (bytes : List ℕ) → length bytes ≡ bytes_for n → length (row_bits n bytes) ≡ n
row_bits_length n bytes e = length-take-le n (bits_of bytes) (omega (arith, bits_length bytes, e))

bit_at_row : (n : ℕ) (bytes : List ℕ) (i : ℕ) → i < n → get_or (row_bits n bytes) i 0 ≡ get_or (bits_of bytes) i 0
bit_at_row n bytes i h = get_or-take n (bits_of bytes) i 0 h

pub bit_pushed : (front : List Value) (kind : DTypeKind) (n : ℕ) (flags : List ℕ) (i flag : ℕ) (rest : List ℕ) (v : Value) (after : List ℕ) → length flags ≡ bytes_for n → i < n → flag ≡ get_or (bits_of flags) i 0 → cell kind flag rest ≡ Some (val_of v, after) →
    with_front (map val_of front) (cells kind (drop i (take n (bits_of flags))) rest) ≡ with_front (map val_of (front ++ v ∷ [])) (cells kind (drop (i + 1) (take n (bits_of flags))) after)
bit_pushed front kind n flags i flag rest v after e h is c =
    flag_pushed front kind (row_bits n flags) i rest v after (omega (arith, row_bits_length n flags e)) (ap (λ f. cell kind f rest) (bit_at_row n flags i h ∙ sym is) ∙ c)

pub bit_fault : (front : List Val) (kind : DTypeKind) (n : ℕ) (flags : List ℕ) (i flag : ℕ) (rest : List ℕ) → length flags ≡ bytes_for n → i < n → flag ≡ get_or (bits_of flags) i 0 → cell kind flag rest ≡ None →
    with_front front (cells kind (drop i (take n (bits_of flags))) rest) ≡ None
bit_fault front kind n flags i flag rest e h is c =
    flag_fault front kind (row_bits n flags) i rest (omega (arith, row_bits_length n flags e)) (ap (λ f. cell kind f rest) (bit_at_row n flags i h ∙ sym is) ∙ c)

pub bits_end : (front : List Val) (kind : DTypeKind) (n : ℕ) (flags : List ℕ) (i : ℕ) (rest : List ℕ) → length flags ≡ bytes_for n → n ≤ i → length rest ≡ 0 → with_front front (cells kind (drop i (take n (bits_of flags))) rest) ≡ Some front
bits_end front kind n flags i rest e h z = flags_end front kind (row_bits n flags) i rest (omega (arith, row_bits_length n flags e)) z

pub bits_more : (front : List Val) (kind : DTypeKind) (n : ℕ) (flags : List ℕ) (i : ℕ) (rest : List ℕ) → length flags ≡ bytes_for n → n ≤ i → (length rest ≡ 0 → ⊥) → with_front front (cells kind (drop i (take n (bits_of flags))) rest) ≡ None
bits_more front kind n flags i rest e h z = flags_more front kind (row_bits n flags) i rest (omega (arith, row_bits_length n flags e)) z

bool_cell : (flag bit : ℕ) (rest : List ℕ) (v : Val) → under_flag flag (bool_of bit) ≡ Some v → cell DTypeKind.Bool flag (bit ∷ rest) ≡ Some (v, rest)
bool_cell flag bit rest v e = read_cell DTypeKind.Bool flag (bit ∷ rest) (bit ∷ []) rest v (part_front 1 (bit ∷ []) rest refl) e

no_bool_cell : (flag bit : ℕ) (rest : List ℕ) → under_flag flag (bool_of bit) ≡ None → cell DTypeKind.Bool flag (bit ∷ rest) ≡ None
no_bool_cell flag bit rest e = rw (part_front 1 (bit ∷ []) rest refl, e) refl

-- the bits from a row on: its own, and the others
next_bit : (n : ℕ) (bytes : List ℕ) (i : ℕ) → length bytes ≡ bytes_for n → i < n → drop i (row_bits n bytes) ≡ get_or (bits_of bytes) i 0 ∷ drop (suc i) (row_bits n bytes)
next_bit n bytes i e h =
    drop-cons (row_bits n bytes) i 0 (omega (arith, row_bits_length n bytes e)) ∙ ap (λ b. b ∷ drop (suc i) (row_bits n bytes)) (bit_at_row n bytes i h)

pub bool_pushed : (front : List Value) (n : ℕ) (flags bools : List ℕ) (i flag bit : ℕ) (v : Value) → length flags ≡ bytes_for n → length bools ≡ bytes_for n → i < n → flag ≡ get_or (bits_of flags) i 0 → bit ≡ get_or (bits_of bools) i 0 → under_flag flag (bool_of bit) ≡ Some (val_of v) →
    with_front (map val_of front) (cells DTypeKind.Bool (drop i (take n (bits_of flags))) (drop i (take n (bits_of bools))))
    ≡ with_front (map val_of (front ++ v ∷ [])) (cells DTypeKind.Bool (drop (i + 1) (take n (bits_of flags))) (drop (i + 1) (take n (bits_of bools))))
bool_pushed front n flags bools i flag bit v e f h is this c =
    let after : List ℕ = drop (suc i) (row_bits n bools) in
    let next : drop i (row_bits n bools) ≡ bit ∷ after = next_bit n bools i f h ∙ ap (λ b. b ∷ after) (sym this) in
    ap (λ r. with_front (map val_of front) (cells DTypeKind.Bool (drop i (row_bits n flags)) r)) next
    ∙ bit_pushed front DTypeKind.Bool n flags i flag (bit ∷ after) v after e h is (bool_cell flag bit after (val_of v) c)
    ∙ ap (λ k. with_front (map val_of (front ++ v ∷ [])) (cells DTypeKind.Bool (drop (i + 1) (row_bits n flags)) (drop k (row_bits n bools)))) (sym (add-one i))

pub bool_fault : (front : List Val) (n : ℕ) (flags bools : List ℕ) (i flag bit : ℕ) → length flags ≡ bytes_for n → length bools ≡ bytes_for n → i < n → flag ≡ get_or (bits_of flags) i 0 → bit ≡ get_or (bits_of bools) i 0 → under_flag flag (bool_of bit) ≡ None →
    with_front front (cells DTypeKind.Bool (drop i (take n (bits_of flags))) (drop i (take n (bits_of bools)))) ≡ None
bool_fault front n flags bools i flag bit e f h is this c =
    let after : List ℕ = drop (suc i) (row_bits n bools) in
    let next : drop i (row_bits n bools) ≡ bit ∷ after = next_bit n bools i f h ∙ ap (λ b. b ∷ after) (sym this) in
    ap (λ r. with_front front (cells DTypeKind.Bool (drop i (row_bits n flags)) r)) next ∙ bit_fault front DTypeKind.Bool n flags i flag (bit ∷ after) e h is (no_bool_cell flag bit after c)

none_after : (n : ℕ) (bytes : List ℕ) (i : ℕ) → length bytes ≡ bytes_for n → n ≤ i → length (drop i (row_bits n bytes)) ≡ 0
none_after n bytes i e h = ap length (drop_all i (row_bits n bytes) (omega (arith, row_bits_length n bytes e)))

pub bools_end : (front : List Val) (n : ℕ) (flags bools : List ℕ) (i : ℕ) → length flags ≡ bytes_for n → length bools ≡ bytes_for n → n ≤ i →
    with_front front (cells DTypeKind.Bool (drop i (take n (bits_of flags))) (drop i (take n (bits_of bools)))) ≡ Some front
bools_end front n flags bools i e f h = bits_end front DTypeKind.Bool n flags i (drop i (row_bits n bools)) e h (none_after n bools i f h)

pub plain_pushed : (front : List Value) (n : ℕ) (bools : List ℕ) (i bit : ℕ) (v : Value) → length bools ≡ bytes_for n → i < n → bit ≡ get_or (bits_of bools) i 0 → bool_of bit ≡ Some (val_of v) →
    with_front (map val_of front) (cells DTypeKind.Bool (replicate (n - i) 1) (drop i (take n (bits_of bools)))) ≡ with_front (map val_of (front ++ v ∷ [])) (cells DTypeKind.Bool (replicate (n - (i + 1)) 1) (drop (i + 1) (take n (bits_of bools))))
plain_pushed front n bools i bit v f h this c =
    let after : List ℕ = drop (suc i) (row_bits n bools) in
    let next : drop i (row_bits n bools) ≡ bit ∷ after = next_bit n bools i f h ∙ ap (λ b. b ∷ after) (sym this) in
    ap (λ r. with_front (map val_of front) (cells DTypeKind.Bool (replicate (n - i) 1) r)) next
    ∙ row_pushed front DTypeKind.Bool n i (bit ∷ after) v after h (bool_cell 1 bit after (val_of v) c)
    ∙ ap (λ k. with_front (map val_of (front ++ v ∷ [])) (cells DTypeKind.Bool (replicate (n - (i + 1)) 1) (drop k (row_bits n bools)))) (sym (add-one i))

pub plain_fault : (front : List Val) (n : ℕ) (bools : List ℕ) (i bit : ℕ) → length bools ≡ bytes_for n → i < n → bit ≡ get_or (bits_of bools) i 0 → bool_of bit ≡ None →
    with_front front (cells DTypeKind.Bool (replicate (n - i) 1) (drop i (take n (bits_of bools)))) ≡ None
plain_fault front n bools i bit f h this c =
    let after : List ℕ = drop (suc i) (row_bits n bools) in
    let next : drop i (row_bits n bools) ≡ bit ∷ after = next_bit n bools i f h ∙ ap (λ b. b ∷ after) (sym this) in
    ap (λ r. with_front front (cells DTypeKind.Bool (replicate (n - i) 1) r)) next ∙ row_fault front DTypeKind.Bool n i (bit ∷ after) h (no_bool_cell 1 bit after c)

pub plain_end : (front : List Val) (n : ℕ) (bools : List ℕ) (i : ℕ) → length bools ≡ bytes_for n → n ≤ i → with_front front (cells DTypeKind.Bool (replicate (n - i) 1) (drop i (take n (bits_of bools)))) ≡ Some front
plain_end front n bools i f h = rows_end front DTypeKind.Bool n i (drop i (row_bits n bools)) h (none_after n bools i f h)
