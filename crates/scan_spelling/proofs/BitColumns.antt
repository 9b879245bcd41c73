-- Segments whose flags and Bools are bits: which are spellings, and where a value stands.
use Rattle.std.proofs.Common.{◌≡◌, ℕ, zero, suc, ◌*◌, ◌/◌, ◌<◌, ◌≤◌, List, [], ◌∷◌, ◌++◌, length, get_or, ◌==◌, take, drop, replicate, arith, refl, sym, ◌∙◌, ap, subst, Bool, false, true, ◌&&◌, Option, Some, None, is_some, slice_get, drop-cons, map, ◌+◌, length-append, append_assoc, add-one}
use Rattle.std.specs.Prelude.{option_and_then, slice_index}
use Rattle.std.proofs.lemmas.List.{get_or-take}
use Rattle.std.proofs.lemmas.Bool.{eqb-true, eqb-false, lt-ltb}
use Rattle.std.proofs.Math.ListN.{length-replicate}
use Rattle.std.proofs.Math.Nat.{mul-one}
use Rattle.scan_values.specs.declared.ptype.PType.{PType}
use Rattle.scan_values.specs.declared.ptype.Nullability.{Nullability}
use Rattle.scan_values.specs.declared.ptype.Nullability.TheVariants.{NonNullable, Nullable}
use Rattle.scan_values.specs.declared.dtype.DTypeKind.{DTypeKind}
use Rattle.scan_values.specs.Val.{Val, bool_val}
use Rattle.scan_spelling.specs.declared.spelling.Spelling.{Spelling}
use Rattle.scan_spelling.specs.declared.spelling.Spelling.TheVariants.{One, Two}
use Rattle.scan_spelling.specs.Spelling.{part, width, under_flag, bool_of, cells, bits_of, are_zero, bytes_for, bit_group, group_size, flags_in, slots_in, decode_slots, decode_under}
use Rattle.scan_spelling.specs.LeafColumns.{slot_width, has_width, or_none, are_flags, are_rows, is_row, is_here, is_set, spread}
use Rattle.scan_spelling.proofs.BitGroups.{bits_small, group_is}
use Rattle.scan_spelling.proofs.Rows.{row_bits_length}
use Rattle.scan_spelling.proofs.Lengths.{bind_some}
use Rattle.scan_spelling.proofs.Relation.{part_is}
use Rattle.scan_spelling.proofs.Columns.{bools_there, ints_there, wrong_length, value_place, rows_here, plain_here}

-- ---- bits are flags
abbrev AllLow : List ℕ → Type 0
AllLow bits = (i : ℕ) → i < length bits → get_or bits i 0 < 2

low_flags : (bits : List ℕ) → AllLow bits → are_flags bits ≡ true
low_flags [] h = refl
low_flags (b ∷ bits) h = rw (lt-ltb b 2 (h 0 (omega arith))) (low_flags bits (λ i l. h (suc i) (omega arith)))

low_row : (flag b : ℕ) → flag < 2 → b < 2 → is_row flag b ≡ true
low_row zero b f l = refl
low_row (suc zero) zero f l = refl
low_row (suc zero) (suc zero) f l = refl
low_row (suc zero) (suc (suc b)) f l = absurd (omega arith)
low_row (suc (suc flag)) b f l = absurd (omega arith)

low_rows : (flags bits : List ℕ) → length flags ≡ length bits → AllLow flags → AllLow bits → are_rows flags bits ≡ true
low_rows [] bits e f l = refl
low_rows (flag ∷ flags) [] e f l = absurd (omega arith)
low_rows (flag ∷ flags) (b ∷ bits) e f l =
    rw (low_row flag b (f 0 (omega arith)) (l 0 (omega arith)))
    (low_rows flags bits (omega arith) (λ i h. f (suc i) (omega arith)) (λ i h. l (suc i) (omega arith)))

bits_low : (n : ℕ) (bytes : List ℕ) → length bytes ≡ bytes_for n → AllLow (take n (bits_of bytes))
bits_low n bytes e i h =
    let inside : i < n = subst (λ k. i < k) (row_bits_length n bytes e) h in
    rw (get_or-take n (bits_of bytes) i 0 inside) (bits_small bytes i)

ones_low : (n : ℕ) → AllLow (replicate {A = ℕ} n 1)
ones_low zero i h = absurd (omega arith)
ones_low (suc n) zero h = omega arith
ones_low (suc n) (suc i) h = ones_low n i (omega arith)

-- ---- a group of bits
group_parts : (n : ℕ) (bytes bits : List ℕ) → bit_group n bytes ≡ Some bits → (take n (bits_of bytes) ≡ bits) × (length bytes ≡ bytes_for n)
group_parts n bytes bits e = by_test ((length bytes == bytes_for n) && are_zero (drop n (bits_of bytes))) refl
  where
    some_list : {xs ys : List ℕ} → Some xs ≡ Some ys → xs ≡ ys
    some_list s = cc

    by_test : (b : Bool) → ((length bytes == bytes_for n) && are_zero (drop n (bits_of bytes))) ≡ b → (take n (bits_of bytes) ≡ bits) × (length bytes ≡ bytes_for n)
    by_test true p =
        let some : Some (take n (bits_of bytes)) ≡ Some bits = rw p at e in
        (some_list some, (group_is n bits bytes e).1)
    by_test false p = let none : None ≡ Some bits = rw p at e in absurd cc

group_test : (n : ℕ) (flags bytes : List ℕ) → length flags ≡ n → AllLow flags →
    ((length bytes == bytes_for n) && are_zero (drop n (bits_of bytes))) ≡ is_some (option_and_then (cells DTypeKind.Bool flags) (bit_group n bytes))
group_test n flags bytes e low = by_test ((length bytes == bytes_for n) && are_zero (drop n (bits_of bytes))) refl
  where
    both_true : (a b : Bool) → (a && b) ≡ true → a ≡ true
    both_true true b p = refl
    both_true false b p = absurd cc

    by_test : (b : Bool) → ((length bytes == bytes_for n) && are_zero (drop n (bits_of bytes))) ≡ b →
        ((length bytes == bytes_for n) && are_zero (drop n (bits_of bytes))) ≡ is_some (option_and_then (cells DTypeKind.Bool flags) (bit_group n bytes))
    by_test true p =
        let many : length bytes ≡ bytes_for n = eqb-true (length bytes) (bytes_for n) (both_true (length bytes == bytes_for n) (are_zero (drop n (bits_of bytes))) p) in
        let same : length flags ≡ length (take n (bits_of bytes)) = e ∙ sym (row_bits_length n bytes many) in
        rw p (sym (bools_there flags (take n (bits_of bytes)) same ∙ low_rows flags (take n (bits_of bytes)) same low (bits_low n bytes many)))
    by_test false p = rw p refl

-- ---- which are spellings
pub plain_bits : (n : ℕ) (bytes : List ℕ) →
    ((length bytes == bytes_for n) && are_zero (drop n (bits_of bytes))) ≡ is_some (decode_slots Two DTypeKind.Bool n (replicate n 1) bytes)
plain_bits n bytes = group_test n (replicate n 1) bytes (length-replicate {A = ℕ} n 1) (ones_low n)

pub flag_bits : (n : ℕ) (flags bytes : List ℕ) → length flags ≡ bytes_for n →
    ((length bytes == bytes_for n) && are_zero (drop n (bits_of bytes))) ≡ is_some (decode_slots Two DTypeKind.Bool n (take n (bits_of flags)) bytes)
flag_bits n flags bytes e = group_test n (take n (bits_of flags)) bytes (row_bits_length n flags e) (bits_low n flags e)

ints_test : (p : PType) (n : ℕ) (flags bytes : List ℕ) → length flags ≡ n → AllLow flags → (n * width p == length bytes) ≡ is_some (cells (DTypeKind.Primitive p) flags bytes)
ints_test p n flags bytes e low = by_test (n * width p == length bytes) refl
  where
    by_test : (b : Bool) → (n * width p == length bytes) ≡ b → (n * width p == length bytes) ≡ is_some (cells (DTypeKind.Primitive p) flags bytes)
    by_test true q =
        let long : length flags * width p ≡ length bytes = ap (λ k. k * width p) e ∙ eqb-true (n * width p) (length bytes) q in
        q ∙ sym (ints_there p flags bytes long ∙ low_flags flags low)
    by_test false q =
        q ∙ sym (wrong_length (DTypeKind.Primitive p) flags bytes refl (λ same. eqb-false (n * width p) (length bytes) q (ap (λ k. k * width p) (sym e) ∙ same)))

pub under_bits : (kind : DTypeKind) (n : ℕ) (flags bytes : List ℕ) → has_width kind ≡ true → (kind ≡ DTypeKind.Bool → ⊥) → length flags ≡ bytes_for n →
    (n * slot_width kind == length bytes) ≡ is_some (decode_slots Two kind n (take n (bits_of flags)) bytes)
under_bits DTypeKind.Bool n flags bytes w k e = absurd (k refl)
under_bits (DTypeKind.Primitive p) n flags bytes w k e = ints_test p n (take n (bits_of flags)) bytes (row_bits_length n flags e) (bits_low n flags e)
under_bits DTypeKind.Utf8 n flags bytes w k e = absurd cc
under_bits DTypeKind.List n flags bytes w k e = absurd cc
under_bits DTypeKind.Struct n flags bytes w k e = absurd cc

pub plain_bits_of : (s : Spelling) (kind : DTypeKind) (n : ℕ) (bytes : List ℕ) → s ≡ Two → kind ≡ DTypeKind.Bool →
    ((length bytes == bytes_for n) && are_zero (drop n (bits_of bytes))) ≡ is_some (decode_slots s kind n (replicate n 1) bytes)
plain_bits_of s kind n bytes e k = rw (e, k) (plain_bits n bytes)

pub flag_bits_of : (kind : DTypeKind) (n : ℕ) (flags bytes : List ℕ) → kind ≡ DTypeKind.Bool → length flags ≡ bytes_for n →
    ((length bytes == bytes_for n) && are_zero (drop n (bits_of bytes))) ≡ is_some (decode_slots Two kind n (take n (bits_of flags)) bytes)
flag_bits_of kind n flags bytes k e = rw k (flag_bits n flags bytes e)

pub two_bools : (s : Spelling) (kind : DTypeKind) (n : ℕ) (flags bytes : List ℕ) (vs : List Val) → s ≡ Two → kind ≡ DTypeKind.Bool → decode_slots s kind n flags bytes ≡ Some vs → decode_slots Two DTypeKind.Bool n flags bytes ≡ Some vs
two_bools s kind n flags bytes vs e k h = ap (λ t. decode_slots t DTypeKind.Bool n flags bytes) (sym e) ∙ ap (λ d. decode_slots s d n flags bytes) (sym k) ∙ h

-- in spelling 2 the slots that are no Bools are those of spelling 1
pub no_bits : (kind : DTypeKind) (n : ℕ) (flags bytes : List ℕ) → (kind ≡ DTypeKind.Bool → ⊥) → decode_slots Two kind n flags bytes ≡ cells kind flags bytes
no_bits DTypeKind.Bool n flags bytes k = absurd (k refl)
no_bits (DTypeKind.Primitive p) n flags bytes k = refl
no_bits DTypeKind.Utf8 n flags bytes k = refl
no_bits DTypeKind.List n flags bytes k = refl
no_bits DTypeKind.Struct n flags bytes k = refl

-- ---- where a value stands
bit_slot : (bits : List ℕ) (i : ℕ) → i < length bits → slice_index (take 1 (drop (i * 1) bits)) 0 ≡ get_or bits i 0
bit_slot bits i h = rw (mul-one i, drop-cons bits i 0 h) refl

module _ (n : ℕ) (flags bytes : List ℕ) (vs : List Val) (i : ℕ) (h : decode_slots Two DTypeKind.Bool n flags bytes ≡ Some vs) (e : length flags ≡ n) (low : i < n) where
  pub bools_group : length bytes ≡ bytes_for n
  bools_group =
      let found = bind_some (bit_group n bytes) (cells DTypeKind.Bool flags) vs h in
      (group_parts n bytes found.0 found.1).1

  pub bool_within : i / 8 < length bytes
  bool_within = omega (arith, bools_group, low)

  pub bool_place : under_flag (get_or flags i 0) (bool_of (get_or (bits_of bytes) i 0)) ≡ slice_get vs i
  bool_place =
      let found = bind_some (bit_group n bytes) (cells DTypeKind.Bool flags) vs h in
      let bits : List ℕ = take n (bits_of bytes) in
      let read : cells DTypeKind.Bool flags bits ≡ Some vs = ap (cells DTypeKind.Bool flags) (group_parts n bytes found.0 found.1).0 ∙ found.2 in
      let inside : i < length bits = subst (λ k. i < k) (sym (row_bits_length n bytes bools_group)) low in
      let place : under_flag (get_or flags i 0) (bool_of (slice_index (take 1 (drop (i * 1) bits)) 0)) ≡ slice_get vs i = value_place DTypeKind.Bool flags bits vs i refl read (omega (arith, e)) in
      ap (λ b. under_flag (get_or flags i 0) (bool_of b)) (sym (bit_slot bits i inside ∙ get_or-take n (bits_of bytes) i 0 low)) ∙ place

-- a Bool of bits
pub bool_there : (flag b : ℕ) → flag < 2 → b < 2 → (flag ≡ 0 → ⊥) → Some (bool_val (b == 1)) ≡ under_flag flag (bool_of b)
bool_there zero b f l k = absurd (k refl)
bool_there (suc zero) zero f l k = refl
bool_there (suc zero) (suc zero) f l k = refl
bool_there (suc zero) (suc (suc b)) f l k = absurd (omega arith)
bool_there (suc (suc flag)) b f l k = absurd (omega arith)

-- ---- the parts of a segment with flags
pub flags_are : (s : Spelling) (n : ℕ) (bytes flags : List ℕ) → flags_in s n bytes ≡ Some flags → spread s n bytes ≡ flags
flags_are One n bytes flags e = cc
flags_are Two n bytes flags e = (group_parts n bytes flags e).0

pub drop_front : (xs ys : List ℕ) → drop (length xs) (xs ++ ys) ≡ ys
drop_front [] ys = refl
drop_front (x ∷ xs) ys = drop_front xs ys

pub take_front : (xs ys : List ℕ) → take (length xs) (xs ++ ys) ≡ xs
take_front [] ys = refl
take_front (x ∷ xs) ys = ap (λ zs. x ∷ zs) (take_front xs ys)

pub under_parts : (s : Spelling) (kind : DTypeKind) (n : ℕ) (bytes : List ℕ) (vs : List Val) → decode_under s Nullable kind n bytes ≡ Some vs →
    (group_size s n ≤ length bytes) × (decode_slots s kind n (spread s n (take (group_size s n) bytes)) (drop (group_size s n) bytes) ≡ Some vs)
under_parts s kind n bytes vs h =
    let split = bind_some (part (group_size s n) bytes) (λ p. option_and_then (λ flags. decode_slots s kind n flags p.1) (flags_in s n p.0)) vs h in
    let found = bind_some (flags_in s n split.0.0) (λ flags. decode_slots s kind n flags split.0.1) vs split.2 in
    let is = part_is (group_size s n) bytes split.0.0 split.0.1 split.1 in
    let front : take (group_size s n) bytes ≡ split.0.0 = ap (take (group_size s n)) is.0 ∙ ap (λ k. take k (split.0.0 ++ split.0.1)) (sym is.1) ∙ take_front split.0.0 split.0.1 in
    let rest : drop (group_size s n) bytes ≡ split.0.1 = ap (drop (group_size s n)) is.0 ∙ ap (λ k. drop k (split.0.0 ++ split.0.1)) (sym is.1) ∙ drop_front split.0.0 split.0.1 in
    let size : length bytes ≡ length split.0.0 + length split.0.1 = ap length is.0 ∙ length-append split.0.0 split.0.1 in (
      omega (arith, size, is.1),
      ap (λ b. decode_slots s kind n (spread s n b) (drop (group_size s n) bytes)) front
          ∙ ap (λ b. decode_slots s kind n (spread s n split.0.0) b) rest
          ∙ ap (λ f. decode_slots s kind n f split.0.1) (flags_are s n split.0.0 found.0 found.1) ∙ found.2,
    )

-- ---- which rows are there
pub slots_here : (s : Spelling) (kind : DTypeKind) (n : ℕ) (flags bytes : List ℕ) (vs : List Val) → decode_slots s kind n flags bytes ≡ Some vs → map is_set flags ≡ map is_here vs
slots_here s kind n flags bytes vs h =
    let found = bind_some (slots_in s kind n bytes) (cells kind flags) vs h in
    rows_here kind flags found.0 vs found.2

pub here_plain : (s : Spelling) (kind : DTypeKind) (n : ℕ) (bytes : List ℕ) (vs : List Val) → decode_slots s kind n (replicate n 1) bytes ≡ Some vs → replicate n true ≡ map is_here vs
here_plain s kind n bytes vs h =
    let found = bind_some (slots_in s kind n bytes) (cells kind (replicate n 1)) vs h in
    plain_here kind n found.0 vs found.2

pub here_flagged : (s : Spelling) (kind : DTypeKind) (n : ℕ) (bytes : List ℕ) (vs : List Val) → decode_under s Nullable kind n bytes ≡ Some vs → map is_set (spread s n (take (group_size s n) bytes)) ≡ map is_here vs
here_flagged s kind n bytes vs h =
    slots_here s kind n (spread s n (take (group_size s n) bytes)) (drop (group_size s n) bytes) vs (under_parts s kind n bytes vs h).1

pub bit_pushed : (front : List Bool) (n : ℕ) (flags : List ℕ) (i : ℕ) (b : ℕ) (t : Bool) → length flags ≡ bytes_for n → i < n → b ≡ get_or (bits_of flags) i 0 → t ≡ is_set b →
    front ++ map is_set (drop i (take n (bits_of flags))) ≡ (front ++ t ∷ []) ++ map is_set (drop (i + 1) (take n (bits_of flags)))
bit_pushed front n flags i b t e low is set =
    let bits : List ℕ = take n (bits_of flags) in
    let inside : i < length bits = subst (λ k. i < k) (sym (row_bits_length n flags e)) low in
    let here : get_or bits i 0 ≡ b = get_or-take n (bits_of flags) i 0 low ∙ sym is in
    rw (drop-cons bits i 0 inside, add-one, here, set) (sym (append_assoc front (is_set b ∷ []) (map is_set (drop (suc i) bits))))

pub here_plain_of : (s : Spelling) (m : Nullability) (kind : DTypeKind) (n : ℕ) (bytes : List ℕ) (vs : List Val) → m ≡ NonNullable → decode_under s m kind n bytes ≡ Some vs → replicate n true ≡ map is_here vs
here_plain_of s NonNullable kind n bytes vs e h = here_plain s kind n bytes vs h
here_plain_of s Nullable kind n bytes vs e h = absurd cc

pub nullable_of : (s : Spelling) (m : Nullability) (kind : DTypeKind) (n : ℕ) (bytes : List ℕ) (vs : List Val) → m ≡ Nullable → decode_under s m kind n bytes ≡ Some vs → decode_under s Nullable kind n bytes ≡ Some vs
nullable_of s m kind n bytes vs e h = ap (λ d. decode_under s d kind n bytes) (sym e) ∙ h

pub still : (o : Option (List Val)) (vs : List Val) → o ≡ Some vs → o ≡ Some (or_none o)
still o vs h = h ∙ ap (λ x. Some (or_none x)) (sym h)
