-- Segments of slots of one width: how long they are, which of them are spellings, and where a value stands.
use Rattle.std.proofs.Common.{◌≡◌, ℕ, zero, suc, ◌+◌, ◌-◌, ◌*◌, ◌<◌, ◌≤◌, List, [], ◌∷◌, ◌++◌, length, get_or, ◌==◌, take, drop, replicate, arith, refl, sym, ◌∙◌, ap, subst, Bool, false, true, ◌&&◌, nat_lt, Option}
use Rattle.std.proofs.Common.{Some, None, is_some, slice_get, drop-cons, drop-drop, length-append, add-one, append_assoc, map}
use Rattle.std.specs.Prelude.{option_map, option_and_then, slice_index, if◌then◌else◌}
use Rattle.std.specs.Str.{is_utf8}
use Rattle.std.proofs.lemmas.List.{length-take, length-drop, get_or-take, get_or-drop, take_rest}
use Rattle.std.proofs.lemmas.Option.{slice_get-get_or}
use Rattle.std.proofs.lemmas.Bool.{le-ltb, ltb-true, eqb-true, eqb-false}
use Rattle.std.proofs.Math.ListN.{length-replicate, get_or-replicate}
use Rattle.std.proofs.Math.Nat.{suc-mul, zero-mul, mul-one}
use Rattle.scan_values.specs.declared.ptype.PType.{PType}
use Rattle.scan_values.specs.declared.dtype.DTypeKind.{DTypeKind}
use Rattle.scan_values.specs.Val.{Val, null_val, int_val, bool_val, text_val}
use Rattle.std.specs.List.{items_where_true, slice_range}
use Rattle.std.proofs.lemmas.List.{map-append}
use Rattle.scan_values.specs.declared.value.Value.{Value}
use Rattle.scan_values.specs.Values.{val_of}
use Rattle.scan_spelling.specs.Spelling.{part, width, int_of, slot, content, under_flag, bool_of, cell, cells}
use Rattle.scan_spelling.specs.LeafColumns.{slot_width, has_width, or_none, are_flags, is_row, are_rows, is_here, is_set}
use Rattle.scan_spelling.proofs.Lengths.{bind_some, map_some, cells_length}
use Rattle.scan_spelling.proofs.Relation.{part_is}

-- ---- options
pub some_of : (o : Option (List Val)) → is_some o ≡ true → o ≡ Some (or_none o)
some_of None e = absurd cc
some_of (Some vs) e = refl

pub none_of : (o : Option (List Val)) → is_some o ≡ false → o ≡ None
none_of None e = refl
none_of (Some vs) e = absurd cc

pub is_there : (o : Option (List Val)) (vs : List Val) → o ≡ Some vs → is_some o ≡ true
is_there o vs e = ap is_some e

value_first : {Y : Type 0} (o : Option Val) (rest : List ℕ) (g : Val × List ℕ → Option Y) → option_and_then g (option_map (λ v. (v, rest)) o) ≡ option_and_then (λ v. g (v, rest)) o
value_first None rest g = refl
value_first (Some v) rest g = refl

some_mapped : {X Y : Type 0} (f : X → Y) (o : Option X) → is_some (option_map f o) ≡ is_some o
some_mapped f None = refl
some_mapped f (Some x) = refl

-- ---- the first slot
part_there : (n : ℕ) (bytes : List ℕ) → n ≤ length bytes → part n bytes ≡ Some (take n bytes, drop n bytes)
part_there n bytes h = by_test (nat_lt (length bytes) n) refl
  where
    by_test : (b : Bool) → nat_lt (length bytes) n ≡ b → part n bytes ≡ Some (take n bytes, drop n bytes)
    by_test true p = let low : length bytes < n = ltb-true (length bytes) n p in absurd (omega arith)
    by_test false p = rw p refl

slot_there : (kind : DTypeKind) (bytes : List ℕ) → has_width kind ≡ true → slot_width kind ≤ length bytes → slot kind bytes ≡ Some (take (slot_width kind) bytes, drop (slot_width kind) bytes)
slot_there DTypeKind.Bool bytes e h = part_there 1 bytes h
slot_there (DTypeKind.Primitive p) bytes e h = part_there (width p) bytes h
slot_there DTypeKind.Utf8 bytes e h = absurd cc
slot_there DTypeKind.List bytes e h = absurd cc
slot_there DTypeKind.Struct bytes e h = absurd cc

cells_there : (kind : DTypeKind) (flag : ℕ) (flags bytes : List ℕ) → has_width kind ≡ true → slot_width kind ≤ length bytes →
    cells kind (flag ∷ flags) bytes
    ≡ option_and_then (λ v. option_map (λ vs. v ∷ vs) (cells kind flags (drop (slot_width kind) bytes))) (under_flag flag (content kind (take (slot_width kind) bytes)))
cells_there kind flag flags bytes e h =
    rw (slot_there kind bytes e h)
    (value_first (under_flag flag (content kind (take (slot_width kind) bytes))) (drop (slot_width kind) bytes) (λ x. option_map (λ vs. x.0 ∷ vs) (cells kind flags x.1)))

-- ---- how long
slot_sized : (kind : DTypeKind) (bytes found rest : List ℕ) → has_width kind ≡ true → slot kind bytes ≡ Some (found, rest) → length bytes ≡ slot_width kind + length rest
slot_sized DTypeKind.Bool bytes found rest e h = let is = part_is 1 bytes found rest h in ap length is.0 ∙ length-append found rest ∙ ap (λ n. n + length rest) is.1
slot_sized (DTypeKind.Primitive p) bytes found rest e h = let is = part_is (width p) bytes found rest h in ap length is.0 ∙ length-append found rest ∙ ap (λ n. n + length rest) is.1
slot_sized DTypeKind.Utf8 bytes found rest e h = absurd cc
slot_sized DTypeKind.List bytes found rest e h = absurd cc
slot_sized DTypeKind.Struct bytes found rest e h = absurd cc

pub cells_sized : (kind : DTypeKind) (flags bytes : List ℕ) (vs : List Val) → has_width kind ≡ true → cells kind flags bytes ≡ Some vs → length bytes ≡ length flags * slot_width kind
cells_sized kind [] [] vs e h = sym (zero-mul (slot_width kind))
cells_sized kind [] (b ∷ bytes) vs e h = absurd cc
cells_sized kind (flag ∷ flags) bytes vs e h =
    let first = bind_some (cell kind flag bytes) (λ x. option_map (λ us. x.0 ∷ us) (cells kind flags x.1)) vs h in
    let others = map_some (cells kind flags first.0.1) (λ us. first.0.0 ∷ us) vs first.2 in
    let read = bind_some (slot kind bytes) (λ p. option_map (λ v. (v, p.1)) (under_flag flag (content kind p.0))) first.0 first.1 in
    let value = map_some (under_flag flag (content kind read.0.0)) (λ v. (v, read.0.1)) first.0 read.2 in
    let after : read.0.1 ≡ first.0.1 = ap (λ p. p.1) value.2 in
    let here : length bytes ≡ slot_width kind + length read.0.1 = slot_sized kind bytes read.0.0 read.0.1 e read.1 in
    let there : length first.0.1 ≡ length flags * slot_width kind = cells_sized kind flags first.0.1 others.0 e others.1 in
    let same : length read.0.1 ≡ length first.0.1 = ap length after in
    omega (arith, here, there, same, suc-mul (length flags) (slot_width kind))

pub wrong_length : (kind : DTypeKind) (flags bytes : List ℕ) → has_width kind ≡ true → (length flags * slot_width kind ≡ length bytes → ⊥) → is_some (cells kind flags bytes) ≡ false
wrong_length kind flags bytes e n = by (cells kind flags bytes) refl
  where
    by : (o : Option (List Val)) → cells kind flags bytes ≡ o → is_some (cells kind flags bytes) ≡ false
    by None p = ap is_some p
    by (Some vs) p = absurd (n (sym (cells_sized kind flags bytes vs e p)))

-- ---- which are spellings
nothing : (bytes : List ℕ) → length bytes ≡ 0 → bytes ≡ []
nothing [] e = refl
nothing (b ∷ bytes) e = absurd (omega arith)

int_row : (p : PType) (flag : ℕ) (bytes : List ℕ) (o : Option (List Val)) →
    is_some (option_and_then (λ v. option_map (λ vs. v ∷ vs) o) (under_flag flag (content (DTypeKind.Primitive p) bytes))) ≡ (nat_lt flag 2 && is_some o)
int_row p zero bytes o = some_mapped (λ vs. null_val ∷ vs) o
int_row p (suc zero) bytes o = some_mapped (λ vs. int_val (int_of p bytes) ∷ vs) o
int_row p (suc (suc flag)) bytes o = rw (too_large flag) refl
  where
    too_large : (n : ℕ) → nat_lt (suc (suc n)) 2 ≡ false
    too_large n = le-ltb (suc (suc n)) 2 (omega arith)

pub ints_there : (p : PType) (flags bytes : List ℕ) → length flags * width p ≡ length bytes → is_some (cells (DTypeKind.Primitive p) flags bytes) ≡ are_flags flags
ints_there p [] bytes h = let none : length bytes ≡ 0 = omega (arith, h, zero-mul (width p)) in rw (nothing bytes none) refl
ints_there p (flag ∷ flags) bytes h =
    let long : length bytes ≡ length flags * width p + width p = sym h ∙ suc-mul (length flags) (width p) in
    let enough : width p ≤ length bytes = omega (arith, long) in
    let rest : length flags * width p ≡ length (drop (width p) bytes) = simp length-drop (omega (arith, long)) in
    rw (
      cells_there (DTypeKind.Primitive p) flag flags bytes refl enough,
      int_row p flag (take (width p) bytes) (cells (DTypeKind.Primitive p) flags (drop (width p) bytes)),
    )
    (ap (λ b. nat_lt flag 2 && b) (ints_there p flags (drop (width p) bytes) rest))

bool_row : (flag b : ℕ) (o : Option (List Val)) → is_some (option_and_then (λ v. option_map (λ vs. v ∷ vs) o) (under_flag flag (bool_of b))) ≡ (is_row flag b && is_some o)
bool_row zero b o = some_mapped (λ vs. null_val ∷ vs) o
bool_row (suc zero) zero o = some_mapped (λ vs. bool_val false ∷ vs) o
bool_row (suc zero) (suc zero) o = some_mapped (λ vs. bool_val true ∷ vs) o
bool_row (suc zero) (suc (suc b)) o = refl
bool_row (suc (suc flag)) b o = refl

pub bools_there : (flags bytes : List ℕ) → length flags ≡ length bytes → is_some (cells DTypeKind.Bool flags bytes) ≡ are_rows flags bytes
bools_there [] [] h = refl
bools_there [] (b ∷ bytes) h = absurd (omega arith)
bools_there (flag ∷ flags) [] h = absurd (omega arith)
bools_there (flag ∷ flags) (b ∷ bytes) h =
    let rest : length flags ≡ length bytes = omega arith in
    rw (cells_there DTypeKind.Bool flag flags (b ∷ bytes) refl (omega arith), bool_row flag b (cells DTypeKind.Bool flags bytes))
    (ap (λ t. is_row flag b && t) (bools_there flags bytes rest))

pub all_there : (n : ℕ) → are_flags (replicate {A = ℕ} n 1) ≡ true
all_there zero = refl
all_there (suc n) = all_there n

row_there : (b : ℕ) → is_row 1 b ≡ nat_lt b 2
row_there zero = refl
row_there (suc zero) = refl
row_there (suc (suc b)) = sym (le-ltb (suc (suc b)) 2 (omega arith))

pub plain_rows : (n : ℕ) (bytes : List ℕ) → n ≡ length bytes → are_rows (replicate n 1) bytes ≡ are_flags bytes
plain_rows zero [] h = refl
plain_rows zero (b ∷ bytes) h = absurd (omega arith)
plain_rows (suc n) [] h = absurd (omega arith)
plain_rows (suc n) (b ∷ bytes) h = rw (row_there b) (ap (λ t. nat_lt b 2 && t) (plain_rows n bytes (omega arith)))

-- ---- where a value stands
pub value_place : (kind : DTypeKind) (flags bytes : List ℕ) (vs : List Val) (i : ℕ) → has_width kind ≡ true → cells kind flags bytes ≡ Some vs → i < length flags →
    under_flag (get_or flags i 0) (content kind (take (slot_width kind) (drop (i * slot_width kind) bytes))) ≡ slice_get vs i
value_place kind [] bytes vs i e h low = absurd (omega arith)
value_place kind (flag ∷ flags) bytes vs zero e h low =
    let sized : length bytes ≡ suc (length flags) * slot_width kind = cells_sized kind (flag ∷ flags) bytes vs e h in
    let enough : slot_width kind ≤ length bytes = omega (arith, sized, suc-mul (length flags) (slot_width kind)) in
    let first = bind_some (under_flag flag (content kind (take (slot_width kind) bytes))) (λ v. option_map (λ us. v ∷ us) (cells kind flags (drop (slot_width kind) bytes))) vs (sym (cells_there kind flag flags bytes e enough) ∙ h) in
    let others = map_some (cells kind flags (drop (slot_width kind) bytes)) (λ us. first.0 ∷ us) vs first.2 in
    ap (λ n. under_flag flag (content kind (take (slot_width kind) (drop n bytes)))) (zero-mul (slot_width kind))
    ∙ first.1 ∙ ap (λ us. slice_get us 0) others.2
value_place kind (flag ∷ flags) bytes vs (suc i) e h low =
    let sized : length bytes ≡ suc (length flags) * slot_width kind = cells_sized kind (flag ∷ flags) bytes vs e h in
    let enough : slot_width kind ≤ length bytes = omega (arith, sized, suc-mul (length flags) (slot_width kind)) in
    let first = bind_some (under_flag flag (content kind (take (slot_width kind) bytes))) (λ v. option_map (λ us. v ∷ us) (cells kind flags (drop (slot_width kind) bytes))) vs (sym (cells_there kind flag flags bytes e enough) ∙ h) in
    let others = map_some (cells kind flags (drop (slot_width kind) bytes)) (λ us. first.0 ∷ us) vs first.2 in
    let next : suc i * slot_width kind ≡ slot_width kind + i * slot_width kind = omega (arith, suc-mul i (slot_width kind)) in
    ap (λ n. under_flag (get_or flags i 0) (content kind (take (slot_width kind) (drop n bytes)))) next
    ∙ ap (λ s. under_flag (get_or flags i 0) (content kind (take (slot_width kind) s))) (sym (drop-drop (i * slot_width kind) (slot_width kind) bytes))
    ∙ value_place kind flags (drop (slot_width kind) bytes) others.0 i e others.1 (omega arith)
    ∙ ap (λ us. slice_get us (suc i)) others.2

-- a slot's place is within the bytes
pub place_within : (n i w : ℕ) → i < n → i * w + w ≤ n * w
place_within zero i w h = absurd (omega arith)
place_within (suc n) zero w h = omega (arith, zero-mul w, suc-mul n w)
place_within (suc n) (suc i) w h = let rest : i * w + w ≤ n * w = place_within n i w (omega arith) in omega (arith, rest, suc-mul n w, suc-mul i w)

-- ---- the tests of the code
pub not_long : (kind : DTypeKind) (flags bytes : List ℕ) → has_width kind ≡ true → (length flags * slot_width kind == length bytes) ≡ false → false ≡ is_some (cells kind flags bytes)
not_long kind flags bytes e h = sym (wrong_length kind flags bytes e (λ same. eqb-false (length flags * slot_width kind) (length bytes) h same))

pub flagged_bools : (kind : DTypeKind) (flags bytes : List ℕ) → kind ≡ DTypeKind.Bool → (length flags * slot_width kind == length bytes) ≡ true → are_rows flags bytes ≡ is_some (cells kind flags bytes)
flagged_bools DTypeKind.Bool flags bytes k h = sym (bools_there flags bytes (sym (mul-one (length flags)) ∙ eqb-true (length flags * 1) (length bytes) h))
flagged_bools (DTypeKind.Primitive p) flags bytes k h = absurd cc
flagged_bools DTypeKind.Utf8 flags bytes k h = absurd cc
flagged_bools DTypeKind.List flags bytes k h = absurd cc
flagged_bools DTypeKind.Struct flags bytes k h = absurd cc

pub flagged_ints : (kind : DTypeKind) (flags bytes : List ℕ) → has_width kind ≡ true → (kind ≡ DTypeKind.Bool → ⊥) → (length flags * slot_width kind == length bytes) ≡ true → are_flags flags ≡ is_some (cells kind flags bytes)
flagged_ints DTypeKind.Bool flags bytes e n h = absurd (n refl)
flagged_ints (DTypeKind.Primitive p) flags bytes e n h = sym (ints_there p flags bytes (eqb-true (length flags * width p) (length bytes) h))
flagged_ints DTypeKind.Utf8 flags bytes e n h = absurd cc
flagged_ints DTypeKind.List flags bytes e n h = absurd cc
flagged_ints DTypeKind.Struct flags bytes e n h = absurd cc

over_rows : (rows w : ℕ) (bytes : List ℕ) (b : Bool) → (rows * w == length bytes) ≡ b → (length (replicate {A = ℕ} rows 1) * w == length bytes) ≡ b
over_rows rows w bytes b h = ap (λ n. n * w == length bytes) (length-replicate rows 1) ∙ h

pub plain_not_long : (kind : DTypeKind) (rows : ℕ) (bytes : List ℕ) → has_width kind ≡ true → (rows * slot_width kind == length bytes) ≡ false → false ≡ is_some (cells kind (replicate rows 1) bytes)
plain_not_long kind rows bytes e h = not_long kind (replicate rows 1) bytes e (over_rows rows (slot_width kind) bytes false h)

pub plain_bools : (kind : DTypeKind) (rows : ℕ) (bytes : List ℕ) → kind ≡ DTypeKind.Bool → (rows * slot_width kind == length bytes) ≡ true → are_flags bytes ≡ is_some (cells kind (replicate rows 1) bytes)
plain_bools kind rows bytes k h =
    let long : rows * slot_width kind ≡ length bytes = eqb-true (rows * slot_width kind) (length bytes) h in
    let one : rows * slot_width kind ≡ rows = ap (λ d. rows * slot_width d) k ∙ mul-one rows in
    let sized : rows ≡ length bytes = sym one ∙ long in
    sym (plain_rows rows bytes sized) ∙ flagged_bools kind (replicate rows 1) bytes k (over_rows rows (slot_width kind) bytes true h)

pub plain_ints : (kind : DTypeKind) (rows : ℕ) (bytes : List ℕ) → has_width kind ≡ true → (kind ≡ DTypeKind.Bool → ⊥) → (rows * slot_width kind == length bytes) ≡ true → true ≡ is_some (cells kind (replicate rows 1) bytes)
plain_ints kind rows bytes e n h = sym (all_there rows) ∙ flagged_ints kind (replicate rows 1) bytes e n (over_rows rows (slot_width kind) bytes true h)

-- ---- the slot at a place
module _ (kind : DTypeKind) (flags bytes : List ℕ) (vs : List Val) (i : ℕ) (e : has_width kind ≡ true) (h : cells kind flags bytes ≡ Some vs) (low : i < length flags) where
  pub slot_within : i * slot_width kind + slot_width kind ≤ length bytes
  slot_within = rw (cells_sized kind flags bytes vs e h) (place_within (length flags) i (slot_width kind) low)

  pub slot_long : length (take (slot_width kind) (drop (i * slot_width kind) bytes)) ≡ slot_width kind
  slot_long = simp (length-take, length-drop) (omega (arith, slot_within))

  pub slot_is_there : is_some (under_flag (get_or flags i 0) (content kind (take (slot_width kind) (drop (i * slot_width kind) bytes)))) ≡ true
  slot_is_there =
      let within : i < length vs = rw (cells_length kind flags bytes vs h) low in
      ap is_some (value_place kind flags bytes vs i e h low ∙ slice_get-get_or vs i null_val within)

module _ (kind : DTypeKind) (rows : ℕ) (bytes : List ℕ) (vs : List Val) (i : ℕ) (e : has_width kind ≡ true) (h : cells kind (replicate rows 1) bytes ≡ Some vs) (low : i < rows) where
  in_rows : i < length (replicate {A = ℕ} rows 1)
  in_rows = rw (length-replicate {A = ℕ} rows 1) low

  pub plain_within : i * slot_width kind + slot_width kind ≤ length bytes
  plain_within = slot_within kind (replicate rows 1) bytes vs i e h in_rows

  pub plain_long : length (take (slot_width kind) (drop (i * slot_width kind) bytes)) ≡ slot_width kind
  plain_long = slot_long kind (replicate rows 1) bytes vs i e h in_rows

  pub plain_is_there : is_some (content kind (take (slot_width kind) (drop (i * slot_width kind) bytes))) ≡ true
  plain_is_there =
      let flag : get_or (replicate rows 1) i 0 ≡ 1 = get_or-replicate rows i 1 0 low in
      subst (λ f. is_some (under_flag f (content kind (take (slot_width kind) (drop (i * slot_width kind) bytes)))) ≡ true) flag (slot_is_there kind (replicate rows 1) bytes vs i e h in_rows)

  pub plain_place : content kind (take (slot_width kind) (drop (i * slot_width kind) bytes)) ≡ slice_get vs i
  plain_place =
      let flag : get_or (replicate rows 1) i 0 ≡ 1 = get_or-replicate rows i 1 0 low in
      subst (λ f. under_flag f (content kind (take (slot_width kind) (drop (i * slot_width kind) bytes))) ≡ slice_get vs i) flag (value_place kind (replicate rows 1) bytes vs i e h in_rows)

-- ---- the values of a mask's true rows
one_taken : (bits : List Bool) (vs : List Val) (b : Bool) (v w : Val) → b ≡ true → w ≡ v → items_where_true (b ∷ bits) (w ∷ vs) ≡ v ∷ items_where_true bits vs
one_taken bits vs true v w e same = ap (λ u. u ∷ items_where_true bits vs) same
one_taken bits vs false v w e same = absurd cc

one_passed : (bits : List Bool) (vs : List Val) (b : Bool) (w : Val) → b ≡ false → items_where_true (b ∷ bits) (w ∷ vs) ≡ items_where_true bits vs
one_passed bits vs false w e = refl
one_passed bits vs true w e = absurd cc

some_is : (v w : Val) → Some v ≡ Some w → w ≡ v
some_is v w e = cc

pub pick_pushed : (front : List Value) (bits : List Bool) (vs : List Val) (i : ℕ) (v : Value) → i < length bits → length bits ≡ length vs → get_or bits i false ≡ true → Some (val_of v) ≡ slice_get vs i →
    map val_of front ++ items_where_true (drop i bits) (drop i vs) ≡ map val_of (front ++ v ∷ []) ++ items_where_true (drop (i + 1) bits) (drop (i + 1) vs)
pick_pushed front bits vs i v low same here is =
    let inside : i < length vs = omega arith in
    let value : get_or vs i null_val ≡ val_of v = some_is (val_of v) (get_or vs i null_val) (is ∙ slice_get-get_or vs i null_val inside) in
    rw (drop-cons bits i false low, drop-cons vs i null_val inside, add-one, map-append val_of front (v ∷ []))
    (ap (λ us. map val_of front ++ us) (one_taken (drop (suc i) bits) (drop (suc i) vs) (get_or bits i false) (val_of v) (get_or vs i null_val) here value)
    ∙ sym (append_assoc (map val_of front) (val_of v ∷ []) (items_where_true (drop (suc i) bits) (drop (suc i) vs))))

pub pick_passed : (bits : List Bool) (vs : List Val) (i : ℕ) → i < length bits → length bits ≡ length vs → get_or bits i false ≡ false →
    items_where_true (drop i bits) (drop i vs) ≡ items_where_true (drop (i + 1) bits) (drop (i + 1) vs)
pick_passed bits vs i low same here =
    let inside : i < length vs = omega arith in
    rw (drop-cons bits i false low, drop-cons vs i null_val inside, add-one) (one_passed (drop (suc i) bits) (drop (suc i) vs) (get_or bits i false) (get_or vs i null_val) here)

-- ---- of a range of the rows
range_length : (vs : List Val) (first n : ℕ) → first + n ≤ length vs → length (slice_range vs first (first + n)) ≡ n
range_length vs first n h = simp (length-take, length-drop) (omega arith)

range_place : (vs : List Val) (first n i : ℕ) (v : Val) → i < n → first + n ≤ length vs → Some v ≡ slice_get vs (first + i) → Some v ≡ slice_get (slice_range vs first (first + n)) i
range_place vs first n i v low h is =
    let many : i < first + n - first = omega arith in
    let inside : i < length (slice_range vs first (first + n)) = subst (λ k. i < k) (sym (range_length vs first n h)) low in
    is ∙ slice_get-get_or vs (first + i) null_val (omega arith)
    ∙ ap Some (sym (get_or-take (first + n - first) (drop first vs) i null_val many ∙ get_or-drop first vs i null_val))
    ∙ sym (slice_get-get_or (slice_range vs first (first + n)) i null_val inside)

pub range_pushed : (front : List Value) (bits : List Bool) (vs : List Val) (first i : ℕ) (v : Value) → i < length bits → first + length bits ≤ length vs → get_or bits i false ≡ true → Some (val_of v) ≡ slice_get vs (first + i) →
    map val_of front ++ items_where_true (drop i bits) (drop i (slice_range vs first (first + length bits)))
    ≡ map val_of (front ++ v ∷ []) ++ items_where_true (drop (i + 1) bits) (drop (i + 1) (slice_range vs first (first + length bits)))
range_pushed front bits vs first i v low h here is =
    pick_pushed front bits (slice_range vs first (first + length bits)) i v low (sym (range_length vs first (length bits) h)) here (range_place vs first (length bits) i (val_of v) low h is)

pub range_passed : (bits : List Bool) (vs : List Val) (first i : ℕ) → i < length bits → first + length bits ≤ length vs → get_or bits i false ≡ false →
    items_where_true (drop i bits) (drop i (slice_range vs first (first + length bits))) ≡ items_where_true (drop (i + 1) bits) (drop (i + 1) (slice_range vs first (first + length bits)))
range_passed bits vs first i low h here = pick_passed bits (slice_range vs first (first + length bits)) i low (sym (range_length vs first (length bits) h)) here

-- all rows
pub whole_range : (vs : List Val) (n : ℕ) → n ≡ length vs → slice_range vs 0 (0 + n) ≡ vs
whole_range vs n e = let many : 0 + n - 0 ≡ length vs - 0 = omega (arith, e) in ap (λ k. take k (drop 0 vs)) many ∙ take_rest vs 0

-- ---- which rows are there
utf8_here : (test : Bool) (bytes : List ℕ) (v : Val) → (if test then Some (text_val bytes) else None) ≡ Some v → is_here v ≡ true
utf8_here true bytes v e = let same : text_val bytes ≡ v = cc in ap is_here (sym same)
utf8_here false bytes v e = absurd cc

bool_here : (b : ℕ) (v : Val) → bool_of b ≡ Some v → is_here v ≡ true
bool_here zero v e = let same : bool_val false ≡ v = cc in ap is_here (sym same)
bool_here (suc zero) v e = let same : bool_val true ≡ v = cc in ap is_here (sym same)
bool_here (suc (suc b)) v e = absurd cc

content_here : (kind : DTypeKind) (bytes : List ℕ) (v : Val) → content kind bytes ≡ Some v → is_here v ≡ true
content_here DTypeKind.Bool bytes v e = bool_here (slice_index bytes 0) v e
content_here (DTypeKind.Primitive p) bytes v e = let same : int_val (int_of p bytes) ≡ v = cc in ap is_here (sym same)
content_here DTypeKind.Utf8 bytes v e = utf8_here (is_utf8 bytes) bytes v e
content_here DTypeKind.List bytes v e = absurd cc
content_here DTypeKind.Struct bytes v e = absurd cc

flag_here : (kind : DTypeKind) (flag : ℕ) (bytes : List ℕ) (v : Val) → under_flag flag (content kind bytes) ≡ Some v → is_here v ≡ is_set flag
flag_here kind zero bytes v e = let same : null_val ≡ v = cc in ap is_here (sym same)
flag_here kind (suc zero) bytes v e = content_here kind bytes v e
flag_here kind (suc (suc flag)) bytes v e = absurd cc

pub rows_here : (kind : DTypeKind) (flags bytes : List ℕ) (vs : List Val) → cells kind flags bytes ≡ Some vs → map is_set flags ≡ map is_here vs
rows_here kind [] [] vs h = let same : [] ≡ vs = cc in ap (map is_here) same
rows_here kind [] (b ∷ bytes) vs h = absurd cc
rows_here kind (flag ∷ flags) bytes vs h =
    let first = bind_some (cell kind flag bytes) (λ x. option_map (λ us. x.0 ∷ us) (cells kind flags x.1)) vs h in
    let others = map_some (cells kind flags first.0.1) (λ us. first.0.0 ∷ us) vs first.2 in
    let read = bind_some (slot kind bytes) (λ p. option_map (λ v. (v, p.1)) (under_flag flag (content kind p.0))) first.0 first.1 in
    let value = map_some (under_flag flag (content kind read.0.0)) (λ v. (v, read.0.1)) first.0 read.2 in
    let same : value.0 ≡ first.0.0 = ap (λ p. p.0) value.2 in
    let here : is_here first.0.0 ≡ is_set flag = ap is_here (sym same) ∙ flag_here kind flag read.0.0 value.0 value.1 in
    ap (λ b. b ∷ map is_set flags) (sym here) ∙ ap (λ bs. is_here first.0.0 ∷ bs) (rows_here kind flags first.0.1 others.0 others.1) ∙ ap (map is_here) others.2

all_set : (n : ℕ) → map is_set (replicate {A = ℕ} n 1) ≡ replicate n true
all_set zero = refl
all_set (suc n) = ap (λ bs. true ∷ bs) (all_set n)

pub plain_here : (kind : DTypeKind) (rows : ℕ) (bytes : List ℕ) (vs : List Val) → cells kind (replicate rows 1) bytes ≡ Some vs → replicate rows true ≡ map is_here vs
plain_here kind rows bytes vs h = sym (all_set rows) ∙ rows_here kind (replicate rows 1) bytes vs h

-- ---- all values
pub all_pushed : (front : List Value) (vs : List Val) (i : ℕ) (v : Value) → i < length vs → Some (val_of v) ≡ slice_get vs i →
    map val_of front ++ drop i vs ≡ map val_of (front ++ v ∷ []) ++ drop (i + 1) vs
all_pushed front vs i v inside is =
    let value : get_or vs i null_val ≡ val_of v = some_is (val_of v) (get_or vs i null_val) (is ∙ slice_get-get_or vs i null_val inside) in
    rw (drop-cons vs i null_val inside, add-one, map-append val_of front (v ∷ []))
    (ap (λ u. map val_of front ++ u ∷ drop (suc i) vs) value ∙ sym (append_assoc (map val_of front) (val_of v ∷ []) (drop (suc i) vs)))

pub truth_pushed : (f : Val → Bool) (front : List Bool) (vs : List Val) (i : ℕ) (v : Value) → i < length vs → Some (val_of v) ≡ slice_get vs i →
    front ++ map f (drop i vs) ≡ (front ++ f (val_of v) ∷ []) ++ map f (drop (i + 1) vs)
truth_pushed f front vs i v inside is =
    let value : get_or vs i null_val ≡ val_of v = some_is (val_of v) (get_or vs i null_val) (is ∙ slice_get-get_or vs i null_val inside) in
    rw (drop-cons vs i null_val inside, add-one)
    (ap (λ u. front ++ f u ∷ map f (drop (suc i) vs)) value ∙ sym (append_assoc front (f (val_of v) ∷ []) (map f (drop (suc i) vs))))
