-- Cells of integers and of Bools as typed cells, and runs of them.
use Rattle.std.proofs.Common.{◌≡◌, ℕ, zero, suc, ◌+◌, ◌-◌, ◌*◌, ◌/◌, ◌^◌, ◌<◌, ◌≤◌, ◌==◌, ◌||◌, ℤ, pos, negsuc, Bool, true, false, cond, List, [], ◌∷◌, ◌++◌, length, take, drop, map, slice_range, replicate, refl, ap, sym, ◌∙◌, arith, Some, None, nat_lt, drop-drop}
use Rattle.std.specs.Prelude.{slice_index, option_and_then, option_map, if◌then◌else◌}
use mir.Val.{sel}
use Rattle.std.specs.Int.{w64, is_negative, cast_signed, from_le_bytes}
use Rattle.std.specs.List.{items_where_true, list_all, list_any, flat_map}
use Rattle.std.specs.Simd.{first_chunks}
use Rattle.std.proofs.lemmas.Bool.{ltb-true, ltb-false}
use Rattle.std.proofs.lemmas.Int.{to_z_pos}
use Rattle.std.proofs.lemmas.List.{length-take, length-drop, length-map, map-append, take_all}
use Rattle.std.proofs.lemmas.List.Concat.{flat_map-cons}
use Rattle.std.proofs.Math.ListN.{length-replicate}
use Rattle.std.proofs.Math.Seq.{take-nil, drop-nil}
use Rattle.scan_values.specs.declared.ptype.PType.{PType}
use Rattle.scan_values.specs.declared.ptype.PType.TheVariants.{U8, U16, U32, U64, I8, I16, I32, I64}
use Rattle.scan_values.specs.Val.{Val, null_val, int_val, bool_val}
use Rattle.scan_values.specs.declared.dtype.DTypeKind.{DTypeKind}
use Rattle.scan_values.specs.DataType.{DataType, nullability_of, bool_type, int_type, utf8_type, list_type, struct_type}
use Rattle.scan_values.specs.Fits.{is_bool_type}
use Rattle.scan_spelling.specs.declared.spelling.Spelling.{Spelling}
use Rattle.scan_spelling.specs.declared.spelling.Spelling.TheVariants.{One, Two}
use Rattle.scan_spelling.specs.Spelling.{part, width, int_of, bool_of, under_flag, cell, cells, byte_bits, bits_of, group_size, flags_in, are_bytes, decode_slots, decode_under, decode}
use Rattle.scan_spelling.specs.LeafColumns.{is_set, spread}
use Rattle.scan_spelling.proofs.BitGroups.{group_is}
use Rattle.scan_spelling.proofs.BitColumns.{flags_are}
use Rattle.scan_spelling.proofs.Rows.{row_bits_length}
use Rattle.scan_spelling.proofs.Lengths.{bind_some, map_some}
use Rattle.scan_spelling.proofs.Columns.{cells_sized as sized}
use Rattle.scan_spelling.specs.Typed.{typed}

-- ---- one cell
part_by : (n : ℕ) (bytes : List ℕ) (y : List ℕ × List ℕ) (b : Bool) → nat_lt (length bytes) n ≡ b → part n bytes ≡ Some y → (n ≤ length bytes) × ((take n bytes, drop n bytes) ≡ y)
part_by n bytes y true p e =
    let none : None ≡ Some y = sym (ap (λ t. if t then None else Some (take n bytes, drop n bytes)) p) ∙ e in absurd cc
part_by n bytes y false p e =
    let some : Some (take n bytes, drop n bytes) ≡ Some y = sym (ap (λ t. if t then None else Some (take n bytes, drop n bytes)) p) ∙ e in
    (ltb-false (length bytes) n p, cc)

flagged : (flag : ℕ) (v w : Val) → under_flag flag (Some w) ≡ Some v → v ≡ cond (is_set flag) w null_val
flagged zero v w e = cc
flagged (suc zero) v w e = cc
flagged (suc (suc n)) v w e = absurd cc

-- the first cell: how long the bytes are, its value, and the bytes after it
first_cell : (p : PType) (flag : ℕ) (bytes rest : List ℕ) (v : Val) → cell (DTypeKind.Primitive p) flag bytes ≡ Some (v, rest)
    → (width p ≤ length bytes) × (v ≡ cond (is_set flag) (int_val (int_of p (take (width p) bytes))) null_val) × (rest ≡ drop (width p) bytes)
first_cell p flag bytes rest v e =
    let read = bind_some (part (width p) bytes) (λ x. option_map (λ u. (u, x.1)) (under_flag flag (Some (int_val (int_of p x.0))))) (v, rest) e in
    let value = map_some (under_flag flag (Some (int_val (int_of p read.0.0)))) (λ u. (u, read.0.1)) (v, rest) read.2 in
    let cut = part_by (width p) bytes read.0 (nat_lt (length bytes) (width p)) refl read.1 in (
      cut.0,
      ap (λ x. x.0) (sym value.2) ∙ flagged flag value.0 (int_val (int_of p read.0.0)) value.1 ∙ ap (λ x. cond (is_set flag) (int_val (int_of p x.0)) null_val) (sym cut.1),
      ap (λ x. x.1) (sym value.2) ∙ ap (λ x. x.1) (sym cut.1),
    )

-- ---- all cells
cells_sized : (p : PType) (flags bytes : List ℕ) (vs : List Val) → cells (DTypeKind.Primitive p) flags bytes ≡ Some vs → length bytes ≡ length flags * width p
cells_sized p flags bytes vs e = sized (DTypeKind.Primitive p) flags bytes vs refl e

pub cells_typed : (p : PType) (flags bytes : List ℕ) (vs : List Val) → cells (DTypeKind.Primitive p) flags bytes ≡ Some vs
    → vs ≡ typed int_val (map (int_of p) (first_chunks (width p) (length flags) bytes)) (map is_set flags)
cells_typed p [] [] vs e = cc
cells_typed p [] (b ∷ bytes) vs e = absurd cc
cells_typed p (flag ∷ flags) bytes vs e =
    let first = bind_some (cell (DTypeKind.Primitive p) flag bytes) (λ x. option_map (λ us. x.0 ∷ us) (cells (DTypeKind.Primitive p) flags x.1)) vs e in
    let others = map_some (cells (DTypeKind.Primitive p) flags first.0.1) (λ us. first.0.0 ∷ us) vs first.2 in
    let one = first_cell p flag bytes first.0.1 first.0.0 first.1 in
    let rest : others.0 ≡ typed int_val (map (int_of p) (first_chunks (width p) (length flags) (drop (width p) bytes))) (map is_set flags)
    = cells_typed p flags first.0.1 others.0 others.1 ∙ ap (λ bs. typed int_val (map (int_of p) (first_chunks (width p) (length flags) bs)) (map is_set flags)) one.2 in
    sym others.2 ∙ (λ i. one.1 i ∷ rest i)

-- flags that are all set
flags_from : (rows first n k : ℕ) → k ≡ n → first + n ≤ rows → map is_set (take k (drop first (replicate {A = ℕ} rows 1))) ≡ replicate n true
flags_from rows zero zero k e h = rw e refl
flags_from zero zero (suc n) k e h = absurd (omega arith)
flags_from (suc rows) zero (suc n) k e h = rw e (λ i. true ∷ flags_from rows zero n n refl (omega arith) i)
flags_from zero (suc first) n k e h = absurd (omega arith)
flags_from (suc rows) (suc first) n k e h = flags_from rows first n k e (omega arith)

pub plain_flags : (rows first n : ℕ) → first + n ≤ rows → map is_set (slice_range (replicate {A = ℕ} rows 1) first (first + n)) ≡ replicate n true
plain_flags rows first n h = flags_from rows first n (first + n - first) (omega arith) h

-- ---- how many slots
pub slot_count : (p : PType) (n m : ℕ) → m ≡ n * width p → m / width p ≡ n
slot_count U8 n m h = omega (arith, h)
slot_count U16 n m h = omega (arith, h)
slot_count U32 n m h = omega (arith, h)
slot_count U64 n m h = omega (arith, h)
slot_count I8 n m h = omega (arith, h)
slot_count I16 n m h = omega (arith, h)
slot_count I32 n m h = omega (arith, h)
slot_count I64 n m h = omega (arith, h)

length-first_chunks : {X : Type 0} (n k : ℕ) (xs : List X) → length (first_chunks n k xs) ≡ k
length-first_chunks n zero xs = refl
length-first_chunks n (suc k) xs = ap suc (length-first_chunks n k (drop n xs))

-- ---- typed cells of a range, and under a mask
typed_drop : {A : Type 0} (f : A → Val) (k : ℕ) (xs : List A) (bs : List Bool) → length bs ≡ length xs → typed f (drop k xs) (drop k bs) ≡ drop k (typed f xs bs)
typed_drop f zero xs bs h = refl
typed_drop f (suc k) [] bs h = refl
typed_drop f (suc k) (x ∷ xs) [] h = absurd (omega (arith, h))
typed_drop f (suc k) (x ∷ xs) (b ∷ bs) h = typed_drop f k xs bs (omega (arith, h))

typed_take : {A : Type 0} (f : A → Val) (k : ℕ) (xs : List A) (bs : List Bool) → typed f (take k xs) (take k bs) ≡ take k (typed f xs bs)
typed_take f zero xs bs = refl
typed_take f (suc k) [] bs = refl
typed_take f (suc k) (x ∷ xs) [] = refl
typed_take f (suc k) (x ∷ xs) (b ∷ bs) = λ i. cond b (f x) null_val ∷ typed_take f k xs bs i

map_drop : {A B : Type 0} (f : A → B) (k : ℕ) (xs : List A) → map f (drop k xs) ≡ drop k (map f xs)
map_drop f zero xs = refl
map_drop f (suc k) [] = refl
map_drop f (suc k) (x ∷ xs) = map_drop f k xs

map_take : {A B : Type 0} (f : A → B) (k : ℕ) (xs : List A) → map f (take k xs) ≡ take k (map f xs)
map_take f zero xs = refl
map_take f (suc k) [] = refl
map_take f (suc k) (x ∷ xs) = λ i. f x ∷ map_take f k xs i

map_slice : {A B : Type 0} (f : A → B) (s e : ℕ) (xs : List A) → map f (slice_range xs s e) ≡ slice_range (map f xs) s e
map_slice f s e xs = map_take f (e - s) (drop s xs) ∙ ap (take (e - s)) (map_drop f s xs)

typed_slice : {A : Type 0} (f : A → Val) (s e : ℕ) (xs : List A) (bs : List Bool) → length bs ≡ length xs → typed f (slice_range xs s e) (slice_range bs s e) ≡ slice_range (typed f xs bs) s e
typed_slice f s e xs bs h = typed_take f (e - s) (drop s xs) (drop s bs) ∙ (λ i. take (e - s) (typed_drop f s xs bs h i))

pub typed_where : {A : Type 0} (f : A → Val) (ms : List Bool) (xs : List A) (bs : List Bool) → length bs ≡ length xs → typed f (items_where_true ms xs) (items_where_true ms bs) ≡ items_where_true ms (typed f xs bs)
typed_where f [] xs bs h = refl
typed_where f (m ∷ ms) [] bs h = refl
typed_where f (m ∷ ms) (x ∷ xs) [] h = absurd (omega (arith, h))
typed_where f (true ∷ ms) (x ∷ xs) (b ∷ bs) h = λ i. cond b (f x) null_val ∷ typed_where f ms xs bs (omega (arith, h)) i
typed_where f (false ∷ ms) (x ∷ xs) (b ∷ bs) h = typed_where f ms xs bs (omega (arith, h))

-- a run of cells
pub run_is : (p : PType) (flags slots : List ℕ) (vs : List Val) (s e : ℕ) → cells (DTypeKind.Primitive p) flags slots ≡ Some vs
    → typed int_val (map (int_of p) (slice_range (first_chunks (width p) (length slots / width p) slots) s e)) (map is_set (slice_range flags s e)) ≡ slice_range vs s e
run_is p flags slots vs s e h =
    let count : length slots / width p ≡ length flags = slot_count p (length flags) (length slots) (cells_sized p flags slots vs h) in
    let chunks = first_chunks (width p) (length flags) slots in
    let even : length (map is_set flags) ≡ length (map (int_of p) chunks) = length-map flags is_set ∙ sym (length-first_chunks (width p) (length flags) slots) ∙ sym (length-map chunks (int_of p)) in
    (λ i. typed int_val (map (int_of p) (slice_range (first_chunks (width p) (count i) slots) s e)) (map is_set (slice_range flags s e)))
    ∙ (λ i. typed int_val (map_slice (int_of p) s e chunks i) (map_slice is_set s e flags i))
    ∙ typed_slice int_val s e (map (int_of p) chunks) (map is_set flags) even
    ∙ (λ i. slice_range (sym (cells_typed p flags slots vs h) i) s e)

-- the slots of a range are there
pub slots_within : (p : PType) (flags slots : List ℕ) (vs : List Val) (e : ℕ) → cells (DTypeKind.Primitive p) flags slots ≡ Some vs → e ≤ length flags → e ≤ length slots / width p
slots_within p flags slots vs e h low = omega (arith, low, slot_count p (length flags) (length slots) (cells_sized p flags slots vs h))

length-slice : {A : Type 0} (xs : List A) (s e : ℕ) → s ≤ e → e ≤ length xs → length (slice_range xs s e) ≡ e - s
length-slice xs s e le h = simp (length-take, length-drop) (omega (arith, le, h))

pub flags_long : (flags : List ℕ) (s e : ℕ) → s ≤ e → e ≤ length flags → length (map is_set (slice_range flags s e)) ≡ e - s
flags_long flags s e le h = length-map (slice_range flags s e) is_set ∙ length-slice flags s e le h

pub numbers_long : (p : PType) (slots : List ℕ) (s e : ℕ) → s ≤ e → e ≤ length slots / width p
    → length (map (int_of p) (slice_range (first_chunks (width p) (length slots / width p) slots) s e)) ≡ e - s
numbers_long p slots s e le h =
    length-map (slice_range (first_chunks (width p) (length slots / width p) slots) s e) (int_of p)
    ∙ length-slice (first_chunks (width p) (length slots / width p) slots) s e le (rw (length-first_chunks (width p) (length slots / width p) slots) h)

pub where_lengths : {A B : Type 0} (ms : List Bool) (xs : List A) (bs : List B) → length bs ≡ length xs → length (items_where_true ms bs) ≡ length (items_where_true ms xs)
where_lengths [] xs bs h = refl
where_lengths (m ∷ ms) [] [] h = refl
where_lengths (m ∷ ms) [] (b ∷ bs) h = absurd (omega (arith, h))
where_lengths (m ∷ ms) (x ∷ xs) [] h = absurd (omega (arith, h))
where_lengths (true ∷ ms) (x ∷ xs) (b ∷ bs) h = λ i. suc (where_lengths ms xs bs (omega (arith, h)) i)
where_lengths (false ∷ ms) (x ∷ xs) (b ∷ bs) h = where_lengths ms xs bs (omega (arith, h))

pub where_all : {A : Type 0} (ms : List Bool) (xs : List A) → length ms ≡ length xs → list_all (λ b. b) ms ≡ true → items_where_true ms xs ≡ xs
where_all [] [] h e = refl
where_all [] (x ∷ xs) h e = absurd (omega (arith, h))
where_all (m ∷ ms) [] h e = absurd (omega (arith, h))
where_all (true ∷ ms) (x ∷ xs) h e = λ i. x ∷ where_all ms xs (omega (arith, h)) e i
where_all (false ∷ ms) (x ∷ xs) h e = absurd cc

pub typed_length : {A : Type 0} (f : A → Val) (xs : List A) (bs : List Bool) → length bs ≡ length xs → length (typed f xs bs) ≡ length xs
typed_length f [] bs h = refl
typed_length f (x ∷ xs) [] h = absurd (omega (arith, h))
typed_length f (x ∷ xs) (b ∷ bs) h = λ i. suc (typed_length f xs bs (omega (arith, h)) i)

-- ---- numbers of u64 that are those of an i64
sel_no : (b : Bool) (x y : ℤ) → b ≡ false → sel b x y ≡ y
sel_no true x y e = absurd cc
sel_no false x y e = refl

unsigned_one : (n : ℕ) → is_negative (cast_signed w64 n) ≡ false → cast_signed w64 n ≡ pos n
unsigned_one n h = by (nat_lt n (2 ^ 63)) refl
  where
    by : (b : Bool) → nat_lt n (2 ^ 63) ≡ b → cast_signed w64 n ≡ pos n
    by true p = to_z_pos w64 n (ltb-true n (2 ^ 63) p)
    by false p =
        let low : is_negative (cast_signed w64 n) ≡ true = ap is_negative (sel_no (nat_lt n (2 ^ 63)) (pos n) (negsuc (2 ^ 64 - suc n)) p) in
        let never : true ≡ false = sym low ∙ h in absurd cc

either : (a b : Bool) → (a || b) ≡ false → (a ≡ false) × (b ≡ false)
either false b e = (refl, e)
either true b e = absurd cc

unsigned_all : (ws : List (List ℕ)) → list_any is_negative (map (int_of I64) ws) ≡ false → map (int_of I64) ws ≡ map (int_of U64) ws
unsigned_all [] e = refl
unsigned_all (w ∷ ws) e =
    let both = either (is_negative (int_of I64 w)) (list_any is_negative (map (int_of I64) ws)) e in
    λ i. unsigned_one (from_le_bytes w64 w) both.0 i ∷ unsigned_all ws both.1 i

pub unsigned_words : (zs : List ℤ) (ws : List (List ℕ)) → zs ≡ map (int_of I64) ws → list_any is_negative zs ≡ false → zs ≡ map (int_of U64) ws
unsigned_words zs ws e h = e ∙ unsigned_all ws (ap (list_any is_negative) (sym e) ∙ h)

-- ---- bits of bytes, eight at once
pub set_of : (m : ℕ) → m < 2 → (m == 1) ≡ is_set m
set_of zero h = refl
set_of (suc zero) h = refl
set_of (suc (suc m)) h = absurd (omega arith)

pub flags_flat : (bytes : List ℕ) → flat_map (λ x. x) (map (λ b. map is_set (byte_bits b)) bytes) ≡ map is_set (bits_of bytes)
flags_flat [] = refl
flags_flat (b ∷ bytes) = flat_map-cons (λ x. x) (map is_set (byte_bits b)) (map (λ c. map is_set (byte_bits c)) bytes) ∙ (λ i. map is_set (byte_bits b) ++ flags_flat bytes i) ∙ sym (map-append is_set (byte_bits b) (bits_of bytes))

bits_drop : (k : ℕ) (bytes : List ℕ) → bits_of (drop k bytes) ≡ drop (8 * k) (bits_of bytes)
bits_drop zero bytes = refl
bits_drop (suc k) [] = sym (drop-nil {A = ℕ} (8 * suc k))
bits_drop (suc k) (b ∷ bytes) = let eight : 8 * suc k ≡ suc (suc (suc (suc (suc (suc (suc (suc (8 * k)))))))) = omega arith in bits_drop k bytes ∙ (λ i. drop (sym eight i) (bits_of (b ∷ bytes)))

bits_take : (k : ℕ) (bytes : List ℕ) → bits_of (take k bytes) ≡ take (8 * k) (bits_of bytes)
bits_take zero bytes = refl
bits_take (suc k) [] = sym (take-nil {A = ℕ} (8 * suc k))
bits_take (suc k) (b ∷ bytes) =
    let eight : 8 * suc k ≡ suc (suc (suc (suc (suc (suc (suc (suc (8 * k)))))))) = omega arith in
    (λ i. byte_bits b ++ bits_take k bytes i) ∙ (λ i. take (sym eight i) (bits_of (b ∷ bytes)))

-- a range within a range
pub inner : {A : Type 0} (n k m : ℕ) (xs : List A) → k + n ≤ m → take n (drop k (take m xs)) ≡ take n (drop k xs)
inner zero k m xs h = refl
inner (suc n) k zero xs h = absurd (omega (arith, h))
inner (suc n) k (suc m) [] h = refl
inner (suc n) zero (suc m) (x ∷ xs) h = λ i. x ∷ inner n zero m xs (omega (arith, h)) i
inner (suc n) (suc k) (suc m) (x ∷ xs) h = inner (suc n) k m xs (omega (arith, h))

pub bits_within : (bytes : List ℕ) (k m s e : ℕ) → 8 * k ≤ s → s ≤ e → e ≤ 8 * m → k ≤ m → slice_range (bits_of (slice_range bytes k m)) (s - 8 * k) (e - 8 * k) ≡ slice_range (bits_of bytes) s e
bits_within bytes k m s e low ordered high le =
    let parts : bits_of (take (m - k) (drop k bytes)) ≡ take (8 * (m - k)) (drop (8 * k) (bits_of bytes)) = bits_take (m - k) (drop k bytes) ∙ (λ i. take (8 * (m - k)) (bits_drop k bytes i)) in
    let count : e - 8 * k - (s - 8 * k) ≡ e - s = omega (arith, low, ordered) in
    let place : 8 * k + (s - 8 * k) ≡ s = omega (arith, low) in
    (λ i. take (count i) (drop (s - 8 * k) (parts i)))
    ∙ inner (e - s) (s - 8 * k) (8 * (m - k)) (drop (8 * k) (bits_of bytes)) (omega (arith, low, ordered, high, le))
    ∙ (λ i. take (e - s) (drop-drop (s - 8 * k) (8 * k) (bits_of bytes) i))
    ∙ (λ i. take (e - s) (drop (place i) (bits_of bytes)))

pub flags_within : (s : Spelling) (n : ℕ) (bytes : List ℕ) (a e : ℕ) → s ≡ Two → a ≤ e → e ≤ n → map is_set (slice_range (bits_of bytes) a e) ≡ map is_set (slice_range (spread s n bytes) a e)
flags_within One n bytes a e k le h = absurd cc
flags_within Two n bytes a e k le h = λ i. map is_set (sym (inner (e - a) a n (bits_of bytes) (omega (arith, le, h))) i)

pub spread_length : (s : Spelling) (n : ℕ) (flags : List ℕ) → length flags ≡ group_size s n → length (spread s n flags) ≡ n
spread_length One n flags h = h
spread_length Two n flags h = row_bits_length n flags h

-- ---- slots in either spelling
pub int_slots : (s : Spelling) (p : PType) (n : ℕ) (flags slots : List ℕ) → decode_slots s (DTypeKind.Primitive p) n flags slots ≡ cells (DTypeKind.Primitive p) flags slots
int_slots One p n flags slots = refl
int_slots Two p n flags slots = refl

bool_parts : (s : Spelling) (n : ℕ) (flags slots : List ℕ) (vs : List Val) → decode_slots s DTypeKind.Bool n flags slots ≡ Some vs → option_and_then (cells DTypeKind.Bool flags) (flags_in s n slots) ≡ Some vs
bool_parts One n flags slots vs h = h
bool_parts Two n flags slots vs h = h

pub bool_slots : (s : Spelling) (n : ℕ) (flags slots : List ℕ) (vs : List Val) → decode_slots s DTypeKind.Bool n flags slots ≡ Some vs → cells DTypeKind.Bool flags (spread s n slots) ≡ Some vs
bool_slots s n flags slots vs h =
    let found = bind_some (flags_in s n slots) (cells DTypeKind.Bool flags) vs (bool_parts s n flags slots vs h) in
    ap (cells DTypeKind.Bool flags) (flags_are s n slots found.0 found.1) ∙ found.2

pub bool_size : (s : Spelling) (n : ℕ) (flags slots : List ℕ) (vs : List Val) → decode_slots s DTypeKind.Bool n flags slots ≡ Some vs → length flags ≡ n → length slots ≡ group_size s n
bool_size One n flags slots vs h e = omega (arith, e, sized DTypeKind.Bool flags slots vs refl h)
bool_size Two n flags slots vs h e =
    let found = bind_some (flags_in Two n slots) (cells DTypeKind.Bool flags) vs h in
    (group_is n found.0 slots found.1).1

-- ---- Bools
flagged_bool : (flag b : ℕ) (v : Val) → under_flag flag (bool_of b) ≡ Some v → v ≡ cond (is_set flag) (bool_val (is_set b)) null_val
flagged_bool zero b v e = cc
flagged_bool (suc zero) zero v e = cc
flagged_bool (suc zero) (suc zero) v e = cc
flagged_bool (suc zero) (suc (suc b)) v e = absurd cc
flagged_bool (suc (suc n)) b v e = absurd cc

first_bool : (flag b : ℕ) (bytes rest : List ℕ) (v : Val) → cell DTypeKind.Bool flag (b ∷ bytes) ≡ Some (v, rest) → (v ≡ cond (is_set flag) (bool_val (is_set b)) null_val) × (rest ≡ bytes)
first_bool flag b bytes rest v e =
    let read = bind_some (part 1 (b ∷ bytes)) (λ x. option_map (λ u. (u, x.1)) (under_flag flag (bool_of (slice_index x.0 0)))) (v, rest) e in
    let value = map_some (under_flag flag (bool_of (slice_index read.0.0 0))) (λ u. (u, read.0.1)) (v, rest) read.2 in
    let cut = part_by 1 (b ∷ bytes) read.0 (nat_lt (length (b ∷ bytes)) 1) refl read.1 in
    let byte : slice_index read.0.0 0 ≡ b = ap (λ x. slice_index x.0 0) (sym cut.1) in (
      ap (λ x. x.0) (sym value.2) ∙ flagged_bool flag (slice_index read.0.0 0) value.0 value.1 ∙ ap (λ k. cond (is_set flag) (bool_val (is_set k)) null_val) byte,
      ap (λ x. x.1) (sym value.2) ∙ ap (λ x. x.1) (sym cut.1),
    )

pub bools_typed : (flags bytes : List ℕ) (vs : List Val) → cells DTypeKind.Bool flags bytes ≡ Some vs → vs ≡ typed bool_val (map is_set bytes) (map is_set flags)
bools_typed [] [] vs e = cc
bools_typed [] (b ∷ bytes) vs e = absurd cc
bools_typed (flag ∷ flags) [] vs e = absurd cc
bools_typed (flag ∷ flags) (b ∷ bytes) vs e =
    let first = bind_some (cell DTypeKind.Bool flag (b ∷ bytes)) (λ x. option_map (λ us. x.0 ∷ us) (cells DTypeKind.Bool flags x.1)) vs e in
    let others = map_some (cells DTypeKind.Bool flags first.0.1) (λ us. first.0.0 ∷ us) vs first.2 in
    let one = first_bool flag b bytes first.0.1 first.0.0 first.1 in
    let rest : others.0 ≡ typed bool_val (map is_set bytes) (map is_set flags) = bools_typed flags bytes others.0 (ap (cells DTypeKind.Bool flags) (sym one.1) ∙ others.1) in
    sym others.2 ∙ (λ i. one.0 i ∷ rest i)

pub bools_are : (flags slots : List ℕ) (vs : List Val) (s e : ℕ) → cells DTypeKind.Bool flags slots ≡ Some vs → typed bool_val (map is_set (slice_range slots s e)) (map is_set (slice_range flags s e)) ≡ slice_range vs s e
bools_are flags slots vs s e h =
    let long : length slots ≡ length flags * 1 = sized DTypeKind.Bool flags slots vs refl h in
    let even : length (map is_set flags) ≡ length (map is_set slots) = length-map flags is_set ∙ omega (arith, long) ∙ sym (length-map slots is_set) in
    (λ i. typed bool_val (map_slice is_set s e slots i) (map_slice is_set s e flags i))
    ∙ typed_slice bool_val s e (map is_set slots) (map is_set flags) even
    ∙ (λ i. slice_range (sym (bools_typed flags slots vs h) i) s e)

-- ---- where all are there
pub typed_full : {A : Type 0} (f : A → Val) (xs : List A) → typed f xs (replicate (length xs) true) ≡ map f xs
typed_full f [] = refl
typed_full f (x ∷ xs) = λ i. f x ∷ typed_full f xs i

pub where_map : {A B : Type 0} (f : A → B) (ms : List Bool) (xs : List A) → map f (items_where_true ms xs) ≡ items_where_true ms (map f xs)
where_map f [] xs = refl
where_map f (m ∷ ms) [] = none m
  where
    none : (b : Bool) → map f (items_where_true (b ∷ ms) []) ≡ items_where_true (b ∷ ms) []
    none true = refl
    none false = refl
where_map f (true ∷ ms) (x ∷ xs) = λ i. f x ∷ where_map f ms xs i
where_map f (false ∷ ms) (x ∷ xs) = where_map f ms xs

full_of : {A : Type 0} (f : A → Val) (xs : List A) (k : ℕ) → k ≡ length xs → typed f xs (replicate k true) ≡ map f xs
full_of f xs k h = (λ i. typed f xs (replicate (h i) true)) ∙ typed_full f xs

-- the lengths of what is read
pub bits_read : (bytes : List ℕ) (k m s e : ℕ) → 8 * k ≤ s → s ≤ e → e ≤ 8 * m → k ≤ m
    → slice_range (flat_map (λ x. x) (map (λ b. map is_set (byte_bits b)) (slice_range bytes k m))) (s - 8 * k) (e - 8 * k) ≡ map is_set (slice_range (bits_of bytes) s e)
bits_read bytes k m s e low ordered high le =
    (λ i. slice_range (flags_flat (slice_range bytes k m) i) (s - 8 * k) (e - 8 * k))
    ∙ sym (map_slice is_set (s - 8 * k) (e - 8 * k) (bits_of (slice_range bytes k m)))
    ∙ ap (map is_set) (bits_within bytes k m s e low ordered high le)

pub spread_long : (s : Spelling) (n : ℕ) (flags : List ℕ) (a k : ℕ) → length flags ≡ group_size s n → a + k ≤ n → length (map is_set (slice_range (spread s n flags) a (a + k))) ≡ k
spread_long s n flags a k h within =
    let there : a + k ≤ length (spread s n flags) = omega (arith, within, spread_length s n flags h) in
    flags_long (spread s n flags) a (a + k) (omega arith) there ∙ omega arith

pub plain_bools_are : (n : ℕ) (slots : List ℕ) (vs : List Val) (s k : ℕ) → cells DTypeKind.Bool (replicate n 1) slots ≡ Some vs → s + k ≤ n → map bool_val (map is_set (slice_range slots s (s + k))) ≡ slice_range vs s (s + k)
plain_bools_are n slots vs s k h within =
    let size : length slots ≡ length (replicate {A = ℕ} n 1) * 1 = sized DTypeKind.Bool (replicate n 1) slots vs refl h in
    let there : s + k ≤ length slots = omega (arith, within, size, length-replicate {A = ℕ} n 1) in
    let long : length (map is_set (slice_range slots s (s + k))) ≡ s + k - s = flags_long slots s (s + k) (omega arith) there in
    sym (full_of bool_val (map is_set (slice_range slots s (s + k))) k (omega (arith, long)))
    ∙ (λ i. typed bool_val (map is_set (slice_range slots s (s + k))) (sym (plain_flags n s k within) i))
    ∙ bools_are (replicate n 1) slots vs s (s + k) h

pub plain_ints_are : (p : PType) (n : ℕ) (slots : List ℕ) (vs : List Val) (s k : ℕ) → cells (DTypeKind.Primitive p) (replicate n 1) slots ≡ Some vs → s + k ≤ n
    → map int_val (map (int_of p) (slice_range (first_chunks (width p) (length slots / width p) slots) s (s + k))) ≡ slice_range vs s (s + k)
plain_ints_are p n slots vs s k h within =
    let numbers : List ℤ = map (int_of p) (slice_range (first_chunks (width p) (length slots / width p) slots) s (s + k)) in
    let ones : s + k ≤ length (replicate {A = ℕ} n 1) = omega (arith, within, length-replicate {A = ℕ} n 1) in
    let there : s + k ≤ length slots / width p = slots_within p (replicate n 1) slots vs (s + k) h ones in
    let long : length numbers ≡ s + k - s = numbers_long p slots s (s + k) (omega arith) there in
    sym (full_of int_val numbers k (omega (arith, long)))
    ∙ (λ i. typed int_val numbers (sym (plain_flags n s k within) i))
    ∙ run_is p (replicate n 1) slots vs s (s + k) h

-- all flags, and the kind of Bools
pub all_flags : (s : Spelling) (n : ℕ) (flags : List ℕ) → length flags ≡ group_size s n → map is_set (slice_range (spread s n flags) 0 n) ≡ map is_set (spread s n flags)
all_flags s n flags h = ap (map is_set) (take_all (n - 0) (spread s n flags) (omega (arith, spread_length s n flags h)))

pub bool_under : (s : Spelling) (t : DataType) (n : ℕ) (bytes : List ℕ) (vs : List Val) → is_bool_type t ≡ true → decode s t n bytes ≡ Some vs → decode_under s (nullability_of t) DTypeKind.Bool n bytes ≡ Some vs
bool_under s (bool_type m) n bytes vs k h = by (are_bytes bytes) refl
  where
    by : (b : Bool) → are_bytes bytes ≡ b → decode_under s m DTypeKind.Bool n bytes ≡ Some vs
    by true p = rw p at h
    by false p = let none : None ≡ Some vs = rw p at h in absurd cc
bool_under s (int_type p m) n bytes vs k h = absurd cc
bool_under s (utf8_type m) n bytes vs k h = absurd cc
bool_under s (list_type d m) n bytes vs k h = absurd cc
bool_under s (struct_type fs m) n bytes vs k h = absurd cc
