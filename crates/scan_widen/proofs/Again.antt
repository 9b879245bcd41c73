-- What is widened is read again.
use Rattle.std.proofs.Common.{◌≡◌, ℕ, zero, suc, ◌<◌, ◌^◌, List, [], ◌∷◌, ◌++◌, length, replicate, arith, refl, sym, subst, ap, ◌∙◌, Bool, true, false, ◌&&◌, Some, None, All, get_or}
use Rattle.std.specs.Prelude.{ℤ, pos, negsuc, nat_lt}
use Rattle.std.specs.List.{AllByRecursion}
use Rattle.std.specs.Str.{IsUtf8}
use Rattle.std.specs.Prelude.{◌/◌}
use Rattle.std.specs.Int.{w8, w16, w32, w64, to_le_bytes, cast_unsigned, byte_at, bytes_low_first}
use Rattle.std.proofs.lemmas.Int.{ints}
use Rattle.std.proofs.lemmas.Bool.{lt-ltb}
use Rattle.std.proofs.lemmas.List.Elements.{All-from_recursion, recursion_from_All}
use Rattle.scan_values.specs.declared.ptype.PType.{PType}
use Rattle.scan_values.specs.declared.ptype.PType.TheVariants.{U8, U16, U32, U64, I8, I16, I32, I64}
use Rattle.scan_values.specs.declared.ptype.Nullability.{Nullability}
use Rattle.scan_values.specs.declared.ptype.Nullability.TheVariants.{NonNullable, Nullable}
use Rattle.scan_values.specs.declared.dtype.DTypeKind.{DTypeKind}
use Rattle.scan_values.specs.DataType.{DataType, nullability_of}
use Rattle.scan_values.specs.Kinds.{is_scalar_type, kind_of}
use Rattle.scan_values.specs.Fits.{fits_all}
use Rattle.scan_values.specs.Val.{Val, null_val, bool_val, int_val, text_val, list_val, struct_val, marked_all, vals_of}
use Rattle.scan_spelling.specs.declared.spelling.Spelling.{Spelling}
use Rattle.scan_spelling.specs.declared.spelling.Spelling.TheVariants.{One, Two}
use Rattle.scan_spelling.specs.Spelling.{are_bytes, decode, width}
use Rattle.scan_spelling.specs.Spells.{SpellsCell, SpellsCells, SpellsSlots, SpellsUnder, Spells}
use Rattle.scan_spelling.specs.Written.{IntFits, spelled, slots, flags, flag_of, slot_bytes, ints_of, int_bytes, bit_of, blank, HasSlot, IsText, spelling_under}
use Rattle.scan_spelling.proofs.Fitting.{decode_spells, decoded_fit}
use Rattle.scan_spelling.proofs.Lengths.{decode_length}
use Rattle.scan_spelling.proofs.Recoding.{texts_fit}
use Rattle.scan_spelling.proofs.Encoding.{again}
use Rattle.scan_widen.proofs.Slotted.{have_slots, kinds_where}
use Rattle.scan_widen.specs.FitsUnder.{fits_under}
use Rattle.scan_widen.proofs.Leaves.{vals_go, scalar_goes}

-- ---- bytes
and_parts : (a b : Bool) → (a && b) ≡ true → (a ≡ true) × (b ≡ true)
and_parts true b e = (refl, e)
and_parts false b e = absurd cc

join_bytes : (xs ys : List ℕ) → are_bytes xs ≡ true → are_bytes ys ≡ true → are_bytes (xs ++ ys) ≡ true
join_bytes [] ys h k = k
join_bytes (x ∷ xs) ys h k = let both = and_parts (nat_lt x 256) (are_bytes xs) h in rw both.0 (join_bytes xs ys both.1 k)

later_bytes : (xs ys : List ℕ) → are_bytes (xs ++ ys) ≡ true → are_bytes ys ≡ true
later_bytes [] ys h = h
later_bytes (x ∷ xs) ys h = later_bytes xs ys (and_parts (nat_lt x 256) (are_bytes (xs ++ ys)) h).1

first_bytes : (xs ys : List ℕ) → are_bytes (xs ++ ys) ≡ true → are_bytes xs ≡ true
first_bytes [] ys h = refl
first_bytes (x ∷ xs) ys h = let both = and_parts (nat_lt x 256) (are_bytes (xs ++ ys)) h in rw both.0 (first_bytes xs ys both.1)

byte_small : (i n : ℕ) → nat_lt (byte_at i n) 256 ≡ true
byte_small zero n = lt-ltb (byte_at 0 n) 256 (omega arith)
byte_small (suc i) n = lt-ltb (byte_at (suc i) n) 256 (let m : ℕ = n / 256 ^ suc i in omega arith)

low_first_small : (i k n : ℕ) → are_bytes (bytes_low_first i k n) ≡ true
low_first_small i zero n = refl
low_first_small i (suc k) n = rw (byte_small i n) (low_first_small (suc i) k n)

zeros_small : (n : ℕ) → are_bytes (replicate n 0) ≡ true
zeros_small zero = refl
zeros_small (suc n) = zeros_small n

int_bytes_small : (p : PType) (z : ℤ) → IntFits p z → are_bytes (int_bytes p z) ≡ true
int_bytes_small U8 (pos n) h = let small : n < 256 = omega (arith, ints, h.1) in rw (lt-ltb n 256 small) refl
int_bytes_small U8 (negsuc n) h = absurd (omega (arith, ints, h.0))
int_bytes_small U16 z h = low_first_small 0 2 (cast_unsigned w16 z)
int_bytes_small U32 z h = low_first_small 0 4 (cast_unsigned w32 z)
int_bytes_small U64 z h = low_first_small 0 8 (cast_unsigned w64 z)
int_bytes_small I8 (pos n) h = let small : n < 256 = omega (arith, ints, h.sfits) in rw (lt-ltb n 256 small) refl
int_bytes_small I8 (negsuc n) h = let small : cast_unsigned w8 (negsuc n) < 256 = omega arith in rw (lt-ltb (cast_unsigned w8 (negsuc n)) 256 small) refl
int_bytes_small I16 z h = low_first_small 0 2 (cast_unsigned w16 z)
int_bytes_small I32 z h = low_first_small 0 4 (cast_unsigned w32 z)
int_bytes_small I64 z h = low_first_small 0 8 (cast_unsigned w64 z)

-- a text of bytes
abbrev pub TextSmall : Val → Type 0
TextSmall (text_val s) = are_bytes s ≡ true
TextSmall v = Unit {0}

slot_small : (kind : DTypeKind) (v : Val) → HasSlot kind v → TextSmall v → are_bytes (slot_bytes kind v) ≡ true
slot_small DTypeKind.Bool null_val h t = refl
slot_small (DTypeKind.Primitive p) null_val h t = zeros_small (width p)
slot_small DTypeKind.Utf8 null_val h t = refl
slot_small DTypeKind.Bool (bool_val true) h t = refl
slot_small DTypeKind.Bool (bool_val false) h t = refl
slot_small (DTypeKind.Primitive p) (int_val z) h t = int_bytes_small p z h
slot_small DTypeKind.Utf8 (text_val s) h t = join_bytes (to_le_bytes w32 (length s)) s (low_first_small 0 4 (length s)) t
slot_small DTypeKind.Bool (int_val z) h t = absurd h
slot_small DTypeKind.Bool (text_val s) h t = absurd h
slot_small DTypeKind.Bool (list_val vs) h t = absurd h
slot_small DTypeKind.Bool (struct_val vs) h t = absurd h
slot_small (DTypeKind.Primitive p) (bool_val b) h t = absurd h
slot_small (DTypeKind.Primitive p) (text_val s) h t = absurd h
slot_small (DTypeKind.Primitive p) (list_val vs) h t = absurd h
slot_small (DTypeKind.Primitive p) (struct_val vs) h t = absurd h
slot_small DTypeKind.Utf8 (bool_val b) h t = absurd h
slot_small DTypeKind.Utf8 (int_val z) h t = absurd h
slot_small DTypeKind.Utf8 (list_val vs) h t = absurd h
slot_small DTypeKind.Utf8 (struct_val vs) h t = absurd h
slot_small DTypeKind.List v h t = absurd h
slot_small DTypeKind.Struct v h t = absurd h

slots_small : (kind : DTypeKind) (vs : List Val) → AllByRecursion (HasSlot kind) vs → AllByRecursion TextSmall vs → are_bytes (slots kind vs) ≡ true
slots_small kind [] h t = refl
slots_small kind (v ∷ vs) h t = join_bytes (slot_bytes kind v) (slots kind vs) (slot_small kind v h.0 t.0) (slots_small kind vs h.1 t.1)

flags_small : (vs : List Val) → are_bytes (flags vs) ≡ true
flags_small [] = refl
flags_small (null_val ∷ vs) = flags_small vs
flags_small (bool_val b ∷ vs) = flags_small vs
flags_small (int_val z ∷ vs) = flags_small vs
flags_small (text_val s ∷ vs) = flags_small vs
flags_small (list_val us ∷ vs) = flags_small vs
flags_small (struct_val us ∷ vs) = flags_small vs

pub spelled_small : (n : Nullability) (kind : DTypeKind) (vs : List Val) → AllByRecursion (HasSlot kind) vs → AllByRecursion TextSmall vs → are_bytes (spelling_under One n kind vs) ≡ true
spelled_small NonNullable kind vs h t = slots_small kind vs h t
spelled_small Nullable kind vs h t = join_bytes (flags vs) (slots kind vs) (flags_small vs) (slots_small kind vs h t)

-- a cell's text is of the cell's bytes
small_flag : (kind : DTypeKind) (flag : ℕ) (v : Val) (bytes : List ℕ) → are_bytes bytes ≡ true → SpellsCell kind flag v bytes → TextSmall v
small_flag kind zero v bytes b h = subst TextSmall (sym h.0) tt
small_flag kind (suc zero) null_val bytes b h = tt
small_flag kind (suc zero) (bool_val x) bytes b h = tt
small_flag kind (suc zero) (int_val z) bytes b h = tt
small_flag kind (suc zero) (list_val vs) bytes b h = tt
small_flag kind (suc zero) (struct_val vs) bytes b h = tt
small_flag kind (suc zero) (text_val s) bytes b h = later_bytes (to_le_bytes w32 (length s)) s (subst (λ x. are_bytes x ≡ true) h.3 b)
small_flag kind (suc (suc flag)) v bytes b h = absurd h

small_cells : (kind : DTypeKind) (flags : List ℕ) (vs : List Val) (bytes : List ℕ) → are_bytes bytes ≡ true → SpellsCells kind flags vs bytes → AllByRecursion TextSmall vs
small_cells kind [] [] bytes b h = tt
small_cells kind [] (v ∷ vs) bytes b h = absurd h
small_cells kind (flag ∷ flags) [] bytes b h = absurd h
small_cells kind (flag ∷ flags) (v ∷ vs) bytes b h =
    let parts : are_bytes (h.0 ++ h.1) ≡ true = subst (λ x. are_bytes x ≡ true) h.2 b in
    (small_flag kind flag v h.0 (first_bytes h.0 h.1 parts) h.3, small_cells kind flags vs h.1 (later_bytes h.0 h.1 parts) h.4)

text_flag : (kind : DTypeKind) (flag : ℕ) (v : Val) (bytes : List ℕ) → SpellsCell kind flag v bytes → IsText v
text_flag kind zero v bytes h = subst IsText (sym h.0) tt
text_flag DTypeKind.Utf8 (suc zero) (text_val s) bytes h = h.0
text_flag kind (suc zero) null_val bytes h = tt
text_flag kind (suc zero) (bool_val b) bytes h = tt
text_flag kind (suc zero) (int_val z) bytes h = tt
text_flag kind (suc zero) (list_val vs) bytes h = tt
text_flag kind (suc zero) (struct_val vs) bytes h = tt
text_flag DTypeKind.Bool (suc zero) (text_val s) bytes h = absurd h.0
text_flag (DTypeKind.Primitive p) (suc zero) (text_val s) bytes h = absurd h.0
text_flag DTypeKind.List (suc zero) (text_val s) bytes h = absurd h.0
text_flag DTypeKind.Struct (suc zero) (text_val s) bytes h = absurd h.0
text_flag kind (suc (suc flag)) v bytes h = absurd h

text_cells : (kind : DTypeKind) (flags : List ℕ) (vs : List Val) (bytes : List ℕ) → SpellsCells kind flags vs bytes → AllByRecursion IsText vs
text_cells kind [] [] bytes h = tt
text_cells kind [] (v ∷ vs) bytes h = absurd h
text_cells kind (flag ∷ flags) [] bytes h = absurd h
text_cells kind (flag ∷ flags) (v ∷ vs) bytes h = (text_flag kind flag v h.0 h.3, text_cells kind flags vs h.1 h.4)

text_under : (s : Spelling) (n' : Nullability) (kind : DTypeKind) (n : ℕ) (vs : List Val) (bytes : List ℕ) → SpellsUnder s n' kind n vs bytes → AllByRecursion IsText vs
text_under s NonNullable kind n vs bytes h = text_cells kind (replicate n 1) vs h.0 h.2
text_under s Nullable kind n vs bytes h = text_cells kind h.3.0 vs h.3.2.0 h.3.2.2

-- what is read as text is UTF-8
pub are_texts : (s : Spelling) (t : DataType) (n : ℕ) (bytes : List ℕ) (vs : List Val) → decode s t n bytes ≡ Some vs → All IsText vs
are_texts s t n bytes vs e =
    All-from_recursion IsText vs (text_under s (nullability_of t) (kind_of t) n vs bytes (decode_spells s t n bytes vs e).1)

-- ---- what is read, as values of the other dtype
-- a value of another kind is no text
no_text : (kind : DTypeKind) (flag : ℕ) (v : Val) (bytes : List ℕ) → (kind ≡ DTypeKind.Utf8 → ⊥) → SpellsCell kind flag v bytes → TextSmall v
no_text kind zero v bytes k h = subst TextSmall (sym h.0) tt
no_text kind (suc zero) null_val bytes k h = tt
no_text kind (suc zero) (bool_val x) bytes k h = tt
no_text kind (suc zero) (int_val z) bytes k h = tt
no_text kind (suc zero) (list_val vs) bytes k h = tt
no_text kind (suc zero) (struct_val vs) bytes k h = tt
no_text DTypeKind.Bool (suc zero) (text_val s) bytes k h = absurd h.0
no_text (DTypeKind.Primitive p) (suc zero) (text_val s) bytes k h = absurd h.0
no_text DTypeKind.Utf8 (suc zero) (text_val s) bytes k h = absurd (k refl)
no_text DTypeKind.List (suc zero) (text_val s) bytes k h = absurd h.0
no_text DTypeKind.Struct (suc zero) (text_val s) bytes k h = absurd h.0
no_text kind (suc (suc flag)) v bytes k h = absurd h

no_texts : (kind : DTypeKind) (flags : List ℕ) (vs : List Val) (bytes : List ℕ) → (kind ≡ DTypeKind.Utf8 → ⊥) → SpellsCells kind flags vs bytes → AllByRecursion TextSmall vs
no_texts kind [] [] bytes k h = tt
no_texts kind [] (v ∷ vs) bytes k h = absurd h
no_texts kind (flag ∷ flags) [] bytes k h = absurd h
no_texts kind (flag ∷ flags) (v ∷ vs) bytes k h = (no_text kind flag v h.0 k h.3, no_texts kind flags vs h.1 k h.4)

small_slots : (s : Spelling) (kind : DTypeKind) (n : ℕ) (flags : List ℕ) (vs : List Val) (bytes : List ℕ) → are_bytes bytes ≡ true → SpellsSlots s kind n flags vs bytes → AllByRecursion TextSmall vs
small_slots One kind n flags vs bytes b h = small_cells kind flags vs h.0 (subst (λ x. are_bytes x ≡ true) h.1 b) h.2
small_slots Two DTypeKind.Utf8 n flags vs bytes b h = small_cells DTypeKind.Utf8 flags vs h.0 (subst (λ x. are_bytes x ≡ true) h.1 b) h.2
small_slots Two DTypeKind.Bool n flags vs bytes b h = no_texts DTypeKind.Bool flags vs h.0 (λ e. cc) h.2
small_slots Two (DTypeKind.Primitive p) n flags vs bytes b h = no_texts (DTypeKind.Primitive p) flags vs h.0 (λ e. cc) h.2
small_slots Two DTypeKind.List n flags vs bytes b h = no_texts DTypeKind.List flags vs h.0 (λ e. cc) h.2
small_slots Two DTypeKind.Struct n flags vs bytes b h = no_texts DTypeKind.Struct flags vs h.0 (λ e. cc) h.2

small_texts : (s : Spelling) (n' : Nullability) (kind : DTypeKind) (n : ℕ) (vs : List Val) (bytes : List ℕ) → are_bytes bytes ≡ true → SpellsUnder s n' kind n vs bytes → AllByRecursion TextSmall vs
small_texts s NonNullable kind n vs bytes b h = small_slots s kind n (replicate n 1) vs bytes b h
small_texts s Nullable kind n vs bytes b h = small_slots s kind n h.3.0 vs h.1 (later_bytes h.0 h.1 (subst (λ x. are_bytes x ≡ true) h.2 b)) h.3.2

-- the values of a segment, spelled as ones of the other dtype, are read again
pub widened_again : (s : Spelling) (from to : DataType) (n : ℕ) (bytes : List ℕ) (vs : List Val) → is_scalar_type from ≡ true → fits_under from to ≡ true
    → decode s from n bytes ≡ Some vs → decode One to n (spelled One to vs) ≡ Some vs
widened_again s from to n bytes vs scalar f e =
    let spells : Spells s from n vs bytes = decode_spells s from n bytes vs e in
    let fit = vals_go from to vs scalar f (decoded_fit s from n bytes vs e) in
    let texts = are_texts s from n bytes vs e in
    let slotted = slots_where to vs (scalar_goes from to scalar f) fit texts in
    let small = spelled_small (nullability_of to) (kind_of to) vs slotted (small_texts s (nullability_of from) (kind_of from) n vs bytes spells.0 spells.1) in
    let read = again One to vs (spelled One to vs) (scalar_goes from to scalar f) fit (texts_fit s from n bytes vs e) texts small refl in
    subst (λ m. decode One to m (spelled One to vs) ≡ Some vs) (decode_length s from n bytes vs e) read
  where
    -- what fits has a slot
    slots_where : (t : DataType) (us : List Val) → is_scalar_type t ≡ true → fits_all (marked_all (vals_of us)) t ≡ true → All IsText us → AllByRecursion (HasSlot (kind_of t)) us
    slots_where t us is f g = have_slots (kind_of t) us (kinds_where t us is f) (recursion_from_All IsText us g)
