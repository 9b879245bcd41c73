-- Reading gives the values exactly where the bytes spell them.
use Rattle.std.proofs.Common.{◌≡◌, ℕ, zero, suc, ◌<◌, ◌≤◌, ◌^◌, List, [], ◌∷◌, ◌++◌, length, get_or, take, drop, replicate, arith, refl, sym, ◌∙◌, ap, subst, Bool, false, true, Option, Some, None, append_assoc}
use Rattle.std.specs.Prelude.{option_and_then, option_map, nat_lt, ◌-◌, ◌*◌}
use Rattle.std.specs.Int.{w8, w16, w32, w64, from_le_bytes, to_le_bytes, cast_signed}
use Rattle.std.proofs.lemmas.Int.{ints, of_z-to_z}
use Rattle.std.proofs.lemmas.Nat.{le_bytes_2, le_bytes_4, le_bytes_8}
use Rattle.std.proofs.Math.Facts.{sfits_to_z}
use mir.Syntax.{Width}
use mir.Val.{bits}
use Rattle.std.specs.Int.RustNames.{FitsSigned}
use Rattle.std.specs.Str.{is_utf8}
use Rattle.std.specs.Prelude.{if◌then◌else◌}
use Rattle.std.proofs.lemmas.Str.{IsUtf8-from_is_utf8}
use Rattle.std.proofs.lemmas.Bool.{ltb-false}
use Rattle.std.proofs.lemmas.List.{length-take, take-append-drop}
use Rattle.scan_values.specs.declared.ptype.PType.{PType}
use Rattle.scan_values.specs.declared.ptype.PType.TheVariants.{U8, U16, U32, U64, I8, I16, I32, I64}
use Rattle.scan_values.specs.declared.dtype.DTypeKind.{DTypeKind}
use Rattle.scan_values.specs.declared.ptype.Nullability.{Nullability}
use Rattle.scan_values.specs.declared.ptype.Nullability.TheVariants.{NonNullable, Nullable}
use Rattle.scan_values.specs.Val.{Val, null_val, bool_val, int_val, text_val, list_val, struct_val}
use Rattle.scan_spelling.specs.Spelling.{part, width, int_of, framed, slot, content, under_flag, cell, cells, bits_of, bytes_for, group_size, flags_in, slots_in, decode_slots, decode_under, bool_of}
use Rattle.scan_spelling.specs.Written.{IntFits, int_bytes, HasSlot, IsHere, TextFits, slot_bytes, flag_of}
use Rattle.scan_spelling.specs.declared.spelling.Spelling.{Spelling}
use Rattle.scan_spelling.specs.declared.spelling.Spelling.TheVariants.{One, Two}
use Rattle.scan_spelling.specs.Spells.{AreBits, AreFlags, AreSlots, SpellsSlots, FillsSlot, SpellsCell, SpellsCells, SpellsUnder}
use Rattle.scan_spelling.proofs.BitGroups.{bits_small, group_is, is_group}
use Rattle.scan_spelling.proofs.RoundTrip.{part_front, framed_front, read_cell, cell_again}
use Rattle.scan_spelling.proofs.Lengths.{bind_some, map_some}

-- What is spelled is read.

null_read : (kind : DTypeKind) (slot' rest : List ℕ) → FillsSlot kind slot' → cell kind 0 (slot' ++ rest) ≡ Some (null_val, rest)
null_read DTypeKind.Bool slot' rest h = read_cell DTypeKind.Bool 0 (slot' ++ rest) slot' rest null_val (part_front 1 slot' rest h) refl
null_read (DTypeKind.Primitive p) slot' rest h = read_cell (DTypeKind.Primitive p) 0 (slot' ++ rest) slot' rest null_val (part_front (width p) slot' rest h) refl
null_read DTypeKind.Utf8 slot' rest h =
    ap (λ s. cell DTypeKind.Utf8 0 (s ++ rest)) h.2
    ∙ read_cell DTypeKind.Utf8 0 ((to_le_bytes w32 (length h.0) ++ h.0) ++ rest) h.0 rest null_val (framed_front h.0 rest h.1) refl
null_read DTypeKind.List slot' rest h = absurd h
null_read DTypeKind.Struct slot' rest h = absurd h

here_flag : (v : Val) → IsHere v → flag_of v ≡ 1
here_flag null_val h = absurd h
here_flag (bool_val b) h = refl
here_flag (int_val z) h = refl
here_flag (text_val bytes) h = refl
here_flag (list_val us) h = refl
here_flag (struct_val us) h = refl

cell_read : (kind : DTypeKind) (flag : ℕ) (v : Val) (slot' rest : List ℕ) → SpellsCell kind flag v slot' → cell kind flag (slot' ++ rest) ≡ Some (v, rest)
cell_read kind zero v slot' rest h = null_read kind slot' rest h.1 ∙ ap (λ u. Some (u, rest)) (sym h.0)
cell_read kind (suc zero) v slot' rest h =
    ap (λ s. cell kind 1 (s ++ rest)) h.3 ∙ ap (λ f. cell kind f (slot_bytes kind v ++ rest)) (sym (here_flag v h.1)) ∙ cell_again kind v rest h.0 h.2
cell_read kind (suc (suc flag)) v slot' rest h = absurd h

pub cells_read : (kind : DTypeKind) (flags : List ℕ) (vs : List Val) (bytes : List ℕ) → SpellsCells kind flags vs bytes → cells kind flags bytes ≡ Some vs
cells_read kind [] [] bytes h = rw h refl
cells_read kind [] (v ∷ vs) bytes h = absurd h
cells_read kind (flag ∷ flags) [] bytes h = absurd h
cells_read kind (flag ∷ flags) (v ∷ vs) bytes h = rw (h.2, cell_read kind flag v h.0 h.1 h.3, cells_read kind flags vs h.1 h.4) refl

slots_read : (s : Spelling) (kind : DTypeKind) (n : ℕ) (slots bytes : List ℕ) → AreSlots s kind n slots bytes → slots_in s kind n bytes ≡ Some slots
slots_read One kind n slots bytes h = ap Some h
slots_read Two DTypeKind.Bool n slots bytes h = is_group n slots bytes h
slots_read Two (DTypeKind.Primitive p) n slots bytes h = ap Some h
slots_read Two DTypeKind.Utf8 n slots bytes h = ap Some h
slots_read Two DTypeKind.List n slots bytes h = ap Some h
slots_read Two DTypeKind.Struct n slots bytes h = ap Some h

flags_read : (s : Spelling) (n : ℕ) (flags bytes : List ℕ) → AreFlags s n flags bytes → (length bytes ≡ group_size s n) × (flags_in s n bytes ≡ Some flags)
flags_read One n flags bytes h = (ap length h.1 ∙ h.0, ap Some h.1)
flags_read Two n flags bytes h = (h.1, is_group n flags bytes h)

all_read : (s : Spelling) (kind : DTypeKind) (n : ℕ) (flags : List ℕ) (vs : List Val) (bytes : List ℕ) → SpellsSlots s kind n flags vs bytes → decode_slots s kind n flags bytes ≡ Some vs
all_read s kind n flags vs bytes h = rw (slots_read s kind n h.0 bytes h.1) (cells_read kind flags vs h.0 h.2)

pub under_read : (s : Spelling) (n' : Nullability) (kind : DTypeKind) (n : ℕ) (vs : List Val) (bytes : List ℕ) → SpellsUnder s n' kind n vs bytes → decode_under s n' kind n bytes ≡ Some vs
under_read s NonNullable kind n vs bytes h = all_read s kind n (replicate n 1) vs bytes h
under_read s Nullable kind n vs bytes h =
    let group = flags_read s n h.3.0 h.0 h.3.1 in
    rw (h.2, part_front (group_size s n) h.0 h.1 group.0, group.1) (all_read s kind n h.3.0 vs h.1 h.3.2)

-- What is read is spelled so.

abbrev pub AreBytes : List ℕ → Type 0
AreBytes bytes = (i : ℕ) → get_or bytes i 0 < 256

front_is : (xs ys : List ℕ) → AreBytes (xs ++ ys) → AreBytes xs
front_is [] ys h i = nil_small i
  where
    nil_small : (i : ℕ) → get_or [] i 0 < 256
    nil_small zero = omega arith
    nil_small (suc i) = omega arith
front_is (x ∷ xs) ys h zero = h zero
front_is (x ∷ xs) ys h (suc i) = front_is xs ys (λ j. h (suc j)) i

rest_is : (xs ys : List ℕ) → AreBytes (xs ++ ys) → AreBytes ys
rest_is [] ys h i = h i
rest_is (x ∷ xs) ys h i = rest_is xs ys (λ j. h (suc j)) i

abbrev first_of : Option (List ℕ × List ℕ) → List ℕ
first_of None = []
first_of (Some p) = p.0

abbrev second_of : Option (List ℕ × List ℕ) → List ℕ
second_of None = []
second_of (Some p) = p.1

part_by : (n : ℕ) (bytes xs ys : List ℕ) (test : Bool) → nat_lt (length bytes) n ≡ test → part n bytes ≡ Some (xs, ys) → (bytes ≡ xs ++ ys) × (length xs ≡ n)
part_by n bytes xs ys true p e = let none : None ≡ Some (xs, ys) = rw p at e in absurd cc
part_by n bytes xs ys false p e =
    let some : Some (take n bytes, drop n bytes) ≡ Some (xs, ys) = rw p at e in
    let enough : n ≤ length bytes = ltb-false (length bytes) n p in
    let sized : length (take n bytes) ≡ n = simp length-take (omega arith) in
    (sym (take-append-drop n bytes) ∙ (λ i. first_of (some i) ++ second_of (some i)), ap length (sym (ap first_of some)) ∙ sized)

pub part_is : (n : ℕ) (bytes xs ys : List ℕ) → part n bytes ≡ Some (xs, ys) → (bytes ≡ xs ++ ys) × (length xs ≡ n)
part_is n bytes xs ys e = part_by n bytes xs ys (nat_lt (length bytes) n) refl e

le_16 : (bytes : List ℕ) → AreBytes bytes → from_le_bytes w16 bytes < 2 ^ 16
le_16 bytes h = omega (arith, h 0, h 1)

le_32 : (bytes : List ℕ) → AreBytes bytes → from_le_bytes w32 bytes < 2 ^ 32
le_32 bytes h = omega (arith, h 0, h 1, h 2, h 3)

le_64 : (bytes : List ℕ) → AreBytes bytes → from_le_bytes w64 bytes < 2 ^ 64
le_64 bytes h = omega (arith, h 0, h 1, h 2, h 3, h 4, h 5, h 6, h 7)

one_byte : (bytes : List ℕ) → length bytes ≡ 1 → bytes ≡ get_or bytes 0 0 ∷ []
one_byte [] h = absurd (omega arith)
one_byte (b ∷ []) h = refl
one_byte (b ∷ c ∷ bytes) h = absurd (omega arith)

signed_fits : (w : Width) (n : ℕ) → n < 2 ^ bits w → FitsSigned w (cast_signed w n)
signed_fits w n low = sfits_to_z {w = w} {n = n} (omega arith)

pub int_spelled : (p : PType) (bytes : List ℕ) → length bytes ≡ width p → AreBytes bytes → IntFits p (int_of p bytes) × (int_bytes p (int_of p bytes) ≡ bytes)
int_spelled U8 bytes e h = let low : get_or bytes 0 0 < 256 = h 0 in ((omega (arith, ints), omega (arith, ints)), sym (one_byte bytes e))
int_spelled U16 bytes e h = let low = le_16 bytes h in ((omega (arith, ints), omega (arith, ints, low)), le_bytes_2 bytes (from_le_bytes w16 bytes) e h refl)
int_spelled U32 bytes e h = let low = le_32 bytes h in ((omega (arith, ints), omega (arith, ints, low)), le_bytes_4 bytes (from_le_bytes w32 bytes) e h refl)
int_spelled U64 bytes e h = let low = le_64 bytes h in ((omega (arith, ints), omega (arith, ints, low)), le_bytes_8 bytes (from_le_bytes w64 bytes) e h refl)
int_spelled I8 bytes e h = let low : get_or bytes 0 0 < 2 ^ 8 = h 0 in (signed_fits w8 (get_or bytes 0 0) low, ap (λ b. b ∷ []) (of_z-to_z w8 (get_or bytes 0 0) low) ∙ sym (one_byte bytes e))
int_spelled I16 bytes e h = let low = le_16 bytes h in (signed_fits w16 (from_le_bytes w16 bytes) low, ap (to_le_bytes w16) (of_z-to_z w16 (from_le_bytes w16 bytes) low) ∙ le_bytes_2 bytes (from_le_bytes w16 bytes) e h refl)
int_spelled I32 bytes e h = let low = le_32 bytes h in (signed_fits w32 (from_le_bytes w32 bytes) low, ap (to_le_bytes w32) (of_z-to_z w32 (from_le_bytes w32 bytes) low) ∙ le_bytes_4 bytes (from_le_bytes w32 bytes) e h refl)
int_spelled I64 bytes e h = let low = le_64 bytes h in (signed_fits w64 (from_le_bytes w64 bytes) low, ap (to_le_bytes w64) (of_z-to_z w64 (from_le_bytes w64 bytes) low) ∙ le_bytes_8 bytes (from_le_bytes w64 bytes) e h refl)

-- a slot that was read, and what stands in it
framed_is : (bytes text rest : List ℕ) → AreBytes bytes → framed bytes ≡ Some (text, rest) → (bytes ≡ (to_le_bytes w32 (length text) ++ text) ++ rest) × (length text < 2 ^ 32)
framed_is bytes text rest h e =
    let split = bind_some (part 4 bytes) (λ p. part (from_le_bytes w32 p.0) p.1) (text, rest) e in
    let head = part_is 4 bytes split.0.0 split.0.1 split.1 in
    let tail = part_is (from_le_bytes w32 split.0.0) split.0.1 text rest split.2 in
    let small : AreBytes split.0.0 = front_is split.0.0 split.0.1 (subst AreBytes head.0 h) in
    let size : to_le_bytes w32 (length text) ≡ split.0.0 = le_bytes_4 split.0.0 (length text) head.1 small tail.1 in
    let low : from_le_bytes w32 split.0.0 < 2 ^ 32 = le_32 split.0.0 small in
    (head.0 ∙ (λ i. sym size i ++ tail.0 i) ∙ sym (append_assoc (to_le_bytes w32 (length text)) text rest), subst (λ n. n < 2 ^ 32) (sym tail.1) low)

-- the whole of a slot, with a text's length
abbrev whole : DTypeKind → List ℕ → List ℕ
whole DTypeKind.Utf8 text = to_le_bytes w32 (length text) ++ text
whole _ bytes = bytes

slot_is : (kind : DTypeKind) (bytes found rest : List ℕ) → AreBytes bytes → slot kind bytes ≡ Some (found, rest) → (bytes ≡ whole kind found ++ rest) × FillsSlot kind (whole kind found)
slot_is DTypeKind.Bool bytes found rest h e = part_is 1 bytes found rest e
slot_is (DTypeKind.Primitive p) bytes found rest h e = part_is (width p) bytes found rest e
slot_is DTypeKind.Utf8 bytes found rest h e = let read = framed_is bytes found rest h e in (read.0, (found, read.1, refl))
slot_is DTypeKind.List bytes found rest h e = absurd cc
slot_is DTypeKind.Struct bytes found rest h e = absurd cc

bool_is : (b : ℕ) (v : Val) → bool_of b ≡ Some v → HasSlot DTypeKind.Bool v × IsHere v × TextFits v × (b ∷ [] ≡ slot_bytes DTypeKind.Bool v)
bool_is zero v e = let same : bool_val false ≡ v = cc in subst (λ u. HasSlot DTypeKind.Bool u × IsHere u × TextFits u × (0 ∷ [] ≡ slot_bytes DTypeKind.Bool u)) same (tt, tt, tt, refl)
bool_is (suc zero) v e = let same : bool_val true ≡ v = cc in subst (λ u. HasSlot DTypeKind.Bool u × IsHere u × TextFits u × (1 ∷ [] ≡ slot_bytes DTypeKind.Bool u)) same (tt, tt, tt, refl)
bool_is (suc (suc b)) v e = absurd cc

text_is : (test : Bool) (text : List ℕ) (v : Val) → is_utf8 text ≡ test → length text < 2 ^ 32 → (if test then Some (text_val text) else None) ≡ Some v → SpellsCell DTypeKind.Utf8 1 v (to_le_bytes w32 (length text) ++ text)
text_is true text v p low e = let same : text_val text ≡ v = cc in subst (λ u. SpellsCell DTypeKind.Utf8 1 u (to_le_bytes w32 (length text) ++ text)) same (IsUtf8-from_is_utf8 text p, tt, low, refl)
text_is false text v p low e = absurd cc

content_is : (kind : DTypeKind) (found : List ℕ) (v : Val) → AreBytes found → FillsSlot kind (whole kind found) → length found < 2 ^ 32 → content kind found ≡ Some v → SpellsCell kind 1 v (whole kind found)
content_is DTypeKind.Bool found v h fills low e =
    let read = bool_is (get_or found 0 0) v e in
    (read.0, read.1, read.2, one_byte found fills ∙ read.3)
content_is (DTypeKind.Primitive p) found v h fills low e =
    let same : int_val (int_of p found) ≡ v = cc in
    let spelled = int_spelled p found fills h in
    subst (λ u. SpellsCell (DTypeKind.Primitive p) 1 u found) same (spelled.0, tt, tt, sym spelled.1)
content_is DTypeKind.Utf8 found v h fills low e = text_is (is_utf8 found) found v refl low e
content_is DTypeKind.List found v h fills low e = absurd cc
content_is DTypeKind.Struct found v h fills low e = absurd cc

text_short : (kind : DTypeKind) (found : List ℕ) → FillsSlot kind (whole kind found) → length found < 2 ^ 32
text_short DTypeKind.Bool found h = omega arith
text_short (DTypeKind.Primitive p) found h = omega (arith, width_short p)
  where
    width_short : (q : PType) → width q < 2 ^ 32
    width_short U8 = omega arith
    width_short U16 = omega arith
    width_short U32 = omega arith
    width_short U64 = omega arith
    width_short I8 = omega arith
    width_short I16 = omega arith
    width_short I32 = omega arith
    width_short I64 = omega arith
text_short DTypeKind.Utf8 found h = omega (arith, h.1, ap length h.2)
text_short DTypeKind.List found h = absurd h
text_short DTypeKind.Struct found h = absurd h

found_is : (kind : DTypeKind) (found rest : List ℕ) → AreBytes (whole kind found ++ rest) → AreBytes found
found_is DTypeKind.Bool found rest h = front_is found rest h
found_is (DTypeKind.Primitive p) found rest h = front_is found rest h
found_is DTypeKind.Utf8 found rest h = rest_is (to_le_bytes w32 (length found)) found (front_is (to_le_bytes w32 (length found) ++ found) rest h)
found_is DTypeKind.List found rest h = front_is found rest h
found_is DTypeKind.Struct found rest h = front_is found rest h

flag_is : (kind : DTypeKind) (flag : ℕ) (found : List ℕ) (v : Val) → AreBytes found → FillsSlot kind (whole kind found) → under_flag flag (content kind found) ≡ Some v → SpellsCell kind flag v (whole kind found)
flag_is kind zero found v h fills e = let same : null_val ≡ v = cc in (sym same, fills)
flag_is kind (suc zero) found v h fills e = content_is kind found v h fills (text_short kind found fills) e
flag_is kind (suc (suc flag)) found v h fills e = absurd cc

abbrev cell_value : Option (Val × List ℕ) → Val
cell_value None = null_val
cell_value (Some p) = p.0

abbrev cell_rest : Option (Val × List ℕ) → List ℕ
cell_rest None = []
cell_rest (Some p) = p.1

cell_is : (kind : DTypeKind) (flag : ℕ) (bytes : List ℕ) (v : Val) (rest : List ℕ) → AreBytes bytes → cell kind flag bytes ≡ Some (v, rest) →
    (slot' : List ℕ) × (bytes ≡ slot' ++ rest) × SpellsCell kind flag v slot'
cell_is kind flag bytes v rest h e =
    let read = bind_some (slot kind bytes) (λ p. option_map (λ u. (u, p.1)) (under_flag flag (content kind p.0))) (v, rest) e in
    let value = map_some (under_flag flag (content kind read.0.0)) (λ u. (u, read.0.1)) (v, rest) read.2 in
    let same : value.0 ≡ v = ap (λ p. p.0) value.2 in
    let after : read.0.1 ≡ rest = ap (λ p. p.1) value.2 in
    let split = slot_is kind bytes read.0.0 read.0.1 h read.1 in
    let small : AreBytes read.0.0 = found_is kind read.0.0 read.0.1 (subst AreBytes split.0 h) in
    (whole kind read.0.0, split.0 ∙ ap (λ r. whole kind read.0.0 ++ r) after, flag_is kind flag read.0.0 v small split.1 (value.1 ∙ ap Some same))

pub cells_is : (kind : DTypeKind) (flags bytes : List ℕ) (vs : List Val) → AreBytes bytes → cells kind flags bytes ≡ Some vs → SpellsCells kind flags vs bytes
cells_is kind [] [] [] h e = refl
cells_is kind [] [] (v ∷ vs) h e = absurd cc
cells_is kind [] (b ∷ bytes) vs h e = absurd cc
cells_is kind (flag ∷ flags) bytes [] h e =
    let first = bind_some (cell kind flag bytes) (λ x. option_map (λ us. x.0 ∷ us) (cells kind flags x.1)) [] e in
    let others = map_some (cells kind flags first.0.1) (λ us. first.0.0 ∷ us) [] first.2 in
    let no : first.0.0 ∷ others.0 ≡ [] = others.2 in absurd cc
cells_is kind (flag ∷ flags) bytes (v ∷ vs) h e =
    let first = bind_some (cell kind flag bytes) (λ x. option_map (λ us. x.0 ∷ us) (cells kind flags x.1)) (v ∷ vs) e in
    let others = map_some (cells kind flags first.0.1) (λ us. first.0.0 ∷ us) (v ∷ vs) first.2 in
    let joined : first.0.0 ∷ others.0 ≡ v ∷ vs = others.2 in
    let same : first.0.0 ≡ v = cc in
    let rest : others.0 ≡ vs = cc in
    let here = cell_is kind flag bytes first.0.0 first.0.1 h first.1 in
    let small : AreBytes first.0.1 = rest_is here.0 first.0.1 (subst AreBytes here.1 h) in
    (here.0, first.0.1, here.1, subst (λ u. SpellsCell kind flag u here.0) same here.2, cells_is kind flags first.0.1 vs small (others.1 ∙ ap Some rest))

slots_are : (s : Spelling) (kind : DTypeKind) (n : ℕ) (slots bytes : List ℕ) → slots_in s kind n bytes ≡ Some slots → AreSlots s kind n slots bytes
slots_are One kind n slots bytes e = cc
slots_are Two DTypeKind.Bool n slots bytes e = group_is n slots bytes e
slots_are Two (DTypeKind.Primitive p) n slots bytes e = cc
slots_are Two DTypeKind.Utf8 n slots bytes e = cc
slots_are Two DTypeKind.List n slots bytes e = cc
slots_are Two DTypeKind.Struct n slots bytes e = cc

bits_are_bytes : (n : ℕ) (bits bytes : List ℕ) → AreBits n bits bytes → AreBytes bits
bits_are_bytes n bits bytes h =
    let low : AreBytes (bits_of bytes) = λ i. omega (arith, bits_small bytes i) in
    front_is bits (replicate (8 * bytes_for n - n) 0) (subst AreBytes h.2 low)

slots_small : (s : Spelling) (kind : DTypeKind) (n : ℕ) (slots bytes : List ℕ) → AreBytes bytes → AreSlots s kind n slots bytes → AreBytes slots
slots_small One kind n slots bytes h e = subst AreBytes e h
slots_small Two DTypeKind.Bool n slots bytes h e = bits_are_bytes n slots bytes e
slots_small Two (DTypeKind.Primitive p) n slots bytes h e = subst AreBytes e h
slots_small Two DTypeKind.Utf8 n slots bytes h e = subst AreBytes e h
slots_small Two DTypeKind.List n slots bytes h e = subst AreBytes e h
slots_small Two DTypeKind.Struct n slots bytes h e = subst AreBytes e h

flags_are : (s : Spelling) (n : ℕ) (flags bytes : List ℕ) → length bytes ≡ group_size s n → flags_in s n bytes ≡ Some flags → AreFlags s n flags bytes
flags_are One n flags bytes l e = let same : bytes ≡ flags = cc in (ap length (sym same) ∙ l, same)
flags_are Two n flags bytes l e = group_is n flags bytes e

all_is : (s : Spelling) (kind : DTypeKind) (n : ℕ) (flags : List ℕ) (vs : List Val) (bytes : List ℕ) → AreBytes bytes → decode_slots s kind n flags bytes ≡ Some vs → SpellsSlots s kind n flags vs bytes
all_is s kind n flags vs bytes h e =
    let found = bind_some (slots_in s kind n bytes) (cells kind flags) vs e in
    let are = slots_are s kind n found.0 bytes found.1 in
    (found.0, are, cells_is kind flags found.0 vs (slots_small s kind n found.0 bytes h are) found.2)

pub under_is : (s : Spelling) (n' : Nullability) (kind : DTypeKind) (n : ℕ) (vs : List Val) (bytes : List ℕ) → AreBytes bytes → decode_under s n' kind n bytes ≡ Some vs → SpellsUnder s n' kind n vs bytes
under_is s NonNullable kind n vs bytes h e = all_is s kind n (replicate n 1) vs bytes h e
under_is s Nullable kind n vs bytes h e =
    let split = bind_some (part (group_size s n) bytes) (λ p. option_and_then (λ flags. decode_slots s kind n flags p.1) (flags_in s n p.0)) vs e in
    let parts = part_is (group_size s n) bytes split.0.0 split.0.1 split.1 in
    let found = bind_some (flags_in s n split.0.0) (λ flags. decode_slots s kind n flags split.0.1) vs split.2 in
    (split.0.0, split.0.1, parts.0, (found.0, flags_are s n found.0 split.0.0 parts.1 found.1, all_is s kind n found.0 vs split.0.1 (rest_is split.0.0 split.0.1 (subst AreBytes parts.0 h)) found.2))
