-- What is written is read again.
use Rattle.std.proofs.Common.{◌≡◌, ℕ, suc, ◌<◌, ◌^◌, List, [], ◌∷◌, ◌++◌, length, replicate, arith, refl, ◌∙◌, ap, subst, false, true, Some, append_assoc, length-append}
use Rattle.std.specs.Prelude.{option_and_then, ℤ, pos, negsuc, nat_lt}
use Rattle.std.specs.List.{AllByRecursion}
use Rattle.std.specs.Int.{w8, w16, w32, w64, from_le_bytes, to_le_bytes, cast_unsigned, cast_signed}
use Rattle.std.proofs.lemmas.Int.{ints, to_z-of_z}
use Rattle.std.proofs.lemmas.Nat.{from_le_bytes-to_le_bytes_2, from_le_bytes-to_le_bytes_4, from_le_bytes-to_le_bytes_8}
use Rattle.std.proofs.Math.Seq.{take-append_seam, drop-append_seam}
use Rattle.std.proofs.lemmas.Bool.{le-ltb}
use Rattle.scan_values.specs.declared.ptype.PType.{PType}
use Rattle.scan_values.specs.declared.ptype.PType.TheVariants.{U8, U16, U32, U64, I8, I16, I32, I64}
use Rattle.scan_spelling.specs.Spelling.{part, width, int_of, framed, slot, content, under_flag, cell, cells, group_size, flags_in, slots_in, decode_under}
use Rattle.scan_spelling.specs.Written.{IntFits, int_bytes, HasSlot, IsHere, TextFits, slot_bytes, flag_of, slots, flags, gathered, flags_as, slots_as, IsOfKind, spelling_under}
use Rattle.scan_spelling.specs.declared.spelling.Spelling.{Spelling}
use Rattle.scan_spelling.specs.declared.spelling.Spelling.TheVariants.{One, Two}
use Rattle.scan_spelling.specs.Spells.{AreBits}
use Rattle.scan_spelling.proofs.BitGroups.{is_group}
use Rattle.scan_spelling.proofs.Gathering.{gathered_are, flags_binary, bools_binary}
use Rattle.scan_spelling.proofs.TextTests.{is_text}
use Rattle.scan_values.specs.declared.dtype.DTypeKind.{DTypeKind}
use Rattle.scan_values.specs.declared.ptype.Nullability.{Nullability}
use Rattle.scan_values.specs.declared.ptype.Nullability.TheVariants.{NonNullable, Nullable}
use Rattle.scan_values.specs.Val.{Val, null_val, bool_val, int_val, text_val, list_val, struct_val}
use Rattle.std.proofs.Math.ListN.{length-replicate}

pub part_front : (n : ℕ) (xs rest : List ℕ) → length xs ≡ n → part n (xs ++ rest) ≡ Some (xs, rest)
part_front n xs rest e =
    let enough : nat_lt (length (xs ++ rest)) n ≡ false = le-ltb (length (xs ++ rest)) n (omega (arith, length-append xs rest)) in
    rw (enough, ← e, take-append_seam xs rest, drop-append_seam xs rest) refl

pub int_bytes_length : (p : PType) (z : ℤ) → length (int_bytes p z) ≡ width p
int_bytes_length U8 z = refl
int_bytes_length U16 z = refl
int_bytes_length U32 z = refl
int_bytes_length U64 z = refl
int_bytes_length I8 z = refl
int_bytes_length I16 z = refl
int_bytes_length I32 z = refl
int_bytes_length I64 z = refl

pub int_read : (p : PType) (z : ℤ) → IntFits p z → int_of p (int_bytes p z) ≡ z
int_read U8 (pos n) h = refl
int_read U16 (pos n) h = ap pos (from_le_bytes-to_le_bytes_2 n (omega (arith, ints, h.1)))
int_read U32 (pos n) h = ap pos (from_le_bytes-to_le_bytes_4 n (omega (arith, ints, h.1)))
int_read U64 (pos n) h = ap pos (from_le_bytes-to_le_bytes_8 n (omega (arith, ints, h.1)))
int_read U8 (negsuc n) h = absurd (omega (arith, ints, h.0))
int_read U16 (negsuc n) h = absurd (omega (arith, ints, h.0))
int_read U32 (negsuc n) h = absurd (omega (arith, ints, h.0))
int_read U64 (negsuc n) h = absurd (omega (arith, ints, h.0))
int_read I8 z h = to_z-of_z w8 z h
int_read I16 z h = ap (cast_signed w16) (from_le_bytes-to_le_bytes_2 (cast_unsigned w16 z) (omega (arith, ints))) ∙ to_z-of_z w16 z h
int_read I32 z h = ap (cast_signed w32) (from_le_bytes-to_le_bytes_4 (cast_unsigned w32 z) (omega (arith, ints))) ∙ to_z-of_z w32 z h
int_read I64 z h = ap (cast_signed w64) (from_le_bytes-to_le_bytes_8 (cast_unsigned w64 z) (omega (arith, ints))) ∙ to_z-of_z w64 z h

none_past : (rest : List ℕ) → part 0 rest ≡ Some ([], rest)
none_past rest = part_front 0 [] rest refl

pub framed_front : (text rest : List ℕ) → length text < 2 ^ 32 → framed ((to_le_bytes w32 (length text) ++ text) ++ rest) ≡ Some (text, rest)
framed_front text rest h =
    let size : part 4 (to_le_bytes w32 (length text) ++ (text ++ rest)) ≡ Some (to_le_bytes w32 (length text), text ++ rest) = part_front 4 (to_le_bytes w32 (length text)) (text ++ rest) refl in
    ap framed (append_assoc (to_le_bytes w32 (length text)) text rest)
    ∙ ap (λ r. option_and_then (λ p. part (from_le_bytes w32 p.0) p.1) r) size
    ∙ ap (λ n. part n (text ++ rest)) (from_le_bytes-to_le_bytes_4 (length text) h)
    ∙ part_front (length text) text rest refl

-- a slot that is read, and its value
pub read_cell : (kind : DTypeKind) (flag : ℕ) (bytes : List ℕ) (found rest : List ℕ) (v : Val) → slot kind bytes ≡ Some (found, rest) → under_flag flag (content kind found) ≡ Some v → cell kind flag bytes ≡ Some (v, rest)
read_cell kind flag bytes found rest v e f = rw (e, f) refl

pub cell_again : (kind : DTypeKind) (v : Val) (rest : List ℕ) → HasSlot kind v → TextFits v → cell kind (flag_of v) (slot_bytes kind v ++ rest) ≡ Some (v, rest)
cell_again DTypeKind.List v rest h t = absurd h
cell_again DTypeKind.Struct v rest h t = absurd h
cell_again DTypeKind.Bool null_val rest h t = read_cell DTypeKind.Bool 0 ((0 ∷ []) ++ rest) (0 ∷ []) rest null_val (part_front 1 (0 ∷ []) rest refl) refl
cell_again (DTypeKind.Primitive p) null_val rest h t = read_cell (DTypeKind.Primitive p) 0 (replicate (width p) 0 ++ rest) (replicate (width p) 0) rest null_val (part_front (width p) (replicate (width p) 0) rest (length-replicate (width p) 0)) refl
cell_again DTypeKind.Utf8 null_val rest h t = read_cell DTypeKind.Utf8 0 (replicate 4 0 ++ rest) [] rest null_val (framed_front [] rest (omega arith)) refl
cell_again DTypeKind.Bool (bool_val true) rest h t = read_cell DTypeKind.Bool 1 ((1 ∷ []) ++ rest) (1 ∷ []) rest (bool_val true) (part_front 1 (1 ∷ []) rest refl) refl
cell_again DTypeKind.Bool (bool_val false) rest h t = read_cell DTypeKind.Bool 1 ((0 ∷ []) ++ rest) (0 ∷ []) rest (bool_val false) (part_front 1 (0 ∷ []) rest refl) refl
cell_again DTypeKind.Bool (int_val z) rest h t = absurd h
cell_again DTypeKind.Bool (text_val bytes) rest h t = absurd h
cell_again (DTypeKind.Primitive p) (bool_val b) rest h t = absurd h
cell_again (DTypeKind.Primitive p) (int_val z) rest h t = read_cell (DTypeKind.Primitive p) 1 (int_bytes p z ++ rest) (int_bytes p z) rest (int_val z) (part_front (width p) (int_bytes p z) rest (int_bytes_length p z)) (ap (λ n. Some (int_val n)) (int_read p z h))
cell_again (DTypeKind.Primitive p) (text_val bytes) rest h t = absurd h
cell_again DTypeKind.Utf8 (bool_val b) rest h t = absurd h
cell_again DTypeKind.Utf8 (int_val z) rest h t = absurd h
cell_again DTypeKind.Utf8 (text_val bytes) rest h t = read_cell DTypeKind.Utf8 1 ((to_le_bytes w32 (length bytes) ++ bytes) ++ rest) bytes rest (text_val bytes) (framed_front bytes rest t) (rw (is_text bytes h) refl)
cell_again kind (list_val us) rest h t = absurd (no_slot kind h)
  where
    no_slot : (k : DTypeKind) → HasSlot k (list_val us) → ⊥
    no_slot DTypeKind.Bool h = h
    no_slot (DTypeKind.Primitive p) h = h
    no_slot DTypeKind.Utf8 h = h
    no_slot DTypeKind.List h = h
    no_slot DTypeKind.Struct h = h
cell_again kind (struct_val us) rest h t = absurd (no_slot kind h)
  where
    no_slot : (k : DTypeKind) → HasSlot k (struct_val us) → ⊥
    no_slot DTypeKind.Bool h = h
    no_slot (DTypeKind.Primitive p) h = h
    no_slot DTypeKind.Utf8 h = h
    no_slot DTypeKind.List h = h
    no_slot DTypeKind.Struct h = h

pub cells_again : (kind : DTypeKind) (vs : List Val) → AllByRecursion (HasSlot kind) vs → AllByRecursion TextFits vs → cells kind (flags vs) (slots kind vs) ≡ Some vs
cells_again kind [] h t = refl
cells_again kind (v ∷ vs) h t = rw (cell_again kind v (slots kind vs) h.0 t.0, cells_again kind vs h.1 t.1) refl

abbrev pub HereWhere : Nullability → Val → Type 0
HereWhere NonNullable v = IsHere v
HereWhere Nullable v = Unit {0}

here_flags : (vs : List Val) → AllByRecursion (HereWhere NonNullable) vs → replicate {A = ℕ} (length vs) 1 ≡ flags vs
here_flags [] h = refl
here_flags (null_val ∷ vs) h = absurd h.0
here_flags (bool_val b ∷ vs) h = ap (λ fs. 1 ∷ fs) (here_flags vs h.1)
here_flags (int_val z ∷ vs) h = ap (λ fs. 1 ∷ fs) (here_flags vs h.1)
here_flags (text_val bytes ∷ vs) h = ap (λ fs. 1 ∷ fs) (here_flags vs h.1)
here_flags (list_val us ∷ vs) h = ap (λ fs. 1 ∷ fs) (here_flags vs h.1)
here_flags (struct_val us ∷ vs) h = ap (λ fs. 1 ∷ fs) (here_flags vs h.1)

flags_length : (vs : List Val) → length (flags vs) ≡ length vs
flags_length [] = refl
flags_length (v ∷ vs) = ap suc (flags_length vs)

flags_again : (s : Spelling) (vs : List Val) → (length (flags_as s (flags vs)) ≡ group_size s (length vs)) × (flags_in s (length vs) (flags_as s (flags vs)) ≡ Some (flags vs))
flags_again One vs = (flags_length vs, refl)
flags_again Two vs =
    let are : AreBits (length vs) (flags vs) (gathered (flags vs)) = subst (λ n. AreBits n (flags vs) (gathered (flags vs))) (flags_length vs) (gathered_are (flags vs) (flags_binary vs)) in
    (are.1, is_group (length vs) (flags vs) (gathered (flags vs)) are)

bool_kinds : (vs : List Val) → AllByRecursion (HasSlot DTypeKind.Bool) vs → AllByRecursion (IsOfKind DTypeKind.Bool) vs
bool_kinds [] h = tt
bool_kinds (null_val ∷ vs) h = (tt, bool_kinds vs h.1)
bool_kinds (bool_val b ∷ vs) h = (tt, bool_kinds vs h.1)
bool_kinds (int_val z ∷ vs) h = absurd h.0
bool_kinds (text_val bytes ∷ vs) h = absurd h.0
bool_kinds (list_val us ∷ vs) h = absurd h.0
bool_kinds (struct_val us ∷ vs) h = absurd h.0

slots_again : (s : Spelling) (kind : DTypeKind) (vs : List Val) → AllByRecursion (HasSlot kind) vs → slots_in s kind (length vs) (slots_as s kind (slots kind vs)) ≡ Some (slots kind vs)
slots_again One kind vs h = refl
slots_again Two DTypeKind.Bool vs h =
    let bits = bools_binary vs (bool_kinds vs h) in
    let are = subst (λ n. AreBits n (slots DTypeKind.Bool vs) (gathered (slots DTypeKind.Bool vs))) bits.1 (gathered_are (slots DTypeKind.Bool vs) bits.0) in
    is_group (length vs) (slots DTypeKind.Bool vs) (gathered (slots DTypeKind.Bool vs)) are
slots_again Two (DTypeKind.Primitive p) vs h = refl
slots_again Two DTypeKind.Utf8 vs h = refl
slots_again Two DTypeKind.List vs h = refl
slots_again Two DTypeKind.Struct vs h = refl

pub read_again : (s : Spelling) (n : Nullability) (kind : DTypeKind) (vs : List Val) → AllByRecursion (HasSlot kind) vs → AllByRecursion (HereWhere n) vs → AllByRecursion TextFits vs → decode_under s n kind (length vs) (spelling_under s n kind vs) ≡ Some vs
read_again s NonNullable kind vs h g t =
    ap (option_and_then (cells kind (replicate (length vs) 1))) (slots_again s kind vs h) ∙ ap (λ fs. cells kind fs (slots kind vs)) (here_flags vs g) ∙ cells_again kind vs h t
read_again s Nullable kind vs h g t =
    let front = flags_again s vs in
    rw (part_front (group_size s (length vs)) (flags_as s (flags vs)) (slots_as s kind (slots kind vs)) front.0, front.1, slots_again s kind vs h) (cells_again kind vs h t)
