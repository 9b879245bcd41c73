-- Segments that gain null: their rows are all there, and their slots stay.
use Rattle.std.proofs.Common.{◌≡◌, ℕ, zero, suc, List, [], ◌∷◌, ◌++◌, length, replicate, refl, sym, subst, ap, ◌∙◌, Bool, true, false, Option, Some, None, arith}
use Rattle.std.specs.Prelude.{option_map, is_some}
use Rattle.scan_values.specs.declared.ptype.Nullability.{Nullability}
use Rattle.scan_values.specs.declared.ptype.Nullability.TheVariants.{NonNullable, Nullable}
use Rattle.scan_values.specs.declared.dtype.DTypeKind.{DTypeKind}
use Rattle.scan_values.specs.DataType.{DataType, bool_type, int_type, utf8_type, list_type, struct_type, nullability_of}
use Rattle.scan_values.specs.Kinds.{kind_of, is_scalar_type, ptype_of}
use Rattle.scan_values.specs.Val.{Val, null_val, bool_val, int_val, text_val, list_val, struct_val}
use Rattle.scan_spelling.specs.declared.spelling.Spelling.{Spelling}
use Rattle.scan_spelling.specs.declared.spelling.Spelling.TheVariants.{One, Two}
use Rattle.scan_spelling.specs.Spelling.{decode}
use Rattle.scan_spelling.specs.Spells.{SpellsCells, SpellsSlots, SpellsUnder, Spells}
use Rattle.scan_spelling.specs.Written.{spelled, slots, flags, flag_of, slot_bytes, IsHere, spelling_under}
use Rattle.scan_spelling.proofs.Fitting.{decode_spells}
use Rattle.scan_values.specs.declared.ptype.PType.{PType}
use Rattle.scan_widen.specs.declared.behind.Widening.{Widening}
use Rattle.scan_widen.specs.FitsUnder.{fits_under}
use Rattle.scan_widen.specs.Slots.{IsWhole}
use Rattle.scan_widen.specs.Stores.{widened}

here_flag : (v : Val) → IsHere v → flag_of v ≡ 1
here_flag null_val h = absurd h
here_flag (bool_val b) h = refl
here_flag (int_val z) h = refl
here_flag (text_val s) h = refl
here_flag (list_val vs) h = refl
here_flag (struct_val vs) h = refl

cells_are : (kind : DTypeKind) (n : ℕ) (vs : List Val) (bytes : List ℕ) → SpellsCells kind (replicate n 1) vs bytes → (bytes ≡ slots kind vs) × (flags vs ≡ replicate n 1)
cells_are kind zero [] bytes h = (h, refl)
cells_are kind zero (v ∷ vs) bytes h = absurd h
cells_are kind (suc n) [] bytes h = absurd h
cells_are kind (suc n) (v ∷ vs) bytes h =
    let rest = cells_are kind n vs h.1 h.4 in
    (h.2 ∙ (λ i. h.3.3 i ++ rest.0 i), (λ i. here_flag v h.3.1 i ∷ rest.1 i))

-- where a slot of a Bool is a byte, the slots are the bytes
slots_are : (s : Spelling) (kind : DTypeKind) (n : ℕ) (flags : List ℕ) (vs : List Val) (bytes : List ℕ) → IsWhole s kind → SpellsSlots s kind n flags vs bytes → SpellsCells kind flags vs bytes
slots_are One kind n flags vs bytes w h = subst (SpellsCells kind flags vs) (sym h.1) h.2
slots_are Two DTypeKind.Bool n flags vs bytes w h = absurd w
slots_are Two (DTypeKind.Primitive p) n flags vs bytes w h = subst (SpellsCells (DTypeKind.Primitive p) flags vs) (sym h.1) h.2
slots_are Two DTypeKind.Utf8 n flags vs bytes w h = subst (SpellsCells DTypeKind.Utf8 flags vs) (sym h.1) h.2
slots_are Two DTypeKind.List n flags vs bytes w h = subst (SpellsCells DTypeKind.List flags vs) (sym h.1) h.2
slots_are Two DTypeKind.Struct n flags vs bytes w h = subst (SpellsCells DTypeKind.Struct flags vs) (sym h.1) h.2

plain_under : (s : Spelling) (m : Nullability) (kind : DTypeKind) (n : ℕ) (vs : List Val) (bytes : List ℕ) → m ≡ NonNullable → SpellsUnder s m kind n vs bytes → SpellsSlots s kind n (replicate n 1) vs bytes
plain_under s NonNullable kind n vs bytes e h = h
plain_under s Nullable kind n vs bytes e h = absurd cc

-- the bytes of a segment without flags, with a flag for each row before them, spell the same as ones that may be null
pub gained : (s : Spelling) (from to : DataType) (n : ℕ) (bytes : List ℕ) (vs : List Val) → nullability_of from ≡ NonNullable → nullability_of to ≡ Nullable → kind_of from ≡ kind_of to → IsWhole s (kind_of from)
    → decode s from n bytes ≡ Some vs → replicate n 1 ++ bytes ≡ spelled One to vs
gained s from to n bytes vs plain null same whole e =
    let spells = decode_spells s from n bytes vs e in
    let cells = cells_are (kind_of from) n vs bytes (slots_are s (kind_of from) n (replicate n 1) vs bytes whole (plain_under s (nullability_of from) (kind_of from) n vs bytes plain spells.1)) in
    (λ i. sym cells.1 i ++ cells.0 i) ∙ ap (λ k. flags vs ++ slots k vs) same ∙ ap (λ m. spelling_under One m (kind_of to) vs) (sym null)

-- what is read and written again is the widened segment
pub widened_is : (w : Widening) (bytes out : List ℕ) (vs : List Val) → decode w.spelling w.from w.rows bytes ≡ Some vs → out ≡ spelled One w.to vs → widened w bytes ≡ Some out
widened_is w bytes out vs e h = ap (option_map (spelled One w.to)) e ∙ ap Some (sym h)

pub widened_none : (w : Widening) (bytes : List ℕ) → decode w.spelling w.from w.rows bytes ≡ None → widened w bytes ≡ None
widened_none w bytes e = ap (option_map (spelled One w.to)) e
