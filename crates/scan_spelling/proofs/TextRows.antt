-- Segments of texts after their flags: which are spellings, and where a value stands.
use Rattle.std.proofs.Common.{◌≡◌, ℕ, ◌≤◌, ◌<◌, List, [], ◌++◌, length, get_or, take, drop, map, slice_get, zero, suc, ◌∷◌, replicate, arith, refl, sym, ◌∙◌, ap, true, Option, Some, None, is_some, Result, Ok, Err, IfOk}
use Rattle.std.specs.Prelude.{option_and_then, option_map}
use Rattle.std.proofs.Math.ListN.{length-replicate}
use Rattle.scan_values.specs.declared.ptype.Nullability.{Nullability}
use Rattle.scan_values.specs.declared.ptype.Nullability.TheVariants.{NonNullable, Nullable}
use Rattle.scan_values.specs.declared.dtype.DTypeKind.{DTypeKind}
use Rattle.scan_values.specs.DataType.{DataType, nullability_of}
use Rattle.scan_values.specs.Kinds.{kind_of}
use Rattle.scan_values.specs.Val.{Val}
use Rattle.scan_spelling.specs.declared.spelling.DecodeFault.{DecodeFault}
use Rattle.scan_spelling.specs.declared.spelling.DecodeFault.TheVariants as fault
use Rattle.scan_spelling.specs.Decoded.{Gives}
use Rattle.scan_spelling.specs.declared.spelling.Spelling.{Spelling}
use Rattle.scan_spelling.specs.declared.spelling.Spelling.TheVariants.{One, Two}
use Rattle.scan_spelling.specs.Spelling.{part, framed, are_bytes, decode, cells, group_size, flags_in, decode_slots, decode_under}
use Rattle.scan_spelling.specs.LeafColumns.{or_none, spread, spelled, is_here, is_set}
use Rattle.scan_spelling.specs.TextColumns.{ends_of, row_flags, flag_bytes, ends_under}
use Rattle.scan_spelling.proofs.Rows.{row_bits_length}
use Rattle.scan_spelling.proofs.Lengths.{bind_some, decode_parts}
use Rattle.scan_spelling.proofs.Relation.{part_is}
use Rattle.scan_spelling.proofs.BitColumns.{under_parts, flags_are, take_front, drop_front, slots_here, here_flagged}
use Rattle.scan_spelling.proofs.Columns.{some_of, none_of}
use Rattle.scan_spelling.proofs.TextColumns.{ends_there, with_ends, ends_unframed}

pub flags_length : (s : Spelling) (m : Nullability) (n : ℕ) (flags : List ℕ) → length flags ≡ flag_bytes s m n → length (row_flags s m n flags) ≡ n
flags_length s NonNullable n flags e = length-replicate {A = ℕ} n 1
flags_length One Nullable n flags e = e
flags_length Two Nullable n flags e = row_bits_length n flags e

pub text_unframed : (s : Spelling) (m : Nullability) (n : ℕ) (flags front : List ℕ) (at i : ℕ) (rest : List ℕ) → length flags ≡ flag_bytes s m n → i < n → framed rest ≡ None →
    with_ends front (ends_of at (drop i (row_flags s m n flags)) rest) ≡ None
text_unframed s m n flags front at i rest e low f =
    let inside : i < length (row_flags s m n flags) = rw (flags_length s m n flags e) low in
    ends_unframed front at (row_flags s m n flags) i rest inside f

-- ---- the ends are there where the values are
both_there : {X A B : Type 0} (o : Option X) (f : X → Option A) (g : X → Option B) → ((x : X) → is_some (f x) ≡ is_some (g x)) → is_some (option_and_then f o) ≡ is_some (option_and_then g o)
both_there None f g h = refl
both_there (Some x) f g h = h x

pub text_slots : (s : Spelling) (n : ℕ) (flags bytes : List ℕ) → decode_slots s DTypeKind.Utf8 n flags bytes ≡ cells DTypeKind.Utf8 flags bytes
text_slots One n flags bytes = refl
text_slots Two n flags bytes = refl

slots_there : (s : Spelling) (n : ℕ) (flags bytes : List ℕ) → is_some (decode_slots s DTypeKind.Utf8 n flags bytes) ≡ is_some (ends_of 0 flags bytes)
slots_there s n flags bytes = ap is_some (text_slots s n flags bytes) ∙ ends_there 0 flags bytes

pub under_there : (s : Spelling) (m : Nullability) (n : ℕ) (bytes : List ℕ) → is_some (decode_under s m DTypeKind.Utf8 n bytes) ≡ is_some (ends_under s m n bytes)
under_there s NonNullable n bytes = slots_there s n (replicate n 1) bytes
under_there s Nullable n bytes =
    both_there (part (group_size s n) bytes) (λ p. option_and_then (λ flags. decode_slots s DTypeKind.Utf8 n flags p.1) (flags_in s n p.0)) (λ p. option_and_then (λ flags. ends_of 0 flags p.1) (flags_in s n p.0))
    (λ p. both_there (flags_in s n p.0) (λ flags. decode_slots s DTypeKind.Utf8 n flags p.1) (λ flags. ends_of 0 flags p.1) (λ flags. slots_there s n flags p.1))

-- ---- the parts of a segment of texts
pub text_parts : (s : Spelling) (m : Nullability) (n : ℕ) (bytes : List ℕ) (vs : List Val) → decode_under s m DTypeKind.Utf8 n bytes ≡ Some vs →
    (flag_bytes s m n ≤ length bytes) × (cells DTypeKind.Utf8 (row_flags s m n (take (flag_bytes s m n) bytes)) (drop (flag_bytes s m n) bytes) ≡ Some vs)
text_parts s NonNullable n bytes vs h = (omega arith, sym (text_slots s n (replicate n 1) bytes) ∙ h)
text_parts s Nullable n bytes vs h =
    let parts = under_parts s DTypeKind.Utf8 n bytes vs h in
    (parts.0, sym (text_slots s n (spread s n (take (group_size s n) bytes)) (drop (group_size s n) bytes)) ∙ parts.1)

pub ends_parts : (s : Spelling) (m : Nullability) (n : ℕ) (bytes ends : List ℕ) → ends_under s m n bytes ≡ Some ends →
    ends_of 0 (row_flags s m n (take (flag_bytes s m n) bytes)) (drop (flag_bytes s m n) bytes) ≡ Some ends
ends_parts s NonNullable n bytes ends h = h
ends_parts s Nullable n bytes ends h =
    let split = bind_some (part (group_size s n) bytes) (λ p. option_and_then (λ flags. ends_of 0 flags p.1) (flags_in s n p.0)) ends h in
    let found = bind_some (flags_in s n split.0.0) (λ flags. ends_of 0 flags split.0.1) ends split.2 in
    let is = part_is (group_size s n) bytes split.0.0 split.0.1 split.1 in
    let front : take (group_size s n) bytes ≡ split.0.0 = ap (take (group_size s n)) is.0 ∙ ap (λ k. take k (split.0.0 ++ split.0.1)) (sym is.1) ∙ take_front split.0.0 split.0.1 in
    let rest : drop (group_size s n) bytes ≡ split.0.1 = ap (drop (group_size s n)) is.0 ∙ ap (λ k. drop k (split.0.0 ++ split.0.1)) (sym is.1) ∙ drop_front split.0.0 split.0.1 in
    ap (λ b. ends_of 0 (spread s n b) (drop (group_size s n) bytes)) front
    ∙ ap (λ b. ends_of 0 (spread s n split.0.0) b) rest
    ∙ ap (λ f. ends_of 0 f split.0.1) (flags_are s n split.0.0 found.0 found.1) ∙ found.2

-- ---- of a dtype
pub texts_there : (s : Spelling) (t : DataType) (n : ℕ) (bytes : List ℕ) → are_bytes bytes ≡ true → kind_of t ≡ DTypeKind.Utf8 → is_some (decode s t n bytes) ≡ is_some (ends_under s (nullability_of t) n bytes)
texts_there s t n bytes e k = rw (e, k) (under_there s (nullability_of t) n bytes)

pub gives_ok : {X Y : Type 0} (r : Result X DecodeFault) (f : X → Y) (o : Option Y) → Gives f r o → IfOk r (λ x. o ≡ Some (f x))
gives_ok (Ok x) f o h = h
gives_ok (Err e) f o h = tt

pub gives_values : {X : Type 0} (r : Result X DecodeFault) (f : X → List ℕ) (o : Option (List ℕ)) (d : Option (List Val)) → is_some d ≡ is_some o → Gives f r o → Gives (λ x. or_none d) r d
gives_values (Ok x) f o d e h = some_of d (e ∙ ap is_some h)
gives_values (Err fault.Spelling) f o d e h = none_of d (e ∙ ap is_some h)
gives_values (Err fault.NoMemory) f o d e h = tt

pub text_read : (s : Spelling) (t : DataType) (n : ℕ) (bytes : List ℕ) → decode s t n bytes ≡ Some (spelled s t n bytes) → kind_of t ≡ DTypeKind.Utf8 → decode_under s (nullability_of t) DTypeKind.Utf8 n bytes ≡ Some (spelled s t n bytes)
text_read s t n bytes h k = ap (λ d. decode_under s (nullability_of t) d n bytes) (sym k) ∙ (decode_parts s t n bytes (spelled s t n bytes) h).1

-- ---- whether a row is there
here_at : (flags : List ℕ) (vs : List Val) (i : ℕ) → map is_set flags ≡ map is_here vs → i < length flags → Some (is_set (get_or flags i 0)) ≡ option_map is_here (slice_get vs i)
here_at [] vs i e low = absurd (omega arith)
here_at (flag ∷ flags) [] i e low = absurd cc
here_at (flag ∷ flags) (v ∷ vs) zero e low = let same : is_set flag ≡ is_here v = cc in ap Some same
here_at (flag ∷ flags) (v ∷ vs) (suc i) e low = let same : map is_set flags ≡ map is_here vs = cc in here_at flags vs i same (omega arith)

flags_here : (s : Spelling) (m : Nullability) (kind : DTypeKind) (n : ℕ) (bytes : List ℕ) (vs : List Val) → decode_under s m kind n bytes ≡ Some vs →
    (flag_bytes s m n ≤ length bytes) × (map is_set (row_flags s m n (take (flag_bytes s m n) bytes)) ≡ map is_here vs)
flags_here s NonNullable kind n bytes vs h = (omega arith, slots_here s kind n (replicate n 1) bytes vs h)
flags_here s Nullable kind n bytes vs h = ((under_parts s kind n bytes vs h).0, here_flagged s kind n bytes vs h)

module _ (s : Spelling) (m : Nullability) (kind : DTypeKind) (n : ℕ) (bytes : List ℕ) (vs : List Val) (h : decode_under s m kind n bytes ≡ Some vs) where
  pub flags_within : flag_bytes s m n ≤ length bytes
  flags_within = (flags_here s m kind n bytes vs h).0

  pub flag_here : (flags : List ℕ) (i : ℕ) → flags ≡ take (flag_bytes s m n) bytes → length flags ≡ flag_bytes s m n → i < n → Some (is_set (get_or (row_flags s m n flags) i 0)) ≡ option_map is_here (slice_get vs i)
  flag_here flags i e long low =
      let same : map is_set (row_flags s m n flags) ≡ map is_here vs = ap (λ f. map is_set (row_flags s m n f)) e ∙ (flags_here s m kind n bytes vs h).1 in
      let inside : i < length (row_flags s m n flags) = rw (flags_length s m n flags long) low in
      here_at (row_flags s m n flags) vs i same inside
