-- How many segments there are.
use Rattle.std.proofs.Common.{◌≡◌, ◌≢◌, ℕ, zero, suc, ◌+◌, ◌<◌, ◌≤◌, List, [], ◌∷◌, ◌++◌, length, length-append, map, drop, get_or, refl, sym, subst, ap, ◌∙◌, Bool, true, false, Option, Some, None, arith, add-one}
use Rattle.std.specs.Prelude.{slice_get, min}
use Rattle.scan_values.specs.declared.ptype.PType.{PType}
use Rattle.scan_values.specs.declared.ptype.PType.TheVariants.{U32}
use Rattle.scan_values.specs.declared.ptype.Nullability.{Nullability}
use Rattle.scan_values.specs.declared.ptype.Nullability.TheVariants.{NonNullable, Nullable}
use Rattle.scan_values.specs.declared.dtype.DTypeKind.{DTypeKind}
use Rattle.scan_values.specs.DataType.{DataType, Name, Fields, bool_type, int_type, utf8_type, list_type, struct_type, no_fields, field, fields_of, nullability_of}
use Rattle.scan_values.specs.FieldLists.{names_of, dtypes_of}
use Rattle.scan_values.specs.Kinds.{kind_of, element_of, struct_fields_of, is_scalar_type}
use Rattle.scan_layout.specs.Layout.{Layout, dtype_of, rows_of, kids_of, kind_of as node_kind}
use Rattle.scan_widen.specs.declared.behind.Behind.{Behind}
use Rattle.scan_widen.specs.declared.behind.Behind.TheVariants.{Blank, Valid}
use Rattle.scan_widen.specs.Blanks.{flags, only_rows, blank_behind, blanks_behind, blank_flags}
use Rattle.scan_widen.specs.Under.{behind, fields_behind, field_behind, validity_behind, leaf_behind, segment_behind, segments_of, spelling_of, kid_at}
use Rattle.scan_widen.specs.Counts.{capped}
use Rattle.scan_widen.proofs.Fitting.{fields_at, fields_past, fields_short}

-- ---- one segment, where there are rows
pub only_none : {T : Type 0} (rows : ℕ) (x : T) → rows ≡ 0 → only_rows rows x ≡ []
only_none zero x e = refl
only_none (suc n) x e = absurd (omega (arith, e))

pub only_some : {T : Type 0} (rows : ℕ) (x : T) → (rows ≡ 0 → ⊥) → only_rows rows x ≡ x ∷ []
only_some zero x e = absurd (e refl)
only_some (suc n) x e = refl

pub none_there : (rows : ℕ) (b : Behind) → rows ≡ 0 → 0 ≡ length (only_rows rows b)
none_there rows b e = sym (ap length (only_none rows b e))

pub one_there : (rows : ℕ) (b : Behind) → (rows ≡ 0 → ⊥) → 1 ≡ length (only_rows rows b)
one_there rows b e = sym (ap length (only_some rows b e))

-- ---- scalars, by their kind
pub bool_scalar : (t : DataType) → kind_of t ≡ DTypeKind.Bool → is_scalar_type t ≡ true
bool_scalar (bool_type n) e = refl
bool_scalar t e = absurd cc

pub int_scalar : (t : DataType) (p : PType) → kind_of t ≡ DTypeKind.Primitive p → is_scalar_type t ≡ true
int_scalar (int_type q n) p e = refl
int_scalar t p e = absurd cc

pub text_scalar : (t : DataType) → kind_of t ≡ DTypeKind.Utf8 → is_scalar_type t ≡ true
text_scalar (utf8_type n) e = refl
text_scalar t e = absurd cc

pub blank_scalar : (t : DataType) (rows : ℕ) → is_scalar_type t ≡ true → blank_behind t rows ≡ only_rows rows (Blank t rows)
blank_scalar (bool_type n) rows e = refl
blank_scalar (int_type p n) rows e = refl
blank_scalar (utf8_type n) rows e = refl
blank_scalar (list_type d n) rows e = absurd cc
blank_scalar (struct_type fs n) rows e = absurd cc

pub behind_scalar : (t : DataType) (l : Layout) → is_scalar_type t ≡ true → behind t l ≡ leaf_behind t l
behind_scalar (bool_type n) l e = refl
behind_scalar (int_type p n) l e = refl
behind_scalar (utf8_type n) l e = refl
behind_scalar (list_type d n) l e = absurd cc
behind_scalar (struct_type fs n) l e = absurd cc

-- ---- lists and structs, by their parts
pub blank_list_behind : (t e : DataType) (rows : ℕ) → element_of t ≡ Some e → blank_behind t rows ≡ blank_behind e 0 ++ (Blank (int_type U32 NonNullable) (rows + 1) ∷ blank_flags (nullability_of t) rows)
blank_list_behind (list_type d n) e rows h = let same : d ≡ e = cc in ap (λ x. blank_behind x 0 ++ (Blank (int_type U32 NonNullable) (rows + 1) ∷ blank_flags n rows)) same
blank_list_behind (bool_type n) e rows h = absurd cc
blank_list_behind (int_type p n) e rows h = absurd cc
blank_list_behind (utf8_type n) e rows h = absurd cc
blank_list_behind (struct_type fs n) e rows h = absurd cc

pub blank_struct_behind : (t : DataType) (fs : Fields) (rows : ℕ) → struct_fields_of t ≡ Some fs → blank_behind t rows ≡ blank_flags (nullability_of t) rows ++ blanks_behind fs rows
blank_struct_behind (struct_type gs n) fs rows h = let same : gs ≡ fs = cc in ap (λ x. blank_flags n rows ++ blanks_behind x rows) same
blank_struct_behind (bool_type n) fs rows h = absurd cc
blank_struct_behind (int_type p n) fs rows h = absurd cc
blank_struct_behind (utf8_type n) fs rows h = absurd cc
blank_struct_behind (list_type d n) fs rows h = absurd cc

pub list_behind : (t e : DataType) (l : Layout) → element_of t ≡ Some e
    → behind t l ≡ behind e (kid_at (kids_of l) 0) ++ (leaf_behind (dtype_of (kid_at (kids_of l) 1)) (kid_at (kids_of l) 1) ++ validity_behind (nullability_of t) l (kid_at (kids_of l) 2))
list_behind (list_type d n) e l h =
    let same : d ≡ e = cc in
    ap (λ x. behind x (kid_at (kids_of l) 0) ++ (leaf_behind (dtype_of (kid_at (kids_of l) 1)) (kid_at (kids_of l) 1) ++ validity_behind n l (kid_at (kids_of l) 2))) same
list_behind (bool_type n) e l h = absurd cc
list_behind (int_type p n) e l h = absurd cc
list_behind (utf8_type n) e l h = absurd cc
list_behind (struct_type fs n) e l h = absurd cc

pub struct_behind : (t : DataType) (gs : Fields) (l : Layout) → struct_fields_of t ≡ Some gs → behind t l ≡ validity_behind (nullability_of t) l (kid_at (kids_of l) 0) ++ fields_behind gs l
struct_behind (struct_type fs n) gs l h = let same : fs ≡ gs = cc in ap (λ x. validity_behind n l (kid_at (kids_of l) 0) ++ fields_behind x l) same
struct_behind (bool_type n) gs l h = absurd cc
struct_behind (int_type p n) gs l h = absurd cc
struct_behind (utf8_type n) gs l h = absurd cc
struct_behind (list_type d n) gs l h = absurd cc

-- ---- counts
pub one_counted : (t : DataType) (rows n : ℕ) → is_scalar_type t ≡ true → ((b : Behind) → n ≡ length (only_rows rows b)) → n ≤ 1 → n ≡ capped (length (blank_behind t rows))
one_counted t rows n s h most = let all : n ≡ length (blank_behind t rows) = h (Blank t rows) ∙ sym (ap length (blank_scalar t rows s)) in omega (arith, all, most)

pub blank_list_counted : (t e : DataType) (rows a x f n : ℕ) → element_of t ≡ Some e → a ≡ capped (length (blank_behind e 0)) → x ≡ capped (a + 1) → f ≡ length (blank_flags (nullability_of t) rows) → n ≡ capped (x + f)
    → n ≡ capped (length (blank_behind t rows))
blank_list_counted t e rows a x f n h ha hx hf hn =
    let all : length (blank_behind t rows) ≡ length (blank_behind e 0) + suc (length (blank_flags (nullability_of t) rows)) =
    ap length (blank_list_behind t e rows h) ∙ length-append (blank_behind e 0) (Blank (int_type U32 NonNullable) (rows + 1) ∷ blank_flags (nullability_of t) rows) in
    omega (arith, all, ha, hx, hf, hn)

pub blank_struct_counted : (t : DataType) (fs : Fields) (rows f n : ℕ) → struct_fields_of t ≡ Some fs → f ≡ length (blank_flags (nullability_of t) rows) → n ≡ capped (f + length (blanks_behind fs rows)) → n ≡ capped (length (blank_behind t rows))
blank_struct_counted t fs rows f n h hf hn =
    let all : length (blank_behind t rows) ≡ length (blank_flags (nullability_of t) rows) + length (blanks_behind fs rows) = ap length (blank_struct_behind t fs rows h) ∙ length-append (blank_flags (nullability_of t) rows) (blanks_behind fs rows) in
    omega (arith, all, hf, hn)

map_length : {A B : Type 0} (f : A → B) (xs : List A) → length (map f xs) ≡ length xs
map_length f [] = refl
map_length f (x ∷ xs) = ap suc (map_length f xs)

pub leaf_length : (to : DataType) (l : Layout) → length (leaf_behind to l) ≡ length (segments_of (node_kind l))
leaf_length to l = map_length (segment_behind (dtype_of l) to (spelling_of (node_kind l))) (segments_of (node_kind l))

pub leaf_counted : (to : DataType) (l : Layout) (n : ℕ) → is_scalar_type to ≡ true → n ≡ capped (length (segments_of (node_kind l))) → n ≡ capped (length (behind to l))
leaf_counted to l n s h = h ∙ sym (ap capped (ap length (behind_scalar to l s) ∙ leaf_length to l))

pub list_counted : (t e : DataType) (l : Layout) (a o v x n : ℕ) → element_of t ≡ Some e → a ≡ capped (length (behind e (kid_at (kids_of l) 0))) → o ≡ capped (length (segments_of (node_kind (kid_at (kids_of l) 1))))
    → v ≡ capped (length (validity_behind (nullability_of t) l (kid_at (kids_of l) 2))) → x ≡ capped (a + o) → n ≡ capped (x + v) → n ≡ capped (length (behind t l))
list_counted t e l a o v x n h ha ho hv hx hn =
    let offsets : Layout = kid_at (kids_of l) 1 in
    let last : List Behind = validity_behind (nullability_of t) l (kid_at (kids_of l) 2) in
    let mid = leaf_length (dtype_of offsets) offsets in
    let inner = length-append (leaf_behind (dtype_of offsets) offsets) last in
    let all = ap length (list_behind t e l h) ∙ length-append (behind e (kid_at (kids_of l) 0)) (leaf_behind (dtype_of offsets) offsets ++ last) in
    omega (arith, all, inner, mid, ha, ho, hv, hx, hn)

pub struct_counted : (t : DataType) (gs : Fields) (l : Layout) (v n : ℕ) → struct_fields_of t ≡ Some gs → v ≡ capped (length (validity_behind (nullability_of t) l (kid_at (kids_of l) 0))) → n ≡ capped (v + length (fields_behind gs l)) → n ≡ capped (length (behind t l))
struct_counted t gs l v n h hv hn =
    let first : List Behind = validity_behind (nullability_of t) l (kid_at (kids_of l) 0) in
    let all = ap length (struct_behind t gs l h) ∙ length-append first (fields_behind gs l) in
    omega (arith, all, hv, hn)

-- the validity of a node
pub valid_counted : (l v : Layout) (n : ℕ) → nullability_of (dtype_of l) ≡ NonNullable → ((b : Behind) → n ≡ length (only_rows (rows_of l) b)) → n ≤ 1 → n ≡ capped (length (validity_behind Nullable l v))
valid_counted l v n e h most =
    let all : length (validity_behind Nullable l v) ≡ n = rw e (sym (h (Valid (rows_of l)))) in
    omega (arith, all, most)

pub own_counted : (l v : Layout) (n : ℕ) → nullability_of (dtype_of l) ≡ Nullable → n ≡ capped (length (segments_of (node_kind v))) → n ≡ capped (length (validity_behind Nullable l v))
own_counted l v n e h =
    let all : length (validity_behind Nullable l v) ≡ length (segments_of (node_kind v)) = rw e (leaf_length flags v) in
    omega (arith, all, h)

-- ---- one field more
pub blanks_at : (xs : List (Name × DataType)) (i : ℕ) (t : DataType) (rows : ℕ) → Some t ≡ slice_get (dtypes_of xs) i → blanks_behind (fields_of (drop i xs)) rows ≡ blank_behind t rows ++ blanks_behind (fields_of (drop (i + 1) xs)) rows
blanks_at [] zero t rows h = absurd cc
blanks_at [] (suc i) t rows h = absurd cc
blanks_at (x ∷ xs) zero t rows h = let same : t ≡ x.1 = cc in rw same refl
blanks_at (x ∷ xs) (suc i) t rows h = rw add-one (rw add-one at (blanks_at xs i t rows h))

pub fields_end : (xs : List (Name × DataType)) (i : ℕ) → length xs ≤ i → fields_of (drop i xs) ≡ no_fields
fields_end [] zero h = refl
fields_end [] (suc i) h = refl
fields_end (x ∷ xs) zero h = absurd (omega arith)
fields_end (x ∷ xs) (suc i) h = fields_end xs i (omega arith)

-- a count with one part more: `whole` is that of all, and `rest` is what is left
pub count_step : (total b part rest later whole next : ℕ) → next ≡ capped (total + b) → b ≡ capped part → rest ≡ part + later → capped (total + rest) ≡ whole → capped (next + later) ≡ whole
count_step total b part rest later whole next hn hb hr h = omega (arith, hn, hb, hr, h)

pub count_end : (total rest whole : ℕ) → total ≤ 4294967297 → rest ≡ 0 → capped (total + rest) ≡ whole → total ≡ whole
count_end total rest whole most none h = omega (arith, most, none, h)

pub blanks_step : (xs : List (Name × DataType)) (i : ℕ) (t : DataType) (rows total b next whole : ℕ) → Some t ≡ slice_get (dtypes_of xs) i → next ≡ capped (total + b) → b ≡ capped (length (blank_behind t rows))
    → capped (total + length (blanks_behind (fields_of (drop i xs)) rows)) ≡ whole → capped (next + length (blanks_behind (fields_of (drop (i + 1) xs)) rows)) ≡ whole
blanks_step xs i t rows total b next whole g hn hb h =
    count_step total b (length (blank_behind t rows)) _ _ whole next hn hb
    (ap length (blanks_at xs i t rows g) ∙ length-append (blank_behind t rows) (blanks_behind (fields_of (drop (i + 1) xs)) rows)) h

pub blanks_short : (xs : List (Name × DataType)) (i rows total whole : ℕ) → None ≡ slice_get (dtypes_of xs) i → total ≤ 4294967297 → capped (total + length (blanks_behind (fields_of (drop i xs)) rows)) ≡ whole → total ≡ whole
blanks_short xs i rows total whole g most h = count_end total _ whole most (ap (λ f. length (blanks_behind f rows)) (fields_short xs i g)) h

pub blanks_end : (xs : List (Name × DataType)) (i rows total whole : ℕ) → length xs ≤ i → total ≤ 4294967297 → capped (total + length (blanks_behind (fields_of (drop i xs)) rows)) ≡ whole → total ≡ whole
blanks_end xs i rows total whole g most h = count_end total _ whole most (ap (λ f. length (blanks_behind f rows)) (fields_end xs i g)) h

pub fields_behind_at : (xs : List (Name × DataType)) (ns : List Name) (i : ℕ) (n : Name) (t : DataType) (l : Layout) → ns ≡ names_of xs → i < length ns → n ≡ get_or ns i n → Some t ≡ slice_get (dtypes_of xs) i
    → fields_behind (fields_of (drop i xs)) l ≡ field_behind n t l ++ fields_behind (fields_of (drop (i + 1) xs)) l
fields_behind_at xs ns i n t l s h e g = ap (λ f. fields_behind f l) (fields_at xs ns i n t s h e g)

pub fields_step : (xs : List (Name × DataType)) (ns : List Name) (i : ℕ) (n : Name) (t : DataType) (l : Layout) (total b next whole : ℕ) → ns ≡ names_of xs → i < length ns → n ≡ get_or ns i n → Some t ≡ slice_get (dtypes_of xs) i
    → next ≡ capped (total + b) → b ≡ capped (length (field_behind n t l))
    → capped (total + length (fields_behind (fields_of (drop i xs)) l)) ≡ whole → capped (next + length (fields_behind (fields_of (drop (i + 1) xs)) l)) ≡ whole
fields_step xs ns i n t l total b next whole s h' e g hn hb h =
    count_step total b (length (field_behind n t l)) _ _ whole next hn hb
    (ap length (fields_behind_at xs ns i n t l s h' e g) ∙ length-append (field_behind n t l) (fields_behind (fields_of (drop (i + 1) xs)) l)) h

pub fields_short_count : (xs : List (Name × DataType)) (i : ℕ) (l : Layout) (total whole : ℕ) → None ≡ slice_get (dtypes_of xs) i → total ≤ 4294967297 → capped (total + length (fields_behind (fields_of (drop i xs)) l)) ≡ whole → total ≡ whole
fields_short_count xs i l total whole g most h = count_end total _ whole most (ap (λ f. length (fields_behind f l)) (fields_short xs i g)) h

pub fields_end_count : (xs : List (Name × DataType)) (ns : List Name) (i : ℕ) (l : Layout) (total whole : ℕ) → ns ≡ names_of xs → length ns ≤ i → total ≤ 4294967297 → capped (total + length (fields_behind (fields_of (drop i xs)) l)) ≡ whole → total ≡ whole
fields_end_count xs ns i l total whole s g most h = count_end total _ whole most (ap (λ f. length (fields_behind f l)) (fields_past xs ns i s g)) h
