-- The rows of a layout under another dtype.
use Rattle.std.proofs.Common.{◌≡◌, ◌⊎◌, inl, inr, ℕ, zero, suc, ◌+◌, ◌-◌, ◌<◌, ◌≤◌, List, [], ◌∷◌, ◌++◌, length, map, arith, refl, sym, subst, ap, ◌∙◌, Bool, true, false, cond, ◌&&◌, Option, Some, None, bytes_eq}
use Rattle.std.specs.Prelude.{nat_le, ℤ, pos, negsuc, option_map, if◌then◌else◌}
use Rattle.std.proofs.lemmas.Bool.{leb-true}
use Rattle.scan_values.specs.declared.ptype.PType.{PType}
use Rattle.scan_values.specs.declared.ptype.PType.TheVariants.{U8, U16, U32, U64, I8, I16, I32, I64}
use Rattle.scan_values.specs.declared.ptype.Nullability.{Nullability}
use Rattle.scan_values.specs.declared.ptype.Nullability.TheVariants.{NonNullable, Nullable}
use Rattle.scan_values.specs.DataType.{DataType, Name, Fields, bool_type, int_type, utf8_type, list_type, struct_type, no_fields, field, field_list, nullability_of, is_nullable}
use Rattle.scan_values.specs.FieldLists.{dtype_named, dtypes_of as field_types}
use Rattle.scan_values.specs.Kinds.{is_scalar_type}
use Rattle.scan_values.specs.Marked.{Marked, lost, null, gone, boolean, integer, text, list, struct, Markeds, none, more}
use Rattle.scan_segments.specs.Source.{Store}
use Rattle.scan_layout.specs.declared.node.LayoutKind.TheVariants.{Leaf, Struct, List as List'}
use Rattle.scan_layout.specs.Layout.{Layout, Nodes, node, no_nodes, child, dtype_of, rows_of, kids_of}
use Rattle.scan_layout.specs.Check.{serves, with_validity}
use Rattle.scan_layout.specs.Form.{HasForm, HaveForms, AllHaveRows}
use Rattle.scan_layout.specs.RowValue.{row_value, row_values, nth_value, nth_rows, under as under_flag, where_valid, struct_value, elements_between, offset_of, values_from}
use Rattle.scan_widen.specs.declared.behind.Behind.{Behind}
use Rattle.scan_widen.specs.declared.behind.Behind.TheVariants.{Kept, Widened, Blank, Valid}
use Rattle.scan_widen.specs.FitsUnder.{fits_under, fields_fit, null_fits, are_lawful, holds_all, passes_or}
use Rattle.scan_widen.specs.Wide.{wide, wide_fields, scalar_as, each_marked, field_at, or_null}
use Rattle.scan_widen.specs.Blanks.{flags, only_rows, one_leaf, blank_behind, blanks_behind, blank_under, blank_flags}
use Rattle.scan_widen.specs.Under.{kid_at, after_validity, kid_named, field_kid, leaf_behind, leaf_under, validity_behind, validity_under, behind, fields_behind, under, fields_under, read_or}
use Rattle.scan_widen.specs.Rows.{StandAt, Shows}
use Rattle.scan_widen.proofs.RowsUnder.{leaves_widen}
use Rattle.scan_widen.proofs.Fills.{valid_row, false_row, null_row}

pub both : (a b : Bool) → (a && b) ≡ true → (a ≡ true) × (b ≡ true)
both true b e = (refl, e)
both false b e = absurd cc

-- ---- what stands one after another
stand_first : (all : List Behind) (k : ℕ) (xs ys : List Behind) → StandAt all k (xs ++ ys) → StandAt all k xs
stand_first all k [] ys h = tt
stand_first all k (x ∷ xs) ys h = (h.0, stand_first all (k + 1) xs ys h.1)

stand_later : (all : List Behind) (k : ℕ) (xs ys : List Behind) → StandAt all k (xs ++ ys) → StandAt all (k + length xs) ys
stand_later all k [] ys h = subst (λ n. StandAt all n ys) (omega arith) h
stand_later all k (x ∷ xs) ys h = subst (λ n. StandAt all n ys) (omega arith) (stand_later all (k + 1) xs ys h.1)

-- ---- leaves
pub self_holds : (p : PType) → holds_all p p ≡ true
self_holds U8 = refl
self_holds U16 = refl
self_holds U32 = refl
self_holds U64 = refl
self_holds I8 = refl
self_holds I16 = refl
self_holds I32 = refl
self_holds I64 = refl

leaf_goes : (to : DataType) (k : ℕ) (l : Layout) (t : DataType) (all : List Behind) (s u : Store) (i : ℕ) → HasForm l t → is_scalar_type t ≡ true → fits_under (dtype_of l) to ≡ true
    → Shows u all s → StandAt all k (leaf_behind to l) → row_value (leaf_under k to l) u i ≡ scalar_as to (row_value l s i)
leaf_goes to k (node t' rows (Leaf segments sp) kids) t all s u i form scalar f h stand =
    leaves_widen t' to sp k segments all s u i (subst (λ w. is_scalar_type w ≡ true) (sym form.0) scalar) f h stand
leaf_goes to k (node t' rows Struct kids) t all s u i form scalar f h stand = absurd (no_struct t' (subst (λ w. is_scalar_type w ≡ true) (sym form.0) scalar) form.1)
  where
    no_struct : (w : DataType) → is_scalar_type w ≡ true → serves Struct w ≡ true → ⊥
    no_struct (bool_type n) a b = absurd cc
    no_struct (int_type q n) a b = absurd cc
    no_struct (utf8_type n) a b = absurd cc
    no_struct (list_type e n) a b = absurd cc
    no_struct (struct_type fs n) a b = absurd cc
leaf_goes to k (node t' rows (List' p) kids) t all s u i form scalar f h stand = absurd (no_list t' (subst (λ w. is_scalar_type w ≡ true) (sym form.0) scalar) form.1)
  where
    no_list : (w : DataType) → is_scalar_type w ≡ true → serves (List' p) w ≡ true → ⊥
    no_list (bool_type n) a b = absurd cc
    no_list (int_type q n) a b = absurd cc
    no_list (utf8_type n) a b = absurd cc
    no_list (list_type e n) a b = absurd cc
    no_list (struct_type fs n) a b = absurd cc

pub scalar_from : (from to : DataType) → is_scalar_type to ≡ true → fits_under from to ≡ true → is_scalar_type from ≡ true
scalar_from (bool_type n) to s f = refl
scalar_from (int_type p n) to s f = refl
scalar_from (utf8_type n) to s f = refl
scalar_from (list_type d n) (list_type e m) s f = absurd cc
scalar_from (struct_type fs n) (struct_type gs m) s f = absurd cc
scalar_from from to s f = absurd cc

offset_same : (p : PType) (v : Marked) → offset_of (scalar_as (int_type p NonNullable) v) ≡ offset_of v
offset_same p lost = refl
offset_same p null = refl
offset_same p gone = refl
offset_same p (boolean b) = refl
offset_same p (integer z) = refl
offset_same p (text z) = refl
offset_same p (list vs) = refl
offset_same p (struct vs) = refl

offset_goes : (p : PType) (k : ℕ) (o : Layout) (all : List Behind) (s u : Store) (i : ℕ) → HasForm o (int_type p NonNullable) → Shows u all s → StandAt all k (leaf_behind (dtype_of o) o)
    → offset_of (row_value (leaf_under k (dtype_of o) o) u i) ≡ offset_of (row_value o s i)
offset_goes p k (node t rows kind kids) all s u i form h stand =
    let is : t ≡ int_type p NonNullable = form.0 in
    let fits : fits_under t t ≡ true = subst (λ w. fits_under w w ≡ true) (sym is) (self_holds p) in
    ap offset_of (leaf_goes t k (node t rows kind kids) (int_type p NonNullable) all s u i form refl fits h stand)
    ∙ subst (λ w. offset_of (scalar_as w (row_value (node t rows kind kids) s i)) ≡ offset_of (row_value (node t rows kind kids) s i)) (sym is) (offset_same p (row_value (node t rows kind kids) s i))

-- ---- validity
flag_goes : (W : Marked → Marked) (a b x y : Marked) → W null ≡ null → W lost ≡ lost → a ≡ scalar_as flags b → x ≡ W y → under_flag a x ≡ W (under_flag b y)
flag_goes W a (boolean true) x y n l e h = rw e h
flag_goes W a (boolean false) x y n l e h = rw e (sym n)
flag_goes W a lost x y n l e h = rw e (sym l)
flag_goes W a null x y n l e h = rw e (sym l)
flag_goes W a gone x y n l e h = rw e (sym l)
flag_goes W a (integer z) x y n l e h = rw e (sym l)
flag_goes W a (text z) x y n l e h = rw e (sym l)
flag_goes W a (list vs) x y n l e h = rw e (sym l)
flag_goes W a (struct vs) x y n l e h = rw e (sym l)

-- ---- lists
values_go : (W : Marked → Marked) (f g : ℕ → Marked) (i n most : ℕ) → i + n ≤ most → ((j : ℕ) → j < most → f j ≡ W (g j)) → values_from f i n ≡ each_marked W (values_from g i n)
values_go W f g i zero most h e = refl
values_go W f g i (suc n) most h e = let now = e i (omega (arith, h)) in let later = values_go W f g (i + 1) n most (omega (arith, h)) e in rw (now, later) refl

between_goes : (d e : DataType) (n m : Nullability) (most : ℕ) (o p : Option ℤ) (f g : ℕ → Marked) → ((j : ℕ) → j < most → f j ≡ wide d e (g j))
    → elements_between most o p f ≡ wide (list_type d n) (list_type e m) (elements_between most o p g)
between_goes d e n m most (Some (pos a)) (Some (pos b)) f g h = go (nat_le a b && nat_le b most) refl
  where
    go : (t : Bool) → (nat_le a b && nat_le b most) ≡ t → elements_between most (Some (pos a)) (Some (pos b)) f ≡ wide (list_type d n) (list_type e m) (elements_between most (Some (pos a)) (Some (pos b)) g)
    go true q =
        let parts = both (nat_le a b) (nat_le b most) q in
        let low : a ≤ b = leb-true a b parts.0 in
        let high : b ≤ most = leb-true b most parts.1 in
        rw q (ap list (values_go (λ v. wide d e v) f g a (b - a) most (omega (arith, low, high)) h))
    go false q = rw q refl
between_goes d e n m most (Some (pos a)) (Some (negsuc b)) f g h = refl
between_goes d e n m most (Some (negsuc a)) p f g h = refl
between_goes d e n m most (Some (pos a)) None f g h = refl
between_goes d e n m most None p f g h = refl

pub rows_under : (to : DataType) (k : ℕ) (l : Layout) → rows_of (under k to l) ≡ rows_of l
rows_under (bool_type m) k l = refl
rows_under (int_type p m) k l = refl
rows_under (utf8_type m) k l = refl
rows_under (list_type e m) k l = refl
rows_under (struct_type gs m) k l = refl

-- ---- fields
-- the field of a name is there, or is not, in the dtype, among the children and among their values
pub data Finds (nm : Name) (fs : Fields) (kids : Nodes) (s : Store) (i rows : ℕ) : Type 0 where
  absent : kid_named nm fs kids ≡ None → field_at nm fs (row_values kids s i) ≡ None → dtype_named nm fs ≡ None → Finds nm fs kids s i rows
  there : (kid : Layout) → kid_named nm fs kids ≡ Some kid → field_at nm fs (row_values kids s i) ≡ Some (dtype_of kid, row_value kid s i)
      → dtype_named nm fs ≡ Some (dtype_of kid) → HasForm kid (dtype_of kid) → rows_of kid ≡ rows → Finds nm fs kids s i rows

pub own_form : (l : Layout) (t : DataType) → HasForm l t → (dtype_of l ≡ t) × HasForm l (dtype_of l)
own_form (node t' rows kind kids) t form = (form.0, (refl, form.1, form.2, form.3))

pub find_kid : (nm : Name) (fs : Fields) (kids : Nodes) (s : Store) (i rows : ℕ) → HaveForms kids (field_types (field_list fs)) → AllHaveRows rows kids → Finds nm fs kids s i rows
find_kid nm no_fields no_nodes s i rows forms fit = absent refl refl refl
find_kid nm no_fields (child l ls) s i rows forms fit = absurd forms
find_kid nm (field m d fs) no_nodes s i rows forms fit = absurd forms
find_kid nm (field m d fs) (child l ls) s i rows forms fit = go (bytes_eq nm m) refl (find_kid nm fs ls s i rows forms.1 fit.1)
  where
    later : bytes_eq nm m ≡ false → Finds nm fs ls s i rows → Finds nm (field m d fs) (child l ls) s i rows
    later q (absent a b c) = absent (rw q a) (rw q b) (rw q c)
    later q (there kid a b c x y) = there kid (rw q a) (rw q b) (rw q c) x y

    go : (t : Bool) → bytes_eq nm m ≡ t → Finds nm fs ls s i rows → Finds nm (field m d fs) (child l ls) s i rows
    go true q rest =
        let own = own_form l d forms.0 in
        there l (rw q refl) (rw q (ap (λ w. Some (w, row_value l s i)) (sym own.0))) (rw q (ap (λ w. Some w) (sym own.0))) own.1 fit.0
    go false q rest = later q rest

-- rows that the file does not have are null
pub blank_row : (t : DataType) (k : ℕ) (all : List Behind) (s u : Store) (rows i : ℕ) → is_nullable t ≡ true → Shows u all s → i < rows → StandAt all k (blank_behind t rows) → row_value (blank_under k t rows) u i ≡ null
blank_row (bool_type n) k all s u rows i e h within stand = null_row (bool_type n) all s u k rows i refl e h within stand
blank_row (int_type p n) k all s u rows i e h within stand = null_row (int_type p n) all s u k rows i refl e h within stand
blank_row (utf8_type n) k all s u rows i e h within stand = null_row (utf8_type n) all s u k rows i refl e h within stand
blank_row (list_type d NonNullable) k all s u rows i e h within stand = absurd cc
blank_row (struct_type fs NonNullable) k all s u rows i e h within stand = absurd cc
blank_row (list_type d Nullable) k all s u rows i e h within stand =
    let offsets = stand_later all k (blank_behind d 0) (Blank (int_type U32 NonNullable) (rows + 1) ∷ blank_flags Nullable rows) stand in
    rw (false_row all s u (k + length (blank_behind d 0) + 1) rows i h within offsets.1) refl
blank_row (struct_type fs Nullable) k all s u rows i e h within stand =
    rw (false_row all s u k rows i h within (stand_first all k (blank_flags Nullable rows) (blanks_behind fs rows) stand)) refl

-- ---- a list and a struct, where its parts are widened
flags_fit : (v : Layout) → HasForm v flags → fits_under (dtype_of v) flags ≡ true
flags_fit v form = subst (λ w. fits_under w flags ≡ true) (sym (own_form v flags form).0) refl

list_goes : (d e : DataType) (n m : Nullability) (k : ℕ) (a o : Layout) (rest : Nodes) (all : List Behind) (s u : Store) (i rows : ℕ) (p : PType)
    → HasForm (node (list_type d n) rows (List' p) (child a (child o rest))) (list_type d n) → null_fits n m ≡ true → Shows u all s
    → ((j : ℕ) → j < rows_of a → row_value (under k e a) u j ≡ wide d e (row_value a s j))
    → StandAt all (k + length (behind e a)) (leaf_behind (dtype_of o) o ++ validity_behind m (node (list_type d n) rows (List' p) (child a (child o rest))) (kid_at (child a (child o rest)) 2)) → i < rows
    → row_value (under k (list_type e m) (node (list_type d n) rows (List' p) (child a (child o rest)))) u i
    ≡ wide (list_type d n) (list_type e m) (row_value (node (list_type d n) rows (List' p) (child a (child o rest))) s i)
list_goes d e n m k a o rest all s u i rows p form null_ok h elements stand within = go n m rest form null_ok later
  where
    from : ℕ
    from = k + length (behind e a)

    o' : Layout
    o' = leaf_under from (dtype_of o) o

    stand_o : StandAt all from (leaf_behind (dtype_of o) o)
    stand_o = stand_first all from (leaf_behind (dtype_of o) o) _ stand

    later : StandAt all (from + length (leaf_behind (dtype_of o) o)) (validity_behind m (node (list_type d n) rows (List' p) (child a (child o rest))) (kid_at (child a (child o rest)) 2))
    later = stand_later all from (leaf_behind (dtype_of o) o) _ stand

    offset : (j : ℕ) → offset_of (row_value o' u j) ≡ offset_of (row_value o s j)
    offset j = offset_goes p from o all s u j form.3.1.0 h stand_o

    now : Marked
    now = elements_between (rows_of (under k e a)) (offset_of (row_value o' u i)) (offset_of (row_value o' u (i + 1))) (λ j. row_value (under k e a) u j)

    was : Marked
    was = elements_between (rows_of a) (offset_of (row_value o s i)) (offset_of (row_value o s (i + 1))) (λ j. row_value a s j)

    content : (n' m' : Nullability) → now ≡ wide (list_type d n') (list_type e m') was
    content n' m' = (λ x. elements_between (rows_under e k a x) (offset i x) (offset (i + 1) x) (λ j. row_value (under k e a) u j))
        ∙ between_goes d e n' m' (rows_of a) (offset_of (row_value o s i)) (offset_of (row_value o s (i + 1))) (λ j. row_value (under k e a) u j) (λ j. row_value a s j) elements

    go : (n' m' : Nullability) (rest' : Nodes) → HasForm (node (list_type d n') rows (List' p) (child a (child o rest'))) (list_type d n') → null_fits n' m' ≡ true
        → StandAt all (from + length (leaf_behind (dtype_of o) o)) (validity_behind m' (node (list_type d n') rows (List' p) (child a (child o rest'))) (kid_at (child a (child o rest')) 2))
        → row_value (under k (list_type e m') (node (list_type d n') rows (List' p) (child a (child o rest')))) u i
        ≡ wide (list_type d n') (list_type e m') (row_value (node (list_type d n') rows (List' p) (child a (child o rest'))) s i)
    go NonNullable NonNullable rest' form' null_ok' st = content NonNullable NonNullable
    go Nullable NonNullable rest' form' null_ok' st = absurd cc
    go NonNullable Nullable rest' form' null_ok' st =
        ap (λ v. under_flag v now) (valid_row all s u (from + length (leaf_behind (dtype_of o) o)) rows i h within st) ∙ content NonNullable Nullable
    go Nullable Nullable no_nodes form' null_ok' st = absurd form'.3.1.1
    go Nullable Nullable (child v vs) form' null_ok' st =
        flag_goes (λ x. wide (list_type d Nullable) (list_type e Nullable) x) _ (row_value v s i) now was refl refl
        (leaf_goes flags (from + length (leaf_behind (dtype_of o) o)) v flags all s u i form'.3.1.1.0 refl (flags_fit v form'.3.1.1.0) h st) (content Nullable Nullable)

pub inner_forms : (n : Nullability) (kids : Nodes) (ts : List DataType) → HaveForms kids (with_validity n ts) → HaveForms (after_validity n kids) ts
inner_forms NonNullable kids ts h = h
inner_forms Nullable no_nodes ts h = absurd h
inner_forms Nullable (child v kids) ts h = h.1

pub inner_rows : (n : Nullability) (kids : Nodes) (rows : ℕ) → AllHaveRows rows kids → AllHaveRows rows (after_validity n kids)
inner_rows NonNullable kids rows h = h
inner_rows Nullable no_nodes rows h = tt
inner_rows Nullable (child v kids) rows h = h.1

struct_goes : (fs gs : Fields) (n m : Nullability) (k : ℕ) (kids : Nodes) (all : List Behind) (s u : Store) (i rows : ℕ)
    → HasForm (node (struct_type fs n) rows Struct kids) (struct_type fs n) → null_fits n m ≡ true → Shows u all s
    → StandAt all k (validity_behind m (node (struct_type fs n) rows Struct kids) (kid_at kids 0))
    → row_values (fields_under (k + length (validity_behind m (node (struct_type fs n) rows Struct kids) (kid_at kids 0))) gs (node (struct_type fs n) rows Struct kids)) u i
    ≡ wide_fields fs gs (row_values (after_validity n kids) s i) → i < rows
    → row_value (under k (struct_type gs m) (node (struct_type fs n) rows Struct kids)) u i ≡ wide (struct_type fs n) (struct_type gs m) (row_value (node (struct_type fs n) rows Struct kids) s i)
struct_goes fs gs NonNullable NonNullable k kids all s u i rows form null_ok h stand fields within = ap struct fields
struct_goes fs gs Nullable NonNullable k kids all s u i rows form null_ok h stand fields within = absurd cc
struct_goes fs gs NonNullable Nullable k kids all s u i rows form null_ok h stand fields within =
    let now : Markeds = row_values (fields_under (k + length (validity_behind Nullable (node (struct_type fs NonNullable) rows Struct kids) (kid_at kids 0))) gs (node (struct_type fs NonNullable) rows Struct kids)) u i in
    ap (λ v. under_flag v (struct now)) (valid_row all s u k rows i h within stand) ∙ ap struct fields
struct_goes fs gs Nullable Nullable k no_nodes all s u i rows form null_ok h stand fields within = absurd form.3
struct_goes fs gs Nullable Nullable k (child v vs) all s u i rows form null_ok h stand fields within =
    let now : Markeds = row_values (fields_under (k + length (validity_behind Nullable (node (struct_type fs Nullable) rows Struct (child v vs)) v)) gs (node (struct_type fs Nullable) rows Struct (child v vs))) u i in
    flag_goes (λ x. wide (struct_type fs Nullable) (struct_type gs Nullable) x) _ (row_value v s i) (struct now) (struct (row_values vs s i)) refl refl
    (leaf_goes flags k v flags all s u i form.3.0 refl (flags_fit v form.3.0) h stand) (ap struct fields)

-- a field that is wanted, where each that is found is widened
one_field : (t : DataType) (nm : Name) (fs : Fields) (kids : Nodes) (k rows : ℕ) (all : List Behind) (s u : Store) (i : ℕ) → Finds nm fs kids s i rows
    → passes_or (is_nullable t) (λ d. fits_under d t) (dtype_named nm fs) ≡ true → Shows u all s → i < rows
    → StandAt all k (read_or (blank_behind t rows) (λ kid. behind t kid) (kid_named nm fs kids))
    → ((kid : Layout) → HasForm kid (dtype_of kid) → fits_under (dtype_of kid) t ≡ true → StandAt all k (behind t kid) → i < rows_of kid → row_value (under k t kid) u i ≡ wide (dtype_of kid) t (row_value kid s i))
    → row_value (read_or (blank_under k t rows) (λ kid. under k t kid) (kid_named nm fs kids)) u i ≡ or_null (option_map (λ f. wide f.0 t f.1) (field_at nm fs (row_values kids s i)))
one_field t nm fs kids k rows all s u i (absent a b c) pass h within stand ih =
    let nullable : is_nullable t ≡ true = subst (λ o. passes_or (is_nullable t) (λ d. fits_under d t) o ≡ true) c pass in
    let stand_blank : StandAt all k (blank_behind t rows) = subst (λ o. StandAt all k (read_or (blank_behind t rows) (λ kid. behind t kid) o)) a stand in
    ap (λ o. row_value (read_or (blank_under k t rows) (λ kid. under k t kid) o) u i) a
    ∙ blank_row t k all s u rows i nullable h within stand_blank
    ∙ sym (ap (λ o. or_null (option_map (λ f. wide f.0 t f.1) o)) b)
one_field t nm fs kids k rows all s u i (there kid a b c form same) pass h within stand ih =
    let fits : fits_under (dtype_of kid) t ≡ true = subst (λ o. passes_or (is_nullable t) (λ d. fits_under d t) o ≡ true) c pass in
    let stand_kid : StandAt all k (behind t kid) = subst (λ o. StandAt all k (read_or (blank_behind t rows) (λ l. behind t l) o)) a stand in
    ap (λ o. row_value (read_or (blank_under k t rows) (λ l. under k t l) o) u i) a
    ∙ ih kid form fits stand_kid (subst (λ n. i < n) (sym same) within)
    ∙ sym (ap (λ o. or_null (option_map (λ f. wide f.0 t f.1) o)) b)

-- ---- all
mutual
  pub rows_widen : (to : DataType) (k : ℕ) (l : Layout) (all : List Behind) (s u : Store) (i : ℕ) → HasForm l (dtype_of l) → fits_under (dtype_of l) to ≡ true → Shows u all s → StandAt all k (behind to l) → i < rows_of l
      → row_value (under k to l) u i ≡ wide (dtype_of l) to (row_value l s i)
  rows_widen (bool_type m) k l all s u i form f h stand within =
      leaf_goes (bool_type m) k l (dtype_of l) all s u i form (scalar_from (dtype_of l) (bool_type m) refl f) f h stand ∙ sym (wide_bool (dtype_of l) (row_value l s i))
    where
      wide_bool : (from : DataType) (v : Marked) → wide from (bool_type m) v ≡ scalar_as (bool_type m) v
      wide_bool (bool_type n) v = refl
      wide_bool (int_type p n) v = refl
      wide_bool (utf8_type n) v = refl
      wide_bool (list_type d n) v = refl
      wide_bool (struct_type fs n) v = refl
  rows_widen (int_type q m) k l all s u i form f h stand within =
      leaf_goes (int_type q m) k l (dtype_of l) all s u i form (scalar_from (dtype_of l) (int_type q m) refl f) f h stand ∙ sym (wide_int (dtype_of l) (row_value l s i))
    where
      wide_int : (from : DataType) (v : Marked) → wide from (int_type q m) v ≡ scalar_as (int_type q m) v
      wide_int (bool_type n) v = refl
      wide_int (int_type p n) v = refl
      wide_int (utf8_type n) v = refl
      wide_int (list_type d n) v = refl
      wide_int (struct_type fs n) v = refl
  rows_widen (utf8_type m) k l all s u i form f h stand within =
      leaf_goes (utf8_type m) k l (dtype_of l) all s u i form (scalar_from (dtype_of l) (utf8_type m) refl f) f h stand ∙ sym (wide_text (dtype_of l) (row_value l s i))
    where
      wide_text : (from : DataType) (v : Marked) → wide from (utf8_type m) v ≡ scalar_as (utf8_type m) v
      wide_text (bool_type n) v = refl
      wide_text (int_type p n) v = refl
      wide_text (utf8_type n) v = refl
      wide_text (list_type d n) v = refl
      wide_text (struct_type fs n) v = refl
  rows_widen (list_type e m) k (node (list_type d n) rows (List' p) no_nodes) all s u i form f h stand within = absurd form.3
  rows_widen (list_type e m) k (node (list_type d n) rows (List' p) (child a no_nodes)) all s u i form f h stand within = absurd form.3.1
  rows_widen (list_type e m) k (node (list_type d n) rows (List' p) (child a (child o rest))) all s u i form f h stand within =
      let own = own_form a d form.3.0 in
      let parts = both (null_fits n m) (fits_under d e) f in
      let fits : fits_under (dtype_of a) e ≡ true = subst (λ w. fits_under w e ≡ true) (sym own.0) parts.1 in
      let l : Layout = node (list_type d n) rows (List' p) (child a (child o rest)) in
      let stand_a : StandAt all k (behind e a) = stand_first all k (behind e a) _ stand in
      let elements : (j : ℕ) → j < rows_of a → row_value (under k e a) u j ≡ wide d e (row_value a s j) =
      λ j inside. subst (λ w. row_value (under k e a) u j ≡ wide w e (row_value a s j)) own.0 (rows_widen e k a all s u j own.1 fits h stand_a inside) in
      let stand_o = stand_later all k (behind e a) _ stand in
      list_goes d e n m k a o rest all s u i rows p form parts.0 h elements stand_o within
  rows_widen (struct_type gs m) k (node (struct_type fs n) rows Struct kids) all s u i form f h stand within =
      let l : Layout = node (struct_type fs n) rows Struct kids in
      let parts = both (null_fits n m) (are_lawful fs && fields_fit fs gs) f in
      let lawful = both (are_lawful fs) (fields_fit fs gs) parts.1 in
      let v = validity_behind m l (kid_at kids 0) in
      let fields = fields_widen gs (k + length v) fs n rows kids all s u i (inner_forms n kids (field_types (field_list fs)) form.3) (inner_rows n kids rows form.2) lawful.1 h
      (stand_later all k v (fields_behind gs l) stand) within in
      struct_goes fs gs n m k kids all s u i rows form parts.0 h (stand_first all k v (fields_behind gs l) stand) fields within
  rows_widen to k l all s u i form f h stand within = absurd cc

  fields_widen : (gs : Fields) (k : ℕ) (fs : Fields) (n : Nullability) (rows : ℕ) (kids : Nodes) (all : List Behind) (s u : Store) (i : ℕ)
      → HaveForms (after_validity n kids) (field_types (field_list fs)) → AllHaveRows rows (after_validity n kids) → fields_fit fs gs ≡ true → Shows u all s
      → StandAt all k (fields_behind gs (node (struct_type fs n) rows Struct kids)) → i < rows
      → row_values (fields_under k gs (node (struct_type fs n) rows Struct kids)) u i ≡ wide_fields fs gs (row_values (after_validity n kids) s i)
  fields_widen no_fields k fs n rows kids all s u i forms fit pass h stand within = refl
  fields_widen (field nm t gs) k fs n rows kids all s u i forms fit pass h stand within =
      let l : Layout = node (struct_type fs n) rows Struct kids in
      let inner : Nodes = after_validity n kids in
      let parts = both (passes_or (is_nullable t) (λ d. fits_under d t) (dtype_named nm fs)) (fields_fit fs gs) pass in
      let first : List Behind = read_or (blank_behind t rows) (λ kid. behind t kid) (kid_named nm fs inner) in
      let now = one_field t nm fs inner k rows all s u i (find_kid nm fs inner s i rows forms fit) parts.0 h within (stand_first all k first (fields_behind gs l) stand)
      (λ kid form f st inside. rows_widen t k kid all s u i form f h st inside) in
      let rest = fields_widen gs (k + length first) fs n rows kids all s u i forms fit parts.1 h (stand_later all k first (fields_behind gs l) stand) within in
      λ x. more (now x) (rest x)
