-- The parts of a layout of good form, and of a dtype that its own fits.
use Rattle.std.proofs.Common.{◌≡◌, ℕ, zero, suc, ◌+◌, ◌<◌, ◌≤◌, List, [], ◌∷◌, length, get_or, refl, sym, subst, ap, ◌∙◌, Bool, true, false, cond, not, ◌&&◌, Option, Some, None, bytes_eq, arith}
use Rattle.std.specs.Prelude.{slice_get, IfSome, is_some, nat_lt, ◌^◌}
use Rattle.std.proofs.lemmas.Bool.{ltb-true}
use Rattle.std.specs.List.{position, position_or_len}
use Rattle.std.specs.declared.alloc.Global.{Global}
use Rattle.std.specs.declared.rc.Rc.{Rc}
use Rattle.scan_values.specs.declared.ptype.PType.{PType}
use Rattle.scan_values.specs.declared.ptype.Nullability.{Nullability}
use Rattle.scan_values.specs.declared.ptype.Nullability.TheVariants.{NonNullable, Nullable}
use Rattle.scan_values.specs.declared.dtype.DTypeKind.{DTypeKind}
use Rattle.scan_values.specs.DataType.{DataType, Name, Fields, bool_type, int_type, utf8_type, list_type, struct_type, field_list, fields_of, nullability_of, is_nullable}
use Rattle.scan_values.specs.FieldLists.{names_of, dtypes_of as field_types, dtype_named}
use Rattle.scan_values.specs.Kinds.{kind_of, element_of, struct_fields_of, is_scalar_type, ptype_of}
use Rattle.scan_values.proofs.Places.{IsAt, is_at, below, no_place}
use Rattle.scan_layout.specs.declared.node.LayoutKind.{LayoutKind}
use Rattle.scan_layout.specs.declared.node.LayoutKind.TheVariants.{Leaf, Struct, List as List'}
use Rattle.scan_layout.specs.Layout.{Layout, Nodes, node, no_nodes, child, nodes, dtype_of, rows_of, kids_of, count, kind_of as node_kind}
use Rattle.scan_layout.specs.LayoutView.{layouts_of}
use Rattle.scan_layout.specs.Check.{serves, child_types, with_validity, validity_types}
use Rattle.scan_layout.specs.Form.{HasForm, HaveForms, AllHaveRows}
use Rattle.scan_layout.specs.Slots.{one_where}
use Rattle.scan_layout.proofs.Kids.{names_length}
use Rattle.scan_widen.specs.FitsUnder.{null_fits, are_lawful, passes_or, kinds_fit, fits_under, fields_fit}
use Rattle.scan_widen.specs.Blanks.{flags}
use Rattle.scan_widen.specs.Under.{kid_at, after_validity, kid_named, field_kid, fields_in}
use Rattle.scan_widen.specs.Countable.{is_countable, are_countable}
use Rattle.scan_widen.specs.Parts.{HasFlags, HasValidity, IsGoodField}
use Rattle.scan_widen.proofs.Fitting.{no_kind}
use Rattle.scan_widen.proofs.RowsAll.{Finds, absent, there, find_kid, both, own_form, inner_forms, inner_rows}
use Rattle.scan_widen.proofs.FormsAll.{kid_countable, inner_countable}

-- ---- dtypes
pub has_element : (t : DataType) → kind_of t ≡ DTypeKind.List → None ≡ element_of t → ⊥
has_element (list_type d n) e h = absurd cc
has_element t e h = absurd cc

pub has_fields : (t : DataType) → kind_of t ≡ DTypeKind.Struct → None ≡ struct_fields_of t → ⊥
has_fields (struct_type fs n) e h = absurd cc
has_fields t e h = absurd cc

fits_kind : (s t : DataType) → fits_under s t ≡ true → kinds_fit (kind_of s) (kind_of t) ≡ true
fits_kind s t f = by_test (kinds_fit (kind_of s) (kind_of t)) refl
  where
    by_test : (b : Bool) → kinds_fit (kind_of s) (kind_of t) ≡ b → kinds_fit (kind_of s) (kind_of t) ≡ true
    by_test true e = e
    by_test false e = let none : false ≡ true = sym (no_kind s t e) ∙ f in absurd cc

kind_list : (k l : DTypeKind) → kinds_fit k l ≡ true → l ≡ DTypeKind.List → k ≡ DTypeKind.List
kind_list DTypeKind.List l f e = refl
kind_list DTypeKind.Bool l f e = absurd cc
kind_list (DTypeKind.Primitive p) l f e = absurd cc
kind_list DTypeKind.Utf8 l f e = absurd cc
kind_list DTypeKind.Struct l f e = absurd cc

kind_struct : (k l : DTypeKind) → kinds_fit k l ≡ true → l ≡ DTypeKind.Struct → k ≡ DTypeKind.Struct
kind_struct DTypeKind.Struct l f e = refl
kind_struct DTypeKind.Bool l f e = absurd cc
kind_struct (DTypeKind.Primitive p) l f e = absurd cc
kind_struct DTypeKind.Utf8 l f e = absurd cc
kind_struct DTypeKind.List l f e = absurd cc

kind_int : (k l : DTypeKind) (q : PType) → kinds_fit k l ≡ true → l ≡ DTypeKind.Primitive q → (p : PType) × (k ≡ DTypeKind.Primitive p)
kind_int (DTypeKind.Primitive p) l q f e = (p, refl)
kind_int DTypeKind.Bool l q f e = absurd cc
kind_int DTypeKind.Utf8 l q f e = absurd cc
kind_int DTypeKind.List l q f e = absurd cc
kind_int DTypeKind.Struct l q f e = absurd cc

kind_bool : (k l : DTypeKind) → kinds_fit k l ≡ true → l ≡ DTypeKind.Bool → k ≡ DTypeKind.Bool
kind_bool DTypeKind.Bool l f e = refl
kind_bool (DTypeKind.Primitive p) l f e = absurd cc
kind_bool DTypeKind.Utf8 l f e = absurd cc
kind_bool DTypeKind.List l f e = absurd cc
kind_bool DTypeKind.Struct l f e = absurd cc

kind_text : (k l : DTypeKind) → kinds_fit k l ≡ true → l ≡ DTypeKind.Utf8 → k ≡ DTypeKind.Utf8
kind_text DTypeKind.Utf8 l f e = refl
kind_text DTypeKind.Bool l f e = absurd cc
kind_text (DTypeKind.Primitive p) l f e = absurd cc
kind_text DTypeKind.List l f e = absurd cc
kind_text DTypeKind.Struct l f e = absurd cc

pub list_from : (s t : DataType) → fits_under s t ≡ true → kind_of t ≡ DTypeKind.List → kind_of s ≡ DTypeKind.List
list_from s t f k = kind_list (kind_of s) (kind_of t) (fits_kind s t f) k

pub struct_from : (s t : DataType) → fits_under s t ≡ true → kind_of t ≡ DTypeKind.Struct → kind_of s ≡ DTypeKind.Struct
struct_from s t f k = kind_struct (kind_of s) (kind_of t) (fits_kind s t f) k

int_type_of : (s : DataType) (p : PType) → kind_of s ≡ DTypeKind.Primitive p → is_some (ptype_of s) ≡ true
int_type_of (int_type q n) p e = refl
int_type_of s p e = absurd cc

pub ints_from : (s t : DataType) (q : PType) → fits_under s t ≡ true → kind_of t ≡ DTypeKind.Primitive q → is_some (ptype_of s) ≡ true
ints_from s t q f k = let found = kind_int (kind_of s) (kind_of t) q (fits_kind s t f) k in int_type_of s found.0 found.1

pub bools_same : (s t : DataType) → fits_under s t ≡ true → kind_of t ≡ DTypeKind.Bool → kind_of s ≡ kind_of t
bools_same s t f k = kind_bool (kind_of s) (kind_of t) (fits_kind s t f) k ∙ sym k

pub texts_same : (s t : DataType) → fits_under s t ≡ true → kind_of t ≡ DTypeKind.Utf8 → kind_of s ≡ kind_of t
texts_same s t f k = kind_text (kind_of s) (kind_of t) (fits_kind s t f) k ∙ sym k

scalar_list : (s : DataType) → is_scalar_type s ≡ true → kind_of s ≡ DTypeKind.List → ⊥
scalar_list (list_type d n) h e = absurd cc
scalar_list s h e = absurd cc

scalar_struct : (s : DataType) → is_scalar_type s ≡ true → kind_of s ≡ DTypeKind.Struct → ⊥
scalar_struct (struct_type fs n) h e = absurd cc
scalar_struct s h e = absurd cc

pub no_list : (s t : DataType) → is_scalar_type s ≡ true → fits_under s t ≡ true → kind_of t ≡ DTypeKind.List → ⊥
no_list s t h f k = scalar_list s h (list_from s t f k)

pub no_struct : (s t : DataType) → is_scalar_type s ≡ true → fits_under s t ≡ true → kind_of t ≡ DTypeKind.Struct → ⊥
no_struct s t h f k = scalar_struct s h (struct_from s t f k)

pub element_fits : (s t d e : DataType) → fits_under s t ≡ true → element_of s ≡ Some d → element_of t ≡ Some e → fits_under d e ≡ true
element_fits (list_type d' n) (list_type e' m) d e f h k =
    let same : d' ≡ d = cc in
    let same' : e' ≡ e = cc in
    subst (λ x. fits_under d x ≡ true) same' (subst (λ x. fits_under x e' ≡ true) same (both (null_fits n m) (fits_under d' e') f).1)
element_fits s t d e f h k = absurd cc

struct_kind : (t : DataType) (gs : Fields) → struct_fields_of t ≡ Some gs → kind_of t ≡ DTypeKind.Struct
struct_kind (struct_type fs n) gs e = refl
struct_kind t gs e = absurd cc

fields_of_struct : (fs : Fields) (n : Nullability) (t : DataType) (gs : Fields) → fits_under (struct_type fs n) t ≡ true → struct_fields_of t ≡ Some gs → fields_fit fs gs ≡ true
fields_of_struct fs n (struct_type gs' m) gs f e =
    let same : gs' ≡ gs = cc in
    let inner = (both (null_fits n m) (are_lawful fs && fields_fit fs gs') f).1 in
    subst (λ x. fields_fit fs x ≡ true) same (both (are_lawful fs) (fields_fit fs gs') inner).1
fields_of_struct fs n t gs f e = absurd cc

pub fields_fit_in : (s t : DataType) (gs : Fields) → fits_under s t ≡ true → struct_fields_of t ≡ Some gs → fields_fit (fields_in s) gs ≡ true
fields_fit_in s t gs f e = go s (struct_from s t f (struct_kind t gs e)) f
  where
    go : (u : DataType) → kind_of u ≡ DTypeKind.Struct → fits_under u t ≡ true → fields_fit (fields_in u) gs ≡ true
    go (struct_type fs n) k h = fields_of_struct fs n t gs h e
    go u k h = absurd cc

-- ---- children
pub kid_is : (rs : List (Rc Layout Global)) (i : ℕ) (r : Rc Layout Global) → i < length rs → r ≡ get_or rs i r → r.value ≡ kid_at (nodes (layouts_of rs)) i
kid_is [] i r h e = absurd (omega arith)
kid_is (x ∷ rs) zero r h e = ap (λ (y : Rc Layout Global). y.value) e
kid_is (x ∷ rs) (suc i) r h e = let h' : i < length rs = omega arith in kid_is rs i r h' e

forms_count : (kids : Nodes) (ts : List DataType) → HaveForms kids ts → count kids ≡ length ts
forms_count no_nodes [] h = refl
forms_count no_nodes (t ∷ ts) h = absurd h
forms_count (child l ls) [] h = absurd h
forms_count (child l ls) (t ∷ ts) h = omega (arith, forms_count ls ts h.1)

-- a layout of good form of a dtype of lists, with its parts
pub record IsListOf (l : Layout) (d : DataType) (p : PType) : Type 0 where
  pub element : element_of (dtype_of l) ≡ Some d
  pub kind : node_kind l ≡ List' p
  pub two : 1 < count (kids_of l)
  pub elements : HasForm (kid_at (kids_of l) 0) d
  pub offsets : HasForm (kid_at (kids_of l) 1) (int_type p NonNullable)
  pub validity : HasValidity 2 l

list_flags : (n : Nullability) (a o : Layout) (rest : Nodes) → HaveForms rest (validity_types n) → HasFlags n 2 (child a (child o rest))
list_flags NonNullable a o rest h = tt
list_flags Nullable a o no_nodes h = absurd h
list_flags Nullable a o (child v vs) h = (omega arith, h.0)

pub list_parts : (l : Layout) → HasForm l (dtype_of l) → kind_of (dtype_of l) ≡ DTypeKind.List → (d : DataType) × ((p : PType) × IsListOf l d p)
list_parts (node (list_type d n) rows (List' p) (child a (child o rest))) form k =
    (d, (p, record { element = refl; kind = refl; two = omega arith; elements = form.3.0; offsets = form.3.1.0; validity = list_flags n a o rest form.3.1.1 }))
list_parts (node (list_type d n) rows (List' p) (child a no_nodes)) form k = absurd form.3.1
list_parts (node (list_type d n) rows (List' p) no_nodes) form k = absurd form.3
list_parts (node (list_type d n) rows Struct kids) form k = absurd (let f : false ≡ true = form.1 in cc)
list_parts (node (list_type d n) rows (Leaf segments sp) kids) form k = absurd (let f : false ≡ true = form.1 in cc)
list_parts l form k = absurd cc

-- the same of structs
struct_flags : (n : Nullability) (kids : Nodes) (ts : List DataType) → HaveForms kids (with_validity n ts) → HasFlags n 0 kids
struct_flags NonNullable kids ts h = tt
struct_flags Nullable no_nodes ts h = absurd h
struct_flags Nullable (child v vs) ts h = (omega arith, h.0)

pub struct_is : (l : Layout) → HasForm l (dtype_of l) → kind_of (dtype_of l) ≡ DTypeKind.Struct → (node_kind l ≡ Struct) × HasValidity 0 l
struct_is (node (struct_type fs n) rows Struct kids) form k = (refl, struct_flags n kids (field_types (field_list fs)) form.3)
struct_is (node (struct_type fs n) rows (List' p) kids) form k = absurd (let f : false ≡ true = form.1 in cc)
struct_is (node (struct_type fs n) rows (Leaf segments sp) kids) form k = absurd (let f : false ≡ true = form.1 in cc)
struct_is l form k = absurd cc

pub no_leaf : (l : Layout) → HasForm l (dtype_of l) → is_scalar_type (dtype_of l) ≡ true → node_kind l ≡ Struct → ⊥
no_leaf (node (list_type d n) rows Struct kids) form s k = absurd cc
no_leaf (node (struct_type fs n) rows Struct kids) form s k = absurd cc
no_leaf (node (bool_type n) rows Struct kids) form s k = absurd (let f : false ≡ true = form.1 in cc)
no_leaf (node (int_type q n) rows Struct kids) form s k = absurd (let f : false ≡ true = form.1 in cc)
no_leaf (node (utf8_type n) rows Struct kids) form s k = absurd (let f : false ≡ true = form.1 in cc)
no_leaf l form s k = absurd cc

pub no_leaf_list : (l : Layout) (p : PType) → HasForm l (dtype_of l) → is_scalar_type (dtype_of l) ≡ true → node_kind l ≡ List' p → ⊥
no_leaf_list (node (list_type d n) rows (List' q) kids) p form s k = absurd cc
no_leaf_list (node (struct_type fs n) rows (List' q) kids) p form s k = absurd cc
no_leaf_list (node (bool_type n) rows (List' q) kids) p form s k = absurd (let f : false ≡ true = form.1 in cc)
no_leaf_list (node (int_type q' n) rows (List' q) kids) p form s k = absurd (let f : false ≡ true = form.1 in cc)
no_leaf_list (node (utf8_type n) rows (List' q) kids) p form s k = absurd (let f : false ≡ true = form.1 in cc)
no_leaf_list l p form s k = absurd cc

-- ---- fields, by their names
named_kid : (n : Name) (fs : List (Name × DataType)) (kids : Nodes) (i : ℕ) → i < count kids → IsAt n fs i → kid_named n (fields_of fs) kids ≡ Some (kid_at kids i)
named_kid n [] kids i h a = absurd (omega (arith, a.within))
named_kid n (f ∷ fs) no_nodes i h a = absurd (omega (arith, h))
named_kid n (f ∷ fs) (child l ls) zero h a = rw (a.same) refl
named_kid n (f ∷ fs) (child l ls) (suc i) h a = rw (a.before 0 (omega arith)) (named_kid n fs ls i (omega (arith, h)) (below n f fs i a))

unnamed_kid : (n : Name) (fs : List (Name × DataType)) (kids : Nodes) → length (names_of fs) ≤ position_or_len (bytes_eq n) (names_of fs) → kid_named n (fields_of fs) kids ≡ None
unnamed_kid n [] kids h = refl
unnamed_kid n (f ∷ fs) no_nodes h = refl
unnamed_kid n (f ∷ fs) (child l ls) h = first (bytes_eq n f.0) h (unnamed_kid n fs ls)
  where
    first : (b : Bool) → suc (length (names_of fs)) ≤ cond (not b) (1 + position_or_len (bytes_eq n) (names_of fs)) 0
        → (length (names_of fs) ≤ position_or_len (bytes_eq n) (names_of fs) → kid_named n (fields_of fs) ls ≡ None) → cond b (Some l) (kid_named n (fields_of fs) ls) ≡ None
    first true h rest = absurd (omega arith)
    first false h rest = rest (omega arith)

after_kid : (n : Nullability) (kids : Nodes) (i : ℕ) → kid_at (after_validity n kids) i ≡ kid_at kids (one_where n + i)
after_kid NonNullable kids i = ap (kid_at kids) (let e : i ≡ 0 + i = omega arith in e)
after_kid Nullable no_nodes i = refl
after_kid Nullable (child v kids) i = ap (kid_at (child v kids)) (let e : suc i ≡ 1 + i = omega arith in e)

after_count : (n : Nullability) (kids : Nodes) (ts : List DataType) → HaveForms kids (with_validity n ts) → (count (after_validity n kids) ≡ length ts) × (count kids ≡ one_where n + length ts)
after_count NonNullable kids ts h = let e = forms_count kids ts h in (e, omega (arith, e))
after_count Nullable no_nodes ts h = absurd h
after_count Nullable (child v kids) ts h = let e = forms_count kids ts h.1 in (e, omega (arith, e))

struct_forms : (fs : Fields) (n : Nullability) (rows : ℕ) (kind : LayoutKind) (kids : Nodes) → HasForm (node (struct_type fs n) rows kind kids) (struct_type fs n)
    → HaveForms kids (with_validity n (field_types (field_list fs))) × AllHaveRows rows kids
struct_forms fs n rows Struct kids form = (form.3, form.2)
struct_forms fs n rows (List' p) kids form = absurd (let f : false ≡ true = form.1 in cc)
struct_forms fs n rows (Leaf segments sp) kids form = absurd (let f : false ≡ true = form.1 in cc)

names_count : (ys : List (Name × DataType)) → length (names_of ys) ≡ length ys
names_count [] = refl
names_count (y ∷ ys) = ap suc (names_count ys)

pub field_found : (l : Layout) (nm : Name) (xs : List (Name × DataType)) (i : ℕ) → HasForm l (dtype_of l) → struct_fields_of (dtype_of l) ≡ Some (fields_of xs) → Some i ≡ position (bytes_eq nm) (names_of xs)
    → (one_where (nullability_of (dtype_of l)) + i < count (kids_of l)) × (field_kid nm l ≡ Some (kid_at (kids_of l) (one_where (nullability_of (dtype_of l)) + i)))
field_found (node (struct_type fs n) rows kind kids) nm xs i form e p = go fs (let same : fs ≡ fields_of xs = cc in same) (struct_forms fs n rows kind kids form).0
  where
    at : IsAt nm xs i
    at = is_at nm xs i (sym p)

    go : (gs : Fields) → gs ≡ fields_of xs → HaveForms kids (with_validity n (field_types (field_list gs))) → (one_where n + i < count kids) × (kid_named nm gs (after_validity n kids) ≡ Some (kid_at kids (one_where n + i)))
    go gs same forms =
        let forms' : HaveForms kids (with_validity n (field_types (field_list (fields_of xs)))) = subst (λ g. HaveForms kids (with_validity n (field_types (field_list g)))) same forms in
        let counts = after_count n kids (field_types (field_list (fields_of xs))) forms' in
        let many = names_length xs in
        let long = names_count xs in
        let inside : i < length xs = at.within in
        let below_count : i < count (after_validity n kids) = omega (arith, counts.0, many, long, inside) in
        let found : kid_named nm (fields_of xs) (after_validity n kids) ≡ Some (kid_at kids (one_where n + i)) =
        named_kid nm xs (after_validity n kids) i below_count at ∙ ap (λ k. Some k) (after_kid n kids i) in
        (omega (arith, counts.1, many, long, inside), subst (λ g. kid_named nm g (after_validity n kids) ≡ Some (kid_at kids (one_where n + i))) (sym same) found)
field_found (node (list_type d n) rows kind kids) nm xs i form e p = absurd cc
field_found (node (bool_type n) rows kind kids) nm xs i form e p = absurd cc
field_found (node (int_type q n) rows kind kids) nm xs i form e p = absurd cc
field_found (node (utf8_type n) rows kind kids) nm xs i form e p = absurd cc

pub field_absent : (l : Layout) (nm : Name) (xs : List (Name × DataType)) → struct_fields_of (dtype_of l) ≡ Some (fields_of xs) → None ≡ position (bytes_eq nm) (names_of xs) → field_kid nm l ≡ None
field_absent (node (struct_type fs n) rows kind kids) nm xs e p =
    let same : fs ≡ fields_of xs = cc in
    subst (λ g. kid_named nm g (after_validity n kids) ≡ None) (sym same) (unnamed_kid nm xs (after_validity n kids) (no_place (bytes_eq nm) (names_of xs) (sym p)))
field_absent (node (list_type d n) rows kind kids) nm xs e p = absurd cc
field_absent (node (bool_type n) rows kind kids) nm xs e p = absurd cc
field_absent (node (int_type q n) rows kind kids) nm xs e p = absurd cc
field_absent (node (utf8_type n) rows kind kids) nm xs e p = absurd cc

kids_countable : (t : DataType) (rows : ℕ) (kids : Nodes) → is_countable (node t rows Struct kids) ≡ true → are_countable kids ≡ true
kids_countable t rows kids h = (both _ (are_countable kids) h).1

pub field_good : (l : Layout) (nm : Name) (t : DataType) (kid : Layout) → HasForm l (dtype_of l) → kind_of (dtype_of l) ≡ DTypeKind.Struct
    → passes_or (is_nullable t) (λ d. fits_under d t) (dtype_named nm (fields_in (dtype_of l))) ≡ true → field_kid nm l ≡ Some kid → IsGoodField l kid t
field_good (node (struct_type fs n) rows Struct kids) nm t kid form k pass e =
    go (find_kid nm fs (after_validity n kids) (λ id. None) 0 rows (inner_forms n kids (field_types (field_list fs)) form.3) (inner_rows n kids rows form.2))
  where
    go : Finds nm fs (after_validity n kids) (λ id. None) 0 rows → IsGoodField (node (struct_type fs n) rows Struct kids) kid t
    go (absent a b c) = absurd cc
    go (there kid' a b c own same) =
        let is : kid' ≡ kid = cc in
        let fits : fits_under (dtype_of kid') t ≡ true = subst (λ o. passes_or (is_nullable t) (λ d. fits_under d t) o ≡ true) c pass in
        record {
          form = subst (λ x. HasForm x (dtype_of x)) is own;
          fits = subst (λ x. fits_under (dtype_of x) t ≡ true) is fits;
          countable = λ h. kid_countable nm fs (after_validity n kids) kid e (inner_countable n kids (kids_countable (struct_type fs n) rows kids h));
        }
field_good (node (struct_type fs n) rows (List' p) kids) nm t kid form k pass e = absurd (let f : false ≡ true = form.1 in cc)
field_good (node (struct_type fs n) rows (Leaf segments sp) kids) nm t kid form k pass e = absurd (let f : false ≡ true = form.1 in cc)
field_good l nm t kid form k pass e = absurd cc

pub list_countable : (l : Layout) → is_countable l ≡ true → 0 < count (kids_of l) → (p : PType) → node_kind l ≡ List' p → is_countable (kid_at (kids_of l) 0) ≡ true
list_countable (node t rows (List' q) (child a rest)) h c p k = (both (is_countable a) (are_countable rest) h).0
list_countable (node t rows (List' q) no_nodes) h c p k = absurd (omega (arith, c))
list_countable (node t rows Struct kids) h c p k = absurd cc
list_countable (node t rows (Leaf segments sp) kids) h c p k = absurd cc

-- the elements of a layout of lists fit those of a dtype that it fits, and so on
pub elements_fit_in : (l : Layout) (t e : DataType) → HasForm l (dtype_of l) → kind_of t ≡ DTypeKind.List → fits_under (dtype_of l) t ≡ true → element_of t ≡ Some e → fits_under (dtype_of (kid_at (kids_of l) 0)) e ≡ true
elements_fit_in l t e form k f h =
    let found = list_parts l form (list_from (dtype_of l) t f k) in
    let own = own_form (kid_at (kids_of l) 0) found.0 found.1.1.elements in
    subst (λ w. fits_under w e ≡ true) (sym own.0) (element_fits (dtype_of l) t found.0 e f found.1.1.element h)

pub list_validity_of : (l : Layout) (t : DataType) → HasForm l (dtype_of l) → kind_of t ≡ DTypeKind.List → fits_under (dtype_of l) t ≡ true → HasValidity 2 l
list_validity_of l t form k f = (list_parts l form (list_from (dtype_of l) t f k)).1.1.validity

pub struct_validity_of : (l : Layout) (t : DataType) → HasForm l (dtype_of l) → kind_of t ≡ DTypeKind.Struct → fits_under (dtype_of l) t ≡ true → HasValidity 0 l
struct_validity_of l t form k f = (struct_is l form (struct_from (dtype_of l) t f k)).1

pub rows_countable : (l : Layout) → HasForm l (dtype_of l) → kind_of (dtype_of l) ≡ DTypeKind.Struct → is_countable l ≡ true → rows_of l + 1 < 2 ^ 64
rows_countable (node (struct_type fs n) rows Struct kids) form k h = ltb-true (rows + 1) (2 ^ 64) (both (nat_lt (rows + 1) (2 ^ 64)) (are_countable kids) h).0
rows_countable (node (struct_type fs n) rows (List' p) kids) form k h = absurd (let f : false ≡ true = form.1 in cc)
rows_countable (node (struct_type fs n) rows (Leaf segments sp) kids) form k h = absurd (let f : false ≡ true = form.1 in cc)
rows_countable l form k h = absurd cc
