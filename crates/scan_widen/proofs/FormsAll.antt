-- The form of a layout under another dtype.
use Rattle.std.proofs.Common.{◌≡◌, ℕ, zero, suc, ◌+◌, ◌<◌, ◌^◌, List, [], ◌∷◌, ◌++◌, length, arith, refl, sym, subst, ap, ◌∙◌, Bool, true, false, ◌&&◌, Option, Some, None, bytes_eq, nat_lt}
use Rattle.std.proofs.lemmas.Bool.{ltb-true}
use Rattle.std.proofs.lemmas.List.Sums.{sum_by-cons}
use Rattle.scan_values.specs.declared.ptype.Nullability.{Nullability}
use Rattle.scan_values.specs.declared.ptype.Nullability.TheVariants.{NonNullable, Nullable}
use Rattle.scan_values.specs.declared.ptype.PType.{PType}
use Rattle.scan_values.specs.declared.ptype.PType.TheVariants.{U32}
use Rattle.scan_values.specs.DataType.{DataType, Name, Fields, bool_type, int_type, utf8_type, list_type, struct_type, no_fields, field, field_list, is_nullable}
use Rattle.scan_values.specs.FieldLists.{dtype_named, dtypes_of as field_types}
use Rattle.scan_values.specs.Kinds.{is_scalar_type}
use Rattle.scan_layout.specs.declared.node.LayoutKind.TheVariants.{Leaf, Struct, List as List'}
use Rattle.scan_spelling.specs.declared.spelling.Spelling.{Spelling}
use Rattle.scan_layout.specs.Layout.{Layout, Nodes, node, no_nodes, child, dtype_of, rows_of, kids_of}
use Rattle.scan_layout.specs.Check.{serves, child_types, total_rows, with_validity, validity_types}
use Rattle.scan_layout.specs.Form.{HasForm, HaveForms, AllHaveRows}
use Rattle.scan_widen.specs.FitsUnder.{fits_under, fields_fit, null_fits, are_lawful, passes_or}
use Rattle.scan_widen.specs.Blanks.{flags, only_rows, one_leaf, blank_behind, blanks_behind, blank_under, blanks_under, blank_flags, flags_leaf}
use Rattle.scan_widen.specs.Under.{kid_at, after_validity, kid_named, leaf_behind, leaf_under, validity_behind, validity_under, behind, fields_behind, under, fields_under, read_or, numbered}
use Rattle.scan_widen.specs.Countable.{is_countable, are_countable}
use Rattle.scan_widen.proofs.RowsAll.{Finds, absent, there, find_kid, both, scalar_from, own_form, rows_under, inner_forms, inner_rows}

-- ---- leaves
same_total : (k : ℕ) (segments : List (ℕ × ℕ)) → total_rows (numbered k segments) ≡ total_rows segments
same_total k [] = refl
same_total k (g ∷ segments) = sum_by-cons (λ x. x.1) (k, g.1) (numbered (k + 1) segments) ∙ ap (λ n. g.1 + n) (same_total (k + 1) segments) ∙ sym (sum_by-cons (λ x. x.1) g segments)

leaf_kids : (t : DataType) (segments : List (ℕ × ℕ)) (sp : Spelling) → HaveForms no_nodes (child_types t (Leaf segments sp))
leaf_kids (bool_type n) segments sp = tt
leaf_kids (int_type p n) segments sp = tt
leaf_kids (utf8_type n) segments sp = tt
leaf_kids (list_type d n) segments sp = tt
leaf_kids (struct_type fs n) segments sp = tt

leaf_form : (to : DataType) (k : ℕ) (l : Layout) (t : DataType) → HasForm l t → is_scalar_type t ≡ true → is_scalar_type to ≡ true → HasForm (leaf_under k to l) to
leaf_form to k (node t' rows (Leaf segments sp) kids) t form scalar wanted = (refl, wanted, (same_total k segments ∙ form.2.0, form.2.1), leaf_kids to _ _)
leaf_form to k (node t' rows Struct kids) t form scalar wanted = absurd (no_struct t' (subst (λ w. is_scalar_type w ≡ true) (sym form.0) scalar) form.1)
  where
    no_struct : (w : DataType) → is_scalar_type w ≡ true → serves Struct w ≡ true → ⊥
    no_struct (bool_type n) a b = absurd cc
    no_struct (int_type q n) a b = absurd cc
    no_struct (utf8_type n) a b = absurd cc
    no_struct (list_type e n) a b = absurd cc
    no_struct (struct_type fs n) a b = absurd cc
leaf_form to k (node t' rows (List' p) kids) t form scalar wanted = absurd (no_list t' (subst (λ w. is_scalar_type w ≡ true) (sym form.0) scalar) form.1)
  where
    no_list : (w : DataType) → is_scalar_type w ≡ true → serves (List' p) w ≡ true → ⊥
    no_list (bool_type n) a b = absurd cc
    no_list (int_type q n) a b = absurd cc
    no_list (utf8_type n) a b = absurd cc
    no_list (list_type e n) a b = absurd cc
    no_list (struct_type fs n) a b = absurd cc

only_total : (k rows : ℕ) → total_rows (only_rows rows (k, rows)) ≡ rows
only_total k zero = refl
only_total k (suc n) = let sum = sum_by-cons (λ (x : ℕ × ℕ). x.1) (k, suc n) [] in omega (arith, sum)

one_form : (k : ℕ) (t : DataType) (rows : ℕ) → is_scalar_type t ≡ true → rows < 2 ^ 64 → HasForm (one_leaf k t rows) t
one_form k t rows scalar small = (refl, scalar, (only_total k rows, small), leaf_kids t _ _)

-- ---- rows that the file does not have
blank_rows : (k : ℕ) (t : DataType) (rows : ℕ) → rows_of (blank_under k t rows) ≡ rows
blank_rows k (bool_type n) rows = refl
blank_rows k (int_type p n) rows = refl
blank_rows k (utf8_type n) rows = refl
blank_rows k (list_type d n) rows = refl
blank_rows k (struct_type fs n) rows = refl

flags_forms : (k : ℕ) (n : Nullability) (rows : ℕ) (others : Nodes) (ts : List DataType) → rows < 2 ^ 64 → HaveForms others ts → HaveForms (flags_leaf k n rows others) (with_validity n ts)
flags_forms k NonNullable rows others ts small h = h
flags_forms k Nullable rows others ts small h = (one_form k flags rows refl small, h)

flags_rows : (k : ℕ) (n : Nullability) (rows : ℕ) (others : Nodes) → AllHaveRows rows others → AllHaveRows rows (flags_leaf k n rows others)
flags_rows k NonNullable rows others h = h
flags_rows k Nullable rows others h = (refl, h)

blanks_rows : (k : ℕ) (fs : Fields) (rows : ℕ) → AllHaveRows rows (blanks_under k fs rows)
blanks_rows k no_fields rows = tt
blanks_rows k (field nm t fs) rows = (blank_rows k t rows, blanks_rows (k + length (blank_behind t rows)) fs rows)

last_forms : (k : ℕ) (n : Nullability) (rows : ℕ) → rows < 2 ^ 64 → HaveForms (flags_leaf k n rows no_nodes) (validity_types n)
last_forms k NonNullable rows small = tt
last_forms k Nullable rows small = (one_form k flags rows refl small, tt)

mutual
  pub blank_form : (t : DataType) (k rows : ℕ) → rows + 1 < 2 ^ 64 → HasForm (blank_under k t rows) t
  blank_form (bool_type n) k rows small = one_form k (bool_type n) rows refl (omega (arith, small))
  blank_form (int_type p n) k rows small = one_form k (int_type p n) rows refl (omega (arith, small))
  blank_form (utf8_type n) k rows small = one_form k (utf8_type n) rows refl (omega (arith, small))
  blank_form (list_type e n) k rows small =
      let from : ℕ = k + length (blank_behind e 0) in
      (refl, refl, (refl, flags_rows (from + 1) n rows no_nodes tt), (blank_form e k 0 (omega arith), (one_form from (int_type U32 NonNullable) (rows + 1) refl small, last_forms (from + 1) n rows (omega (arith, small)))))
  blank_form (struct_type fs n) k rows small =
      let from : ℕ = k + length (blank_flags n rows) in (
        refl,
        refl,
        flags_rows k n rows (blanks_under from fs rows) (blanks_rows from fs rows),
        flags_forms k n rows (blanks_under from fs rows) (field_types (field_list fs)) (omega (arith, small)) (blanks_form fs from rows small),
      )

  blanks_form : (fs : Fields) (k rows : ℕ) → rows + 1 < 2 ^ 64 → HaveForms (blanks_under k fs rows) (field_types (field_list fs))
  blanks_form no_fields k rows small = tt
  blanks_form (field nm t fs) k rows small = (blank_form t k rows small, blanks_form fs (k + length (blank_behind t rows)) rows small)

-- ---- validity
validity_forms : (k : ℕ) (m : Nullability) (t : DataType) (rows : ℕ) (l v : Layout) (others : Nodes) (ts : List DataType) → rows_of l ≡ rows → rows < 2 ^ 64
    → ((is_nullable (dtype_of l) ≡ true) → HasForm v flags) → HaveForms others ts → HaveForms (validity_under k m l v others) (with_validity m ts)
validity_forms k NonNullable t rows l v others ts e small own h = h
validity_forms k Nullable t rows (node (bool_type NonNullable) r kind kids) v others ts e small own h = (one_form k flags r refl (subst (λ n. n < 2 ^ 64) (sym e) small), h)
validity_forms k Nullable t rows (node (int_type p NonNullable) r kind kids) v others ts e small own h = (one_form k flags r refl (subst (λ n. n < 2 ^ 64) (sym e) small), h)
validity_forms k Nullable t rows (node (utf8_type NonNullable) r kind kids) v others ts e small own h = (one_form k flags r refl (subst (λ n. n < 2 ^ 64) (sym e) small), h)
validity_forms k Nullable t rows (node (list_type d NonNullable) r kind kids) v others ts e small own h = (one_form k flags r refl (subst (λ n. n < 2 ^ 64) (sym e) small), h)
validity_forms k Nullable t rows (node (struct_type fs NonNullable) r kind kids) v others ts e small own h = (one_form k flags r refl (subst (λ n. n < 2 ^ 64) (sym e) small), h)
validity_forms k Nullable t rows (node (bool_type Nullable) r kind kids) v others ts e small own h = (leaf_form flags k v flags (own refl) refl refl, h)
validity_forms k Nullable t rows (node (int_type p Nullable) r kind kids) v others ts e small own h = (leaf_form flags k v flags (own refl) refl refl, h)
validity_forms k Nullable t rows (node (utf8_type Nullable) r kind kids) v others ts e small own h = (leaf_form flags k v flags (own refl) refl refl, h)
validity_forms k Nullable t rows (node (list_type d Nullable) r kind kids) v others ts e small own h = (leaf_form flags k v flags (own refl) refl refl, h)
validity_forms k Nullable t rows (node (struct_type fs Nullable) r kind kids) v others ts e small own h = (leaf_form flags k v flags (own refl) refl refl, h)

validity_rows_of : (k : ℕ) (m : Nullability) (rows : ℕ) (l v : Layout) (others : Nodes) → rows_of l ≡ rows → (is_nullable (dtype_of l) ≡ true → rows_of v ≡ rows) → AllHaveRows rows others → AllHaveRows rows (validity_under k m l v others)
validity_rows_of k NonNullable rows l v others e own h = h
validity_rows_of k Nullable rows (node (bool_type NonNullable) r kind kids) v others e own h = (e, h)
validity_rows_of k Nullable rows (node (int_type p NonNullable) r kind kids) v others e own h = (e, h)
validity_rows_of k Nullable rows (node (utf8_type NonNullable) r kind kids) v others e own h = (e, h)
validity_rows_of k Nullable rows (node (list_type d NonNullable) r kind kids) v others e own h = (e, h)
validity_rows_of k Nullable rows (node (struct_type fs NonNullable) r kind kids) v others e own h = (e, h)
validity_rows_of k Nullable rows (node (bool_type Nullable) r kind kids) v others e own h = (own refl, h)
validity_rows_of k Nullable rows (node (int_type p Nullable) r kind kids) v others e own h = (own refl, h)
validity_rows_of k Nullable rows (node (utf8_type Nullable) r kind kids) v others e own h = (own refl, h)
validity_rows_of k Nullable rows (node (list_type d Nullable) r kind kids) v others e own h = (own refl, h)
validity_rows_of k Nullable rows (node (struct_type fs Nullable) r kind kids) v others e own h = (own refl, h)

-- ---- lists
last_types : (m : Nullability) → with_validity m [] ≡ validity_types m
last_types NonNullable = refl
last_types Nullable = refl

leaf_small : (l : Layout) (t : DataType) → HasForm l t → is_scalar_type t ≡ true → rows_of l < 2 ^ 64
leaf_small (node t' rows (Leaf segments sp) kids) t form scalar = form.2.1
leaf_small (node t' rows Struct kids) t form scalar = absurd (no_struct t' (subst (λ w. is_scalar_type w ≡ true) (sym form.0) scalar) form.1)
  where
    no_struct : (w : DataType) → is_scalar_type w ≡ true → serves Struct w ≡ true → ⊥
    no_struct (bool_type n) a b = absurd cc
    no_struct (int_type q n) a b = absurd cc
    no_struct (utf8_type n) a b = absurd cc
    no_struct (list_type e n) a b = absurd cc
    no_struct (struct_type fs n) a b = absurd cc
leaf_small (node t' rows (List' p) kids) t form scalar = absurd (no_list t' (subst (λ w. is_scalar_type w ≡ true) (sym form.0) scalar) form.1)
  where
    no_list : (w : DataType) → is_scalar_type w ≡ true → serves (List' p) w ≡ true → ⊥
    no_list (bool_type n) a b = absurd cc
    no_list (int_type q n) a b = absurd cc
    no_list (utf8_type n) a b = absurd cc
    no_list (list_type e n) a b = absurd cc
    no_list (struct_type fs n) a b = absurd cc

list_validity : (d : DataType) (n : Nullability) (rows : ℕ) (p : PType) (a o : Layout) (rest : Nodes) → HasForm (node (list_type d n) rows (List' p) (child a (child o rest))) (list_type d n)
    → is_nullable (list_type d n) ≡ true → HasForm (kid_at (child a (child o rest)) 2) flags × (rows_of (kid_at (child a (child o rest)) 2) ≡ rows)
list_validity d NonNullable rows p a o rest form e = absurd cc
list_validity d Nullable rows p a o no_nodes form e = absurd form.3.1.1
list_validity d Nullable rows p a o (child v vs) form e = (form.3.1.1.0, form.2.1.0)

list_form : (d e : DataType) (n m : Nullability) (k : ℕ) (a o : Layout) (rest : Nodes) (rows : ℕ) (p : PType) → HasForm (node (list_type d n) rows (List' p) (child a (child o rest))) (list_type d n)
    → HasForm (under k e a) e → HasForm (under k (list_type e m) (node (list_type d n) rows (List' p) (child a (child o rest)))) (list_type e m)
list_form d e n m k a o rest rows p form elements =
    let l : Layout = node (list_type d n) rows (List' p) (child a (child o rest)) in
    let v : Layout = kid_at (child a (child o rest)) 2 in
    let from : ℕ = k + length (behind e a) in
    let last : ℕ = from + length (leaf_behind (dtype_of o) o) in
    let own : dtype_of o ≡ int_type p NonNullable = (own_form o (int_type p NonNullable) form.3.1.0).0 in
    let scalar : is_scalar_type (dtype_of o) ≡ true = subst (λ w. is_scalar_type w ≡ true) (sym own) refl in
    let offsets : HasForm (leaf_under from (dtype_of o) o) (int_type p NonNullable) =
    subst (λ w. HasForm (leaf_under from (dtype_of o) o) w) own (leaf_form (dtype_of o) from o (int_type p NonNullable) form.3.1.0 refl scalar) in
    let small : rows_of o < 2 ^ 64 = leaf_small o (int_type p NonNullable) form.3.1.0 refl in
    let below : rows < 2 ^ 64 = let many : rows_of o ≡ rows + 1 = form.2.0 in omega (arith, small, many) in
    let flags_of = list_validity d n rows p a o rest form in
    let forms = validity_forms last m (list_type d n) rows l v no_nodes [] refl below (λ q. (flags_of q).0) tt in (
      refl,
      refl,
      (form.2.0, validity_rows_of last m rows l v no_nodes refl (λ q. (flags_of q).1) tt),
      (elements, (offsets, subst (λ ts. HaveForms (validity_under last m l v no_nodes) ts) (last_types m) forms)),
    )

-- ---- structs
struct_validity : (fs : Fields) (n : Nullability) (rows : ℕ) (kids : Nodes) → HasForm (node (struct_type fs n) rows Struct kids) (struct_type fs n)
    → is_nullable (struct_type fs n) ≡ true → HasForm (kid_at kids 0) flags × (rows_of (kid_at kids 0) ≡ rows)
struct_validity fs NonNullable rows kids form e = absurd cc
struct_validity fs Nullable rows no_nodes form e = absurd form.3
struct_validity fs Nullable rows (child v vs) form e = (form.3.0, form.2.0)

pub kid_countable : (nm : Name) (fs : Fields) (kids : Nodes) (kid : Layout) → kid_named nm fs kids ≡ Some kid → are_countable kids ≡ true → is_countable kid ≡ true
kid_countable nm no_fields kids kid e h = absurd cc
kid_countable nm (field m d fs) no_nodes kid e h = absurd cc
kid_countable nm (field m d fs) (child l ls) kid e h = go (bytes_eq nm m) refl (λ q. kid_countable nm fs ls kid q (both (is_countable l) (are_countable ls) h).1)
  where
    go : (t : Bool) → bytes_eq nm m ≡ t → (kid_named nm fs ls ≡ Some kid → is_countable kid ≡ true) → is_countable kid ≡ true
    go true q rest = let same : Some l ≡ Some kid = rw q at e in subst (λ x. is_countable x ≡ true) (let is : l ≡ kid = cc in is) (both (is_countable l) (are_countable ls) h).0
    go false q rest = rest (rw q at e)

pub inner_countable : (n : Nullability) (kids : Nodes) → are_countable kids ≡ true → are_countable (after_validity n kids) ≡ true
inner_countable NonNullable kids h = h
inner_countable Nullable no_nodes h = refl
inner_countable Nullable (child v kids) h = (both (is_countable v) (are_countable kids) h).1

one_field_form : (t : DataType) (nm : Name) (fs : Fields) (kids : Nodes) (k rows : ℕ) → Finds nm fs kids (λ id. None) 0 rows → passes_or (is_nullable t) (λ d. fits_under d t) (dtype_named nm fs) ≡ true
    → rows + 1 < 2 ^ 64 → are_countable kids ≡ true
    → ((kid : Layout) → HasForm kid (dtype_of kid) → fits_under (dtype_of kid) t ≡ true → is_countable kid ≡ true → HasForm (under k t kid) t)
    → HasForm (read_or (blank_under k t rows) (λ kid. under k t kid) (kid_named nm fs kids)) t × (rows_of (read_or (blank_under k t rows) (λ kid. under k t kid) (kid_named nm fs kids)) ≡ rows)
one_field_form t nm fs kids k rows (absent a b c) pass small count ih =
    subst (λ o. HasForm (read_or (blank_under k t rows) (λ kid. under k t kid) o) t × (rows_of (read_or (blank_under k t rows) (λ kid. under k t kid) o) ≡ rows)) (sym a) (blank_form t k rows small, blank_rows k t rows)
one_field_form t nm fs kids k rows (there kid a b c form same) pass small count ih =
    let fits : fits_under (dtype_of kid) t ≡ true = subst (λ o. passes_or (is_nullable t) (λ d. fits_under d t) o ≡ true) c pass in
    subst (λ o. HasForm (read_or (blank_under k t rows) (λ l. under k t l) o) t × (rows_of (read_or (blank_under k t rows) (λ l. under k t l) o) ≡ rows)) (sym a)
    (ih kid form fits (kid_countable nm fs kids kid a count), rows_under t k kid ∙ same)

mutual
  pub forms_under : (to : DataType) (k : ℕ) (l : Layout) → HasForm l (dtype_of l) → fits_under (dtype_of l) to ≡ true → is_countable l ≡ true → HasForm (under k to l) to
  forms_under (bool_type m) k l form f count = leaf_form (bool_type m) k l (dtype_of l) form (scalar_from (dtype_of l) (bool_type m) refl f) refl
  forms_under (int_type q m) k l form f count = leaf_form (int_type q m) k l (dtype_of l) form (scalar_from (dtype_of l) (int_type q m) refl f) refl
  forms_under (utf8_type m) k l form f count = leaf_form (utf8_type m) k l (dtype_of l) form (scalar_from (dtype_of l) (utf8_type m) refl f) refl
  forms_under (list_type e m) k (node (list_type d n) rows (List' p) no_nodes) form f count = absurd form.3
  forms_under (list_type e m) k (node (list_type d n) rows (List' p) (child a no_nodes)) form f count = absurd form.3.1
  forms_under (list_type e m) k (node (list_type d n) rows (List' p) (child a (child o rest))) form f count =
      let own = own_form a d form.3.0 in
      let parts = both (null_fits n m) (fits_under d e) f in
      let fits : fits_under (dtype_of a) e ≡ true = subst (λ w. fits_under w e ≡ true) (sym own.0) parts.1 in
      list_form d e n m k a o rest rows p form (forms_under e k a own.1 fits (both (is_countable a) (are_countable (child o rest)) count).0)
  forms_under (struct_type gs m) k (node (struct_type fs n) rows Struct kids) form f count =
      let l : Layout = node (struct_type fs n) rows Struct kids in
      let parts = both (null_fits n m) (are_lawful fs && fields_fit fs gs) f in
      let lawful = both (are_lawful fs) (fields_fit fs gs) parts.1 in
      let counts = both (nat_lt (rows + 1) (2 ^ 64)) (are_countable kids) count in
      let small : rows + 1 < 2 ^ 64 = ltb-true (rows + 1) (2 ^ 64) counts.0 in
      let from : ℕ = k + length (validity_behind m l (kid_at kids 0)) in
      let inner = fields_form gs from fs n rows kids (inner_forms n kids (field_types (field_list fs)) form.3) (inner_rows n kids rows form.2) lawful.1 small (inner_countable n kids counts.1) in
      let flags_of = struct_validity fs n rows kids form in (
        refl,
        refl,
        validity_rows_of k m rows l (kid_at kids 0) (fields_under from gs l) refl (λ q. (flags_of q).1) inner.1,
        validity_forms k m (struct_type fs n) rows l (kid_at kids 0) (fields_under from gs l) (field_types (field_list gs)) refl (omega (arith, small)) (λ q. (flags_of q).0) inner.0,
      )
  forms_under to k l form f count = absurd cc

  fields_form : (gs : Fields) (k : ℕ) (fs : Fields) (n : Nullability) (rows : ℕ) (kids : Nodes) → HaveForms (after_validity n kids) (field_types (field_list fs)) → AllHaveRows rows (after_validity n kids) → fields_fit fs gs ≡ true
      → rows + 1 < 2 ^ 64 → are_countable (after_validity n kids) ≡ true
      → HaveForms (fields_under k gs (node (struct_type fs n) rows Struct kids)) (field_types (field_list gs)) × AllHaveRows rows (fields_under k gs (node (struct_type fs n) rows Struct kids))
  fields_form no_fields k fs n rows kids forms fit pass small count = (tt, tt)
  fields_form (field nm t gs) k fs n rows kids forms fit pass small count =
      let inner : Nodes = after_validity n kids in
      let parts = both (passes_or (is_nullable t) (λ d. fits_under d t) (dtype_named nm fs)) (fields_fit fs gs) pass in
      let first : ℕ = length (read_or (blank_behind t rows) (λ kid. behind t kid) (kid_named nm fs inner)) in
      let now = one_field_form t nm fs inner k rows (find_kid nm fs inner (λ id. None) 0 rows forms fit) parts.0 small count (λ kid form f c. forms_under t k kid form f c) in
      let rest = fields_form gs (k + first) fs n rows kids forms fit parts.1 small count in
      ((now.0, rest.0), (now.1, rest.1))
