-- What stands behind the segments of a layout of good form can be read.
use Rattle.std.proofs.Common.{◌≡◌, ℕ, zero, suc, ◌+◌, List, [], ◌∷◌, ◌++◌, map, refl, sym, subst, ap, ◌∙◌, Bool, true, false, ◌&&◌, Option, Some, None, All}
use Rattle.std.specs.Prelude.{if◌then◌else◌}
use Rattle.std.specs.List.{AllByRecursion}
use Rattle.std.proofs.lemmas.List.Elements.{All-from_recursion}
use Rattle.scan_values.specs.declared.ptype.PType.{PType}
use Rattle.scan_values.specs.declared.ptype.PType.TheVariants.{U32}
use Rattle.scan_values.specs.declared.ptype.Nullability.{Nullability}
use Rattle.scan_values.specs.declared.ptype.Nullability.TheVariants.{NonNullable, Nullable}
use Rattle.scan_values.specs.DataType.{DataType, Name, Fields, bool_type, int_type, utf8_type, list_type, struct_type, no_fields, field, field_list, nullability_of, is_nullable}
use Rattle.scan_values.specs.FieldLists.{dtype_named, dtypes_of as field_types}
use Rattle.scan_values.specs.Kinds.{is_scalar_type}
use Rattle.scan_values.specs.Same.{same_type}
use Rattle.scan_layout.specs.declared.node.LayoutKind.TheVariants.{Leaf, Struct, List as List'}
use Rattle.scan_layout.specs.Layout.{Layout, Nodes, node, no_nodes, child, dtype_of, rows_of, kids_of, kind_of as node_kind}
use Rattle.scan_layout.specs.Form.{HasForm, HaveForms, AllHaveRows}
use Rattle.scan_spelling.specs.declared.spelling.Spelling.{Spelling}
use Rattle.scan_widen.specs.declared.behind.Behind.{Behind}
use Rattle.scan_widen.specs.declared.behind.Behind.TheVariants.{Kept, Widened, Blank, Valid}
use Rattle.scan_widen.specs.FitsUnder.{null_fits, are_lawful, passes_or, fits_under, fields_fit}
use Rattle.scan_widen.specs.Blanks.{flags, only_rows, blank_behind, blanks_behind, blank_flags}
use Rattle.scan_widen.specs.Under.{kid_at, after_validity, kid_named, segment_behind, segments_of, spelling_of, leaf_behind, validity_behind, own_or_valid, behind, fields_behind, read_or}
use Rattle.scan_widen.specs.Parts.{HasFlags, HasValidity, IsReadable}
use Rattle.scan_widen.proofs.RowsAll.{Finds, absent, there, find_kid, both, own_form, scalar_from, inner_forms, inner_rows, self_holds}
use Rattle.scan_widen.proofs.Forming.{IsListOf, list_parts, struct_is}

joined : (xs ys : List Behind) → AllByRecursion IsReadable xs → AllByRecursion IsReadable ys → AllByRecursion IsReadable (xs ++ ys)
joined [] ys h k = k
joined (x ∷ xs) ys h k = (h.0, joined xs ys h.1 k)

only : (rows : ℕ) (b : Behind) → IsReadable b → AllByRecursion IsReadable (only_rows rows b)
only zero b h = tt
only (suc n) b h = (h, tt)

one_segment : (from to : DataType) (sp : Spelling) (g : ℕ × ℕ) → is_scalar_type from ≡ true → fits_under from to ≡ true → IsReadable (segment_behind from to sp g)
one_segment from to sp g s f = by_test (same_type from to)
  where
    by_test : (b : Bool) → IsReadable (if b then Kept g.0 else Widened (record { id = g.0; rows = g.1; spelling = sp; from = from; to = to }))
    by_test true = tt
    by_test false = (s, f)

leaf_read : (from to : DataType) (sp : Spelling) (segments : List (ℕ × ℕ)) → is_scalar_type from ≡ true → fits_under from to ≡ true → AllByRecursion IsReadable (map (segment_behind from to sp) segments)
leaf_read from to sp [] s f = tt
leaf_read from to sp (g ∷ segments) s f = (one_segment from to sp g s f, leaf_read from to sp segments s f)

leaf_readable : (to : DataType) (l : Layout) → is_scalar_type (dtype_of l) ≡ true → fits_under (dtype_of l) to ≡ true → AllByRecursion IsReadable (leaf_behind to l)
leaf_readable to l s f = leaf_read (dtype_of l) to (spelling_of (node_kind l)) (segments_of (node_kind l)) s f

flags_read : (n : Nullability) (rows : ℕ) → AllByRecursion IsReadable (blank_flags n rows)
flags_read NonNullable rows = tt
flags_read Nullable rows = only rows (Blank flags rows) tt

mutual
  blank_read : (t : DataType) (rows : ℕ) → AllByRecursion IsReadable (blank_behind t rows)
  blank_read (bool_type n) rows = only rows (Blank (bool_type n) rows) tt
  blank_read (int_type p n) rows = only rows (Blank (int_type p n) rows) tt
  blank_read (utf8_type n) rows = only rows (Blank (utf8_type n) rows) tt
  blank_read (list_type e n) rows = joined (blank_behind e 0) (Blank (int_type U32 NonNullable) (rows + 1) ∷ blank_flags n rows) (blank_read e 0) (tt, flags_read n rows)
  blank_read (struct_type fs n) rows = joined (blank_flags n rows) (blanks_behind fs rows) (flags_read n rows) (blanks_read fs rows)

  blanks_read : (fs : Fields) (rows : ℕ) → AllByRecursion IsReadable (blanks_behind fs rows)
  blanks_read no_fields rows = tt
  blanks_read (field n t fs) rows = joined (blank_behind t rows) (blanks_behind fs rows) (blank_read t rows) (blanks_read fs rows)

flags_of : (v : Layout) → HasForm v flags → AllByRecursion IsReadable (leaf_behind flags v)
flags_of v form =
    let is : dtype_of v ≡ flags = (own_form v flags form).0 in
    leaf_readable flags v (subst (λ t. is_scalar_type t ≡ true) (sym is) refl) (subst (λ t. fits_under t flags ≡ true) (sym is) refl)

own_read : (n : Nullability) (place rows : ℕ) (kids : Nodes) → HasFlags n place kids → AllByRecursion IsReadable (own_or_valid n (leaf_behind flags (kid_at kids place)) (only_rows rows (Valid rows)))
own_read NonNullable place rows kids h = only rows (Valid rows) tt
own_read Nullable place rows kids h = flags_of (kid_at kids place) h.1

validity_read : (m : Nullability) (place : ℕ) (l : Layout) → HasValidity place l → AllByRecursion IsReadable (validity_behind m l (kid_at (kids_of l) place))
validity_read NonNullable place l h = tt
validity_read Nullable place l h = own_read (nullability_of (dtype_of l)) place (rows_of l) (kids_of l) h

offsets_read : (o : Layout) (p : PType) → HasForm o (int_type p NonNullable) → AllByRecursion IsReadable (leaf_behind (dtype_of o) o)
offsets_read o p form =
    let is : dtype_of o ≡ int_type p NonNullable = (own_form o (int_type p NonNullable) form).0 in
    leaf_readable (dtype_of o) o (subst (λ t. is_scalar_type t ≡ true) (sym is) refl) (subst (λ t. fits_under t t ≡ true) (sym is) (self_holds p))

one_field_read : (t : DataType) (nm : Name) (fs : Fields) (kids : Nodes) (rows : ℕ) → Finds nm fs kids (λ id. None) 0 rows → passes_or (is_nullable t) (λ d. fits_under d t) (dtype_named nm fs) ≡ true
    → ((kid : Layout) → HasForm kid (dtype_of kid) → fits_under (dtype_of kid) t ≡ true → AllByRecursion IsReadable (behind t kid))
    → AllByRecursion IsReadable (read_or (blank_behind t rows) (λ kid. behind t kid) (kid_named nm fs kids))
one_field_read t nm fs kids rows (absent a b c) pass ih = subst (λ o. AllByRecursion IsReadable (read_or (blank_behind t rows) (λ kid. behind t kid) o)) (sym a) (blank_read t rows)
one_field_read t nm fs kids rows (there kid a b c form same) pass ih =
    let fits : fits_under (dtype_of kid) t ≡ true = subst (λ o. passes_or (is_nullable t) (λ d. fits_under d t) o ≡ true) c pass in
    subst (λ o. AllByRecursion IsReadable (read_or (blank_behind t rows) (λ l. behind t l) o)) (sym a) (ih kid form fits)

mutual
  readable : (to : DataType) (l : Layout) → HasForm l (dtype_of l) → fits_under (dtype_of l) to ≡ true → AllByRecursion IsReadable (behind to l)
  readable (bool_type m) l form f = leaf_readable (bool_type m) l (scalar_from (dtype_of l) (bool_type m) refl f) f
  readable (int_type q m) l form f = leaf_readable (int_type q m) l (scalar_from (dtype_of l) (int_type q m) refl f) f
  readable (utf8_type m) l form f = leaf_readable (utf8_type m) l (scalar_from (dtype_of l) (utf8_type m) refl f) f
  readable (list_type e m) (node (list_type d n) rows (List' p) no_nodes) form f = absurd form.3
  readable (list_type e m) (node (list_type d n) rows (List' p) (child a no_nodes)) form f = absurd form.3.1
  readable (list_type e m) (node (list_type d n) rows (List' p) (child a (child o rest))) form f =
      let l : Layout = node (list_type d n) rows (List' p) (child a (child o rest)) in
      let own = own_form a d form.3.0 in
      let parts = both (null_fits n m) (fits_under d e) f in
      let fits : fits_under (dtype_of a) e ≡ true = subst (λ w. fits_under w e ≡ true) (sym own.0) parts.1 in
      let validity : HasValidity 2 l = (list_parts l form refl).1.1.validity in
      joined (behind e a) (leaf_behind (dtype_of o) o ++ validity_behind m l (kid_at (kids_of l) 2)) (readable e a own.1 fits)
      (joined (leaf_behind (dtype_of o) o) (validity_behind m l (kid_at (kids_of l) 2)) (offsets_read o p form.3.1.0) (validity_read m 2 l validity))
  readable (struct_type gs m) (node (struct_type fs n) rows Struct kids) form f =
      let l : Layout = node (struct_type fs n) rows Struct kids in
      let parts = both (null_fits n m) (are_lawful fs && fields_fit fs gs) f in
      let lawful = both (are_lawful fs) (fields_fit fs gs) parts.1 in
      let validity : HasValidity 0 l = (struct_is l form refl).1 in
      joined (validity_behind m l (kid_at (kids_of l) 0)) (fields_behind gs l) (validity_read m 0 l validity)
      (fields_read gs fs n rows kids (inner_forms n kids (field_types (field_list fs)) form.3) (inner_rows n kids rows form.2) lawful.1)
  readable to l form f = absurd cc

  fields_read : (gs fs : Fields) (n : Nullability) (rows : ℕ) (kids : Nodes) → HaveForms (after_validity n kids) (field_types (field_list fs)) → AllHaveRows rows (after_validity n kids) → fields_fit fs gs ≡ true
      → AllByRecursion IsReadable (fields_behind gs (node (struct_type fs n) rows Struct kids))
  fields_read no_fields fs n rows kids forms fit pass = tt
  fields_read (field nm t gs) fs n rows kids forms fit pass =
      let inner : Nodes = after_validity n kids in
      let parts = both (passes_or (is_nullable t) (λ d. fits_under d t) (dtype_named nm fs)) (fields_fit fs gs) pass in
      joined (read_or (blank_behind t rows) (λ kid. behind t kid) (kid_named nm fs inner)) (fields_behind gs (node (struct_type fs n) rows Struct kids))
      (one_field_read t nm fs inner rows (find_kid nm fs inner (λ id. None) 0 rows forms fit) parts.0 (λ kid form f. readable t kid form f))
      (fields_read gs fs n rows kids forms fit parts.1)

pub all_readable : (to : DataType) (l : Layout) (bs : List Behind) → HasForm l (dtype_of l) → fits_under (dtype_of l) to ≡ true → bs ≡ behind to l → All IsReadable bs
all_readable to l bs form f e = subst (λ xs. All IsReadable xs) (sym e) (All-from_recursion IsReadable (behind to l) (readable to l form f))
