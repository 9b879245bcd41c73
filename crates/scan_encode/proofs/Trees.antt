-- Layouts of structs and of lists, by their parts.
use Rattle.std.proofs.Common.{◌≡◌, ℕ, zero, suc, ◌+◌, true, List, [], ◌∷◌, ◌++◌, length, map, drop, refl, sym, ap, ap₂, ◌∙◌, subst, arith}
use Rattle.std.specs.Prelude.{Some, option_map, slice_get}
use Rattle.std.proofs.lemmas.Bool.{and_parts}
use Rattle.std.proofs.lemmas.List.{length-map}
use Rattle.std.proofs.lemmas.Option.{none-some, slice_get-map}
use Rattle.scan_values.specs.declared.ptype.Nullability.{Nullability}
use Rattle.scan_values.specs.declared.ptype.Nullability.TheVariants.{NonNullable, Nullable}
use Rattle.scan_values.specs.DataType.{DataType, Name, Fields, no_fields, field, bool_type, struct_type, field_list, fields_of}
use Rattle.scan_values.specs.FieldLists.{dtypes_of}
use Rattle.scan_values.specs.Fits.{fits, fits_fields}
use Rattle.scan_values.specs.Marked.{boolean, struct, more}
use Rattle.scan_values.specs.Val.{Val, Vals, null_val, bool_val, int_val, text_val, list_val, struct_val, no_vals, val, marked, marked_all}
use Rattle.scan_segments.specs.Source.{Store}
use Rattle.scan_layout.specs.declared.node.LayoutKind.TheVariants.{Struct}
use Rattle.scan_layout.specs.Layout.{Layout, node, nodes}
use Rattle.scan_layout.specs.Form.{AllHaveRows, HaveForms}
use Rattle.scan_layout.specs.RowValue.{row_value, row_values, under}
use Rattle.scan_encode.specs.Encoded.{stored, Has, IsOf}
use Rattle.scan_encode.specs.Parts.{AllOf, AreFields, AreChildren, IsValidity, given}
use Rattle.scan_encode.specs.Rows.{Row, is_there, field_at, validity, parts_of}
use Rattle.scan_encode.proofs.RowsOf.{of_at}

-- ---- with more segments
pub of_more : (d : DataType) (rows : List Row) (few many : List (List ℕ)) (l : Layout) → Has (stored many) few → IsOf d rows few l → IsOf d rows many l
of_more d rows few many l has h = record {
  form = h.form;
  size = h.size;
  gives = λ store all i v e. h.gives store (record { finds = λ id bytes q. all.finds id bytes (has.finds id bytes q) }) i v e;
}

pub validity_more : (n : Nullability) (rows : List Row) (few many : List (List ℕ)) (ls : List Layout) → Has (stored many) few → IsValidity n rows few ls → IsValidity n rows many ls
validity_more NonNullable rows few many [] has h = tt
validity_more NonNullable rows few many (l ∷ ls) has h = h
validity_more Nullable rows few many [] has h = h
validity_more Nullable rows few many (l ∷ []) has h = of_more (bool_type NonNullable) (given (validity rows)) few many l has h
validity_more Nullable rows few many (l ∷ m ∷ ls) has h = h

-- ---- the fields, one after the other
pub field_first : (xs : List (Name × DataType)) (i k : ℕ) (t : DataType) (rows : List Row) (segments : List (List ℕ)) (l : Layout) (ls : List Layout)
    → Some t ≡ slice_get (dtypes_of xs) i → IsOf t (map (field_at k) rows) segments l → AreFields (fields_of (drop (suc i) xs)) (suc k) rows segments ls
    → AreFields (fields_of (drop i xs)) k rows segments (l ∷ ls)
field_first [] i k t rows segments l ls e h r = absurd (none-some t (sym e))
field_first (x ∷ xs) zero k t rows segments l ls e h r = let s : t ≡ x.1 = cc in (subst (λ z. IsOf z (map (field_at k) rows) segments l) s h, r)
field_first (x ∷ xs) (suc i) k t rows segments l ls e h r = field_first xs i k t rows segments l ls e h r

-- behind the validity
pub children_of : (n : Nullability) (fs : Fields) (rows : List Row) (segments : List (List ℕ)) (first rest : List Layout)
    → IsValidity n rows segments first → AreFields fs 0 rows segments rest → AreChildren n fs rows segments (first ++ rest)
children_of NonNullable fs rows segments [] rest v h = h
children_of NonNullable fs rows segments (l ∷ ls) rest v h = absurd v
children_of Nullable fs rows segments [] rest v h = absurd v
children_of Nullable fs rows segments (l ∷ []) rest v h = (v, h)
children_of Nullable fs rows segments (l ∷ m ∷ ls) rest v h = absurd v

fields_rows : (fs : Fields) (k : ℕ) (rows : List Row) (segments : List (List ℕ)) (ls : List Layout) → AreFields fs k rows segments ls → AllHaveRows (length rows) (nodes ls)
fields_rows no_fields k rows segments [] h = tt
fields_rows no_fields k rows segments (l ∷ ls) h = absurd h
fields_rows (field name t fs) k rows segments [] h = absurd h
fields_rows (field name t fs) k rows segments (l ∷ ls) h = (h.0.size ∙ length-map rows (field_at k), fields_rows fs (suc k) rows segments ls h.1)

fields_form : (fs : Fields) (k : ℕ) (rows : List Row) (segments : List (List ℕ)) (ls : List Layout) → AreFields fs k rows segments ls → HaveForms (nodes ls) (dtypes_of (field_list fs))
fields_form no_fields k rows segments [] h = tt
fields_form no_fields k rows segments (l ∷ ls) h = absurd h
fields_form (field name t fs) k rows segments [] h = absurd h
fields_form (field name t fs) k rows segments (l ∷ ls) h = (h.0.form, fields_form fs (suc k) rows segments ls h.1)

zero_more : (j : ℕ) → 0 + j ≡ j
zero_more j = omega arith

pub given_length : (rows : List Row) → length (given (validity rows)) ≡ length rows
given_length rows = length-map (validity rows) Some ∙ length-map rows (λ r. bool_val (is_there r))

module _ (rows : List Row) (segments : List (List ℕ)) (store : Store) (has : Has store segments) (i : ℕ) where
  -- the validity of a row
  pub valid_at : (l : Layout) (v : Val) → IsOf (bool_type NonNullable) (given (validity rows)) segments l → slice_get rows i ≡ Some (Some v)
      → row_value l store i ≡ boolean (is_there (Some v))
  valid_at l v h e =
      let f : Row → Val = λ r. bool_val (is_there r) in
      h.gives store has i (bool_val (is_there (Some v))) (slice_get-map Some (validity rows) i ∙ ap (option_map Some) (slice_get-map f rows i ∙ ap (option_map f) e))

  fields_value : (whole : Vals) → slice_get rows i ≡ Some (Some (struct_val whole)) → (fs : Fields) (k : ℕ) (ls : List Layout) (vs : Vals)
      → AreFields fs k rows segments ls → fits_fields (marked_all vs) fs ≡ true → ((j m : ℕ) → m ≡ k + j → slice_get (parts_of whole) m ≡ slice_get (parts_of vs) j)
      → row_values (nodes ls) store i ≡ marked_all vs
  fields_value whole e no_fields k [] no_vals h f p = refl
  fields_value whole e no_fields k [] (val v vs) h f p = absurd cc
  fields_value whole e no_fields k (l ∷ ls) vs h f p = absurd h
  fields_value whole e (field name t fs) k [] vs h f p = absurd h
  fields_value whole e (field name t fs) k (l ∷ ls) no_vals h f p = absurd cc
  fields_value whole e (field name t fs) k (l ∷ ls) (val v vs) h f p =
      let here : slice_get (parts_of whole) k ≡ Some v = p 0 k (omega arith) in
      let row : slice_get (map (field_at k) rows) i ≡ Some (Some v) = slice_get-map (field_at k) rows i ∙ (ap (option_map (field_at k)) e ∙ ap Some here) in
      let rest = fields_value whole e fs (suc k) ls vs h.1 (and_parts (fits (marked v) t) (fits_fields (marked_all vs) fs) f).1 (λ j m q. p (suc j) m (omega (arith, q))) in
      ap₂ more (h.0.gives store has i v row) rest

  -- the value of a struct without nulls, and of one that may be null
  plain_value : (fs : Fields) (ls : List Layout) (v : Val) → slice_get rows i ≡ Some (Some v) → fits (marked v) (struct_type fs NonNullable) ≡ true
      → AreFields fs 0 rows segments ls → struct (row_values (nodes ls) store i) ≡ marked v
  plain_value fs ls null_val e f h = absurd cc
  plain_value fs ls (bool_val b) e f h = absurd cc
  plain_value fs ls (int_val z) e f h = absurd cc
  plain_value fs ls (text_val s) e f h = absurd cc
  plain_value fs ls (list_val vs) e f h = absurd cc
  plain_value fs ls (struct_val vs) e f h = ap struct (fields_value vs e fs 0 ls vs h f (λ j m q. ap (slice_get (parts_of vs)) (q ∙ zero_more j)))

  null_value : (fs : Fields) (l : Layout) (ls : List Layout) (v : Val) → slice_get rows i ≡ Some (Some v) → fits (marked v) (struct_type fs Nullable) ≡ true
      → IsOf (bool_type NonNullable) (given (validity rows)) segments l → AreFields fs 0 rows segments ls → under (row_value l store i) (struct (row_values (nodes ls) store i)) ≡ marked v
  null_value fs l ls null_val e f n h = ap (λ z. under z (struct (row_values (nodes ls) store i))) (valid_at l null_val n e)
  null_value fs l ls (bool_val b) e f n h = absurd cc
  null_value fs l ls (int_val z) e f n h = absurd cc
  null_value fs l ls (text_val s) e f n h = absurd cc
  null_value fs l ls (list_val vs) e f n h = absurd cc
  null_value fs l ls (struct_val vs) e f n h =
      ap (λ z. under z (struct (row_values (nodes ls) store i))) (valid_at l (struct_val vs) n e)
      ∙ ap struct (fields_value vs e fs 0 ls vs h f (λ j m q. ap (slice_get (parts_of vs)) (q ∙ zero_more j)))

-- structs of these children
pub struct_is : (n : Nullability) (fs : Fields) (rows : List Row) (segments : List (List ℕ)) (ls : List Layout) → AllOf (struct_type fs n) rows
    → AreChildren n fs rows segments ls → IsOf (struct_type fs n) rows segments (node (struct_type fs n) (length rows) Struct (nodes ls))
struct_is NonNullable fs rows segments ls f h = record {
  form = (refl, refl, fields_rows fs 0 rows segments ls h, fields_form fs 0 rows segments ls h);
  size = refl;
  gives = λ store has i v e. plain_value rows segments store has i fs ls v e (of_at (struct_type fs NonNullable) rows i v f e) h;
}
struct_is Nullable fs rows segments [] f h = absurd h
struct_is Nullable fs rows segments (l ∷ ls) f h = record {
  form = (refl, refl, (h.0.size ∙ given_length rows, fields_rows fs 0 rows segments ls h.1), (h.0.form, fields_form fs 0 rows segments ls h.1));
  size = refl;
  gives = λ store has i v e. null_value rows segments store has i fs l ls v e (of_at (struct_type fs Nullable) rows i v f e) h.0 h.1;
}
