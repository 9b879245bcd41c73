-- Expansion on a value of the struct itself. A nullable struct's fields count as nullable.
use Rattle.std.proofs.Common.{Some, ◌≡◌, ℕ, Bool, true, false, cond, List, [], ◌∷◌, refl, ap, sym, subst, ◌∙◌, bytes_eq}
use Rattle.scan_values.specs.DataType.{DataType, bool_type, int_type, utf8_type, list_type, struct_type, Fields, no_fields, field, Name, nullability_of, with_nullability, is_null_kind}
use Rattle.scan_values.specs.declared.ptype.Nullability.{Nullability}
use Rattle.scan_values.specs.declared.ptype.Nullability.TheVariants.{NonNullable, Nullable}
use Rattle.scan_values.specs.FieldLists.{dtype_named}
use Rattle.scan_expr.specs.Infer.{type_or_bool, field_type, struct_fields, either, infer_all, chosen, without, unary_type, sum_type, ptype_or_u64, binary_type}
use Rattle.scan_values.specs.NameFaults.{field_names, has_name}
use Rattle.scan_values.specs.declared.ptype.PType.TheVariants.{U64}
use Rattle.scan_values.specs.Marked.{Marked, lost, null, boolean, struct, Markeds, none, more}
use Rattle.scan_expr.specs.Eval.{eval_all, pick, pick_all, leave, of_struct, unary_value, binary_value, mask_value, not_value, null_test, length_value}
use Rattle.scan_expr.specs.Expr.{is_root, Expr, root, row_index, literal, unary, binary, pack, Parts, no_parts, part}
use Rattle.scan_partition.specs.Expand.{masked, items_of, expanded_fields, expanded_struct_root, null_root, here_root, expand_at, expand, expand_all}
use Rattle.scan_expr.specs.Needs.{other_names}
use Rattle.scan_expr.specs.declared.op.Unary.{Unary}
use Rattle.scan_expr.specs.declared.op.Unary.TheVariants.{GetItem, Select, Exclude, Not, IsNull, IsNotNull, ListLength}
use Rattle.scan_expr.specs.declared.op.Binary.{Binary}
use Rattle.scan_expr.specs.declared.op.Binary.TheVariants.{Mask, And, Or, Equal, NotEqual, Less, LessOrEqual, Greater, GreaterOrEqual, CheckedAdd, CheckedSub}
use Rattle.scan_values.specs.Kinds.{ptype_of}
use Rattle.scan_partition.proofs.Through.{Seen, SeenAll, seen, seen_all, seen_unary, seen_binary, seen_pack, seen_part}
use Rattle.scan_partition.proofs.Parted.{with_own}
use Rattle.scan_partition.specs.Rows.{Distinct, IsRow}
use Rattle.scan_partition.proofs.Expanded.{is_root-sound, root_fields, others_fields}

abbrev mutual
  -- a Nullable struct's fields made Nullable
  pub pushed : DataType → DataType
  pushed (bool_type n) = bool_type n
  pushed (int_type p n) = int_type p n
  pushed (utf8_type n) = utf8_type n
  pushed (list_type d n) = list_type d n
  pushed (struct_type fs NonNullable) = struct_type (pushed_all fs) NonNullable
  pushed (struct_type fs Nullable) = struct_type (nulled_all fs) Nullable

  pub pushed_all : Fields → Fields
  pushed_all no_fields = no_fields
  pushed_all (field n d fs) = field n (pushed d) (pushed_all fs)

  pub nulled : DataType → DataType
  nulled (bool_type n) = bool_type Nullable
  nulled (int_type p n) = int_type p Nullable
  nulled (utf8_type n) = utf8_type Nullable
  nulled (list_type d n) = list_type d Nullable
  nulled (struct_type fs n) = struct_type (nulled_all fs) Nullable

  pub nulled_all : Fields → Fields
  nulled_all no_fields = no_fields
  nulled_all (field n d fs) = field n (nulled d) (nulled_all fs)

nulled-with : (m : Nullability) (d : DataType) → nulled (with_nullability m d) ≡ nulled d
nulled-with m (bool_type n) = refl
nulled-with m (int_type p n) = refl
nulled-with m (utf8_type n) = refl
nulled-with m (list_type d n) = refl
nulled-with m (struct_type fs n) = refl

pushed-null : (d : DataType) → pushed (with_nullability Nullable d) ≡ nulled d
pushed-null (bool_type n) = refl
pushed-null (int_type p n) = refl
pushed-null (utf8_type n) = refl
pushed-null (list_type d n) = refl
pushed-null (struct_type fs n) = refl

null_nulled : (d : DataType) → with_nullability Nullable (nulled d) ≡ nulled d
null_nulled (bool_type n) = refl
null_nulled (int_type p n) = refl
null_nulled (utf8_type n) = refl
null_nulled (list_type d n) = refl
null_nulled (struct_type fs n) = refl

mutual
  nulled-nulled : (d : DataType) → nulled (nulled d) ≡ nulled d
  nulled-nulled (bool_type n) = refl
  nulled-nulled (int_type p n) = refl
  nulled-nulled (utf8_type n) = refl
  nulled-nulled (list_type d n) = refl
  nulled-nulled (struct_type fs n) = λ i. struct_type (nulled_all-nulled_all fs i) Nullable

  nulled_all-nulled_all : (fs : Fields) → nulled_all (nulled_all fs) ≡ nulled_all fs
  nulled_all-nulled_all no_fields = refl
  nulled_all-nulled_all (field n d fs) = λ i. field n (nulled-nulled d i) (nulled_all-nulled_all fs i)

mutual
  nulled-pushed : (d : DataType) → nulled (pushed d) ≡ nulled d
  nulled-pushed (bool_type n) = refl
  nulled-pushed (int_type p n) = refl
  nulled-pushed (utf8_type n) = refl
  nulled-pushed (list_type d n) = refl
  nulled-pushed (struct_type fs NonNullable) = λ i. struct_type (nulled_all-pushed_all fs i) Nullable
  nulled-pushed (struct_type fs Nullable) = λ i. struct_type (nulled_all-nulled_all fs i) Nullable

  nulled_all-pushed_all : (fs : Fields) → nulled_all (pushed_all fs) ≡ nulled_all fs
  nulled_all-pushed_all no_fields = refl
  nulled_all-pushed_all (field n d fs) = λ i. field n (nulled-pushed d i) (nulled_all-pushed_all fs i)

pub nullability_of-pushed : (d : DataType) → nullability_of (pushed d) ≡ nullability_of d
nullability_of-pushed (bool_type n) = refl
nullability_of-pushed (int_type p n) = refl
nullability_of-pushed (utf8_type n) = refl
nullability_of-pushed (list_type d n) = refl
nullability_of-pushed (struct_type fs NonNullable) = refl
nullability_of-pushed (struct_type fs Nullable) = refl

ptype_of-pushed : (d : DataType) → ptype_of (pushed d) ≡ ptype_of d
ptype_of-pushed (bool_type n) = refl
ptype_of-pushed (int_type p n) = refl
ptype_of-pushed (utf8_type n) = refl
ptype_of-pushed (list_type d n) = refl
ptype_of-pushed (struct_type fs NonNullable) = refl
ptype_of-pushed (struct_type fs Nullable) = refl

field_type-pushed : (n : Name) (fs : Fields) → field_type n (pushed_all fs) ≡ pushed (field_type n fs)
field_type-pushed n no_fields = refl
field_type-pushed n (field m d fs) = go (bytes_eq n m) (field_type-pushed n fs)
  where
    go : (b : Bool) → field_type n (pushed_all fs) ≡ pushed (field_type n fs) → type_or_bool (cond b (Some (pushed d)) (dtype_named n (pushed_all fs))) ≡ pushed (type_or_bool (cond b (Some d) (dtype_named n fs)))
    go true h = refl
    go false h = h

field_type-nulled : (n : Name) (fs : Fields) → field_type n (nulled_all fs) ≡ nulled (field_type n fs)
field_type-nulled n no_fields = refl
field_type-nulled n (field m d fs) = go (bytes_eq n m) (field_type-nulled n fs)
  where
    go : (b : Bool) → field_type n (nulled_all fs) ≡ nulled (field_type n fs) → type_or_bool (cond b (Some (nulled d)) (dtype_named n (nulled_all fs))) ≡ nulled (type_or_bool (cond b (Some d) (dtype_named n fs)))
    go true h = refl
    go false h = h

chosen-pushed : (ns : List Name) (fs : Fields) → chosen ns (pushed_all fs) ≡ pushed_all (chosen ns fs)
chosen-pushed [] fs = refl
chosen-pushed (n ∷ ns) fs = λ i. field n (field_type-pushed n fs i) (chosen-pushed ns fs i)

chosen-nulled : (ns : List Name) (fs : Fields) → chosen ns (nulled_all fs) ≡ nulled_all (chosen ns fs)
chosen-nulled [] fs = refl
chosen-nulled (n ∷ ns) fs = λ i. field n (field_type-nulled n fs i) (chosen-nulled ns fs i)

without-pushed : (ns : List Name) (fs : Fields) → without ns (pushed_all fs) ≡ pushed_all (without ns fs)
without-pushed ns no_fields = refl
without-pushed ns (field m d fs) = go (has_name m ns) (without-pushed ns fs)
  where
    go : (b : Bool) → without ns (pushed_all fs) ≡ pushed_all (without ns fs) → cond b (without ns (pushed_all fs)) (field m (pushed d) (without ns (pushed_all fs))) ≡ pushed_all (cond b (without ns fs) (field m d (without ns fs)))
    go true h = h
    go false h = ap (field m (pushed d)) h

without-nulled : (ns : List Name) (fs : Fields) → without ns (nulled_all fs) ≡ nulled_all (without ns fs)
without-nulled ns no_fields = refl
without-nulled ns (field m d fs) = go (has_name m ns) (without-nulled ns fs)
  where
    go : (b : Bool) → without ns (nulled_all fs) ≡ nulled_all (without ns fs) → cond b (without ns (nulled_all fs)) (field m (nulled d) (without ns (nulled_all fs))) ≡ nulled_all (cond b (without ns fs) (field m d (without ns fs)))
    go true h = h
    go false h = ap (field m (nulled d)) h

-- ---- what an operator does sees no more of a dtype
twice : (t : DataType) → with_nullability Nullable (with_nullability Nullable t) ≡ with_nullability Nullable t
twice (bool_type n) = refl
twice (int_type p n) = refl
twice (utf8_type n) = refl
twice (list_type d n) = refl
twice (struct_type fs n) = refl

get_pushed : (n : Name) (d : DataType) → pushed (unary_type (GetItem n) d) ≡ unary_type (GetItem n) (pushed d)
get_pushed n (bool_type NonNullable) = refl
get_pushed n (bool_type Nullable) = refl
get_pushed n (int_type p NonNullable) = refl
get_pushed n (int_type p Nullable) = refl
get_pushed n (utf8_type NonNullable) = refl
get_pushed n (utf8_type Nullable) = refl
get_pushed n (list_type e NonNullable) = refl
get_pushed n (list_type e Nullable) = refl
get_pushed n (struct_type fs NonNullable) = ap pushed (with_own (field_type n fs)) ∙ sym (field_type-pushed n fs) ∙ sym (with_own (field_type n (pushed_all fs)))
get_pushed n (struct_type fs Nullable) = pushed-null (field_type n fs) ∙ sym (null_nulled (field_type n fs)) ∙ ap (with_nullability Nullable) (sym (field_type-nulled n fs))

chosen_nothing : (ns : List Name) (n : Nullability) → pushed (struct_type (chosen ns no_fields) n) ≡ struct_type (chosen ns no_fields) n
chosen_nothing ns NonNullable = λ i. struct_type (sym (chosen-pushed ns no_fields) i) NonNullable
chosen_nothing ns Nullable = λ i. struct_type (sym (chosen-nulled ns no_fields) i) Nullable

no_fields_pushed : (n : Nullability) → pushed (struct_type no_fields n) ≡ struct_type no_fields n
no_fields_pushed NonNullable = refl
no_fields_pushed Nullable = refl

select_pushed : (ns : List Name) (d : DataType) → pushed (unary_type (Select ns) d) ≡ unary_type (Select ns) (pushed d)
select_pushed ns (struct_type fs NonNullable) = λ i. struct_type (sym (chosen-pushed ns fs) i) NonNullable
select_pushed ns (struct_type fs Nullable) = λ i. struct_type (sym (chosen-nulled ns fs) i) Nullable
select_pushed ns (bool_type n) = chosen_nothing ns n
select_pushed ns (int_type p n) = chosen_nothing ns n
select_pushed ns (utf8_type n) = chosen_nothing ns n
select_pushed ns (list_type e n) = chosen_nothing ns n

exclude_pushed : (ns : List Name) (d : DataType) → pushed (unary_type (Exclude ns) d) ≡ unary_type (Exclude ns) (pushed d)
exclude_pushed ns (struct_type fs NonNullable) = λ i. struct_type (sym (without-pushed ns fs) i) NonNullable
exclude_pushed ns (struct_type fs Nullable) = λ i. struct_type (sym (without-nulled ns fs) i) Nullable
exclude_pushed ns (bool_type n) = no_fields_pushed n
exclude_pushed ns (int_type p n) = no_fields_pushed n
exclude_pushed ns (utf8_type n) = no_fields_pushed n
exclude_pushed ns (list_type e n) = no_fields_pushed n

unary_pushed : (u : Unary) (d : DataType) → pushed (unary_type u d) ≡ unary_type u (pushed d)
unary_pushed (GetItem n) d = get_pushed n d
unary_pushed (Select ns) d = select_pushed ns d
unary_pushed (Exclude ns) d = exclude_pushed ns d
unary_pushed Not d = ap bool_type (sym (nullability_of-pushed d))
unary_pushed IsNull d = refl
unary_pushed IsNotNull d = refl
unary_pushed ListLength d = ap (int_type U64) (sym (nullability_of-pushed d))

-- fields of the same names
abbrev pub Named : Fields → Fields → Type 0
Named no_fields no_fields = Unit {0}
Named no_fields (field n d fs) = ⊥
Named (field m e gs) no_fields = ⊥
Named (field m e gs) (field n d fs) = (m ≡ n) × Named gs fs

named-pushed : (fs : Fields) → Named (pushed_all fs) fs
named-pushed no_fields = tt
named-pushed (field n d fs) = (refl, named-pushed fs)

named-nulled : (fs : Fields) → Named (nulled_all fs) fs
named-nulled no_fields = tt
named-nulled (field n d fs) = (refl, named-nulled fs)

named_struct : (d : DataType) → Named (struct_fields (pushed d)) (struct_fields d)
named_struct (bool_type n) = tt
named_struct (int_type p n) = tt
named_struct (utf8_type n) = tt
named_struct (list_type e n) = tt
named_struct (struct_type fs NonNullable) = named-pushed fs
named_struct (struct_type fs Nullable) = named-nulled fs

pub pick_named : (n : Name) (gs fs : Fields) (ms : Markeds) → Named gs fs → pick n gs ms ≡ pick n fs ms
pick_named n no_fields no_fields ms h = refl
pick_named n no_fields (field m d fs) ms h = absurd h
pick_named n (field m e gs) no_fields ms h = absurd h
pick_named n (field m e gs) (field l d fs) none h = refl
pick_named n (field m e gs) (field l d fs) (more v vs) h = λ i. cond (bytes_eq n (h.0 i)) v (pick_named n gs fs vs h.1 i)

pub pick_all_named : (ns : List Name) (gs fs : Fields) (ms : Markeds) → Named gs fs → pick_all ns gs ms ≡ pick_all ns fs ms
pick_all_named [] gs fs ms h = refl
pick_all_named (n ∷ ns) gs fs ms h = λ i. more (pick_named n gs fs ms h i) (pick_all_named ns gs fs ms h i)

pub leave_named : (ns : List Name) (gs fs : Fields) (ms : Markeds) → Named gs fs → leave ns gs ms ≡ leave ns fs ms
leave_named ns no_fields no_fields ms h = refl
leave_named ns no_fields (field m d fs) ms h = absurd h
leave_named ns (field m e gs) no_fields ms h = absurd h
leave_named ns (field m e gs) (field l d fs) none h = refl
leave_named ns (field m e gs) (field l d fs) (more v vs) h = λ i. cond (has_name (h.0 i) ns) (leave_named ns gs fs vs h.1 i) (more v (leave_named ns gs fs vs h.1 i))

pub of_struct_same : (f g : Markeds → Marked) (m : Marked) → ((ms : Markeds) → f ms ≡ g ms) → of_struct f m ≡ of_struct g m
of_struct_same f g m h = λ i. of_struct (λ ms. h ms i) m

value_pushed : (u : Unary) (d : DataType) (m : Marked) → unary_value u (pushed d) m ≡ unary_value u d m
value_pushed (GetItem n) d m = of_struct_same _ _ m (λ ms. pick_named n _ _ ms (named_struct d))
value_pushed (Select ns) d m = of_struct_same _ _ m (λ ms. ap struct (pick_all_named ns _ _ ms (named_struct d)))
value_pushed (Exclude ns) d m = of_struct_same _ _ m (λ ms. ap struct (leave_named ns _ _ ms (named_struct d)))
value_pushed Not d m = λ i. not_value (nullability_of-pushed d i) m
value_pushed IsNull d m = λ i. cond (is_null_kind (nullability_of-pushed d i)) (null_test true m) (boolean false)
value_pushed IsNotNull d m = λ i. cond (is_null_kind (nullability_of-pushed d i)) (null_test false m) (boolean true)
value_pushed ListLength d m = λ i. length_value (nullability_of-pushed d i) m

-- ---- alike: the same value, of dtypes that differ in a nullable struct's fields at most
pub record Like (x y : Seen) : Type 0 where
  pub dtype : pushed x.0 ≡ pushed y.0
  pub value : x.1 ≡ y.1

pub record LikeAll (x y : SeenAll) : Type 0 where
  pub dtypes : pushed_all x.0 ≡ pushed_all y.0
  pub nulled_dtypes : nulled_all x.0 ≡ nulled_all y.0
  pub values : x.1 ≡ y.1

like_refl : (x : Seen) → Like x x
like_refl x = record { dtype = refl; value = refl }

like_eq : (x y z : Seen) → Like x y → y ≡ z → Like x z
like_eq x y z h e = subst (Like x) e h

like_unary : (u : Unary) (x y : Seen) → Like x y → Like (seen_unary u x) (seen_unary u y)
like_unary u x y h = record {
  dtype = unary_pushed u x.0 ∙ ap (unary_type u) h.dtype ∙ sym (unary_pushed u y.0);
  value = sym (value_pushed u x.0 x.1) ∙ (λ i. unary_value u (h.dtype i) (h.value i)) ∙ value_pushed u y.0 y.1;
}

like_null : (x y : Seen) → Like x y → nullability_of x.0 ≡ nullability_of y.0
like_null x y h = sym (nullability_of-pushed x.0) ∙ ap nullability_of h.dtype ∙ nullability_of-pushed y.0

pub like_ptype : (x y : Seen) → Like x y → ptype_of x.0 ≡ ptype_of y.0
like_ptype x y h = sym (ptype_of-pushed x.0) ∙ ap ptype_of h.dtype ∙ ptype_of-pushed y.0

pub like_sum : (x y z w : Seen) → Like x y → Like z w → sum_type x.0 z.0 ≡ sum_type y.0 w.0
like_sum x y z w h g = λ i. int_type (ptype_or_u64 (like_ptype x y h i)) (either (like_null x y h i) (like_null z w g i))

mask_type_like : (x y : Seen) → Like x y → pushed (with_nullability Nullable x.0) ≡ pushed (with_nullability Nullable y.0)
mask_type_like x y h = pushed-null x.0 ∙ sym (nulled-pushed x.0) ∙ ap nulled h.dtype ∙ nulled-pushed y.0 ∙ sym (pushed-null y.0)

like_binary : (b : Binary) (x y z w : Seen) → Like x y → Like z w → Like (seen_binary b x z) (seen_binary b y w)
like_binary b x y z w h g = record {
  dtype = type_like b;
  value = value_like b;
}
  where
    logic : bool_type (either (nullability_of x.0) (nullability_of z.0)) ≡ bool_type (either (nullability_of y.0) (nullability_of w.0))
    logic = λ i. bool_type (either (like_null x y h i) (like_null z w g i))

    sums : sum_type x.0 z.0 ≡ sum_type y.0 w.0
    sums = like_sum x y z w h g

    type_like : (b : Binary) → pushed (binary_type b x.0 z.0) ≡ pushed (binary_type b y.0 w.0)
    type_like Mask = mask_type_like x y h
    type_like And = logic
    type_like Or = logic
    type_like Equal = logic
    type_like NotEqual = logic
    type_like Less = logic
    type_like LessOrEqual = logic
    type_like Greater = logic
    type_like GreaterOrEqual = logic
    type_like CheckedAdd = sums
    type_like CheckedSub = sums

    value_like : (b : Binary) → binary_value b (binary_type b x.0 z.0) x.1 z.1 ≡ binary_value b (binary_type b y.0 w.0) y.1 w.1
    value_like Mask = λ i. mask_value (h.value i) (g.value i)
    value_like And = λ i. binary_value And (logic i) (h.value i) (g.value i)
    value_like Or = λ i. binary_value Or (logic i) (h.value i) (g.value i)
    value_like Equal = λ i. binary_value Equal (logic i) (h.value i) (g.value i)
    value_like NotEqual = λ i. binary_value NotEqual (logic i) (h.value i) (g.value i)
    value_like Less = λ i. binary_value Less (logic i) (h.value i) (g.value i)
    value_like LessOrEqual = λ i. binary_value LessOrEqual (logic i) (h.value i) (g.value i)
    value_like Greater = λ i. binary_value Greater (logic i) (h.value i) (g.value i)
    value_like GreaterOrEqual = λ i. binary_value GreaterOrEqual (logic i) (h.value i) (g.value i)
    value_like CheckedAdd = λ i. binary_value CheckedAdd (sums i) (h.value i) (g.value i)
    value_like CheckedSub = λ i. binary_value CheckedSub (sums i) (h.value i) (g.value i)

like_pack : (n : Nullability) (x y : SeenAll) → LikeAll x y → Like (seen_pack n x) (seen_pack n y)
like_pack n x y h = record { dtype = go n; value = ap struct h.values }
  where
    go : (n : Nullability) → pushed (struct_type x.0 n) ≡ pushed (struct_type y.0 n)
    go NonNullable = ap (λ fs. struct_type fs NonNullable) h.dtypes
    go Nullable = ap (λ fs. struct_type fs Nullable) h.nulled_dtypes

like_part : (n : Name) (x y : Seen) (z w : SeenAll) → Like x y → LikeAll z w → LikeAll (seen_part n x z) (seen_part n y w)
like_part n x y z w h g = record {
  dtypes = λ i. field n (h.dtype i) (g.dtypes i);
  nulled_dtypes = λ i. field n ((sym (nulled-pushed x.0) ∙ ap nulled h.dtype ∙ nulled-pushed y.0) i) (g.nulled_dtypes i);
  values = λ i. more (h.value i) (g.values i);
}

-- ---- `$` over the struct itself
got_here : (fs : Fields) (ns : List Name) → infer_all (struct_type fs NonNullable) (items_of ns) ≡ chosen ns fs
got_here fs [] = refl
got_here fs (n ∷ ns) = λ i. field n (with_own (field_type n fs) i) (got_here fs ns i)

got_null : (fs : Fields) (ns : List Name) → nulled_all (infer_all (struct_type fs Nullable) (items_of ns)) ≡ nulled_all (chosen ns fs)
got_null fs [] = refl
got_null fs (n ∷ ns) = λ i. field n (nulled-with Nullable (field_type n fs) i) (got_null fs ns i)

values_here : (fs : Fields) (n : Nullability) (ms : Markeds) (k : ℕ) (ns : List Name) → eval_all (struct_type fs n) (items_of ns) (struct ms) k ≡ pick_all ns fs ms
values_here fs n ms k [] = refl
values_here fs n ms k (m ∷ ns) = ap (more (pick m fs ms)) (values_here fs n ms k ns)

fields_like : (fs : Fields) (n : Nullability) (v : Marked) (k : ℕ) (ns : List Name) → IsRow fs n v → Like (seen (struct_type fs n) v k (expanded_fields n ns)) (seen_unary (Select ns) (struct_type fs n, v))
fields_like fs NonNullable (struct ms) k ns a = record { dtype = ap (λ gs. pushed (struct_type gs NonNullable)) (got_here fs ns); value = ap struct (values_here fs NonNullable ms k ns) }
fields_like fs Nullable (struct ms) k ns a = record { dtype = ap (λ gs. struct_type gs Nullable) (got_null fs ns); value = ap struct (values_here fs Nullable ms k ns) }
fields_like fs Nullable null k ns a = record { dtype = ap (λ gs. struct_type gs Nullable) (got_null fs ns); value = refl }
fields_like fs Nullable lost k ns a = record { dtype = ap (λ gs. struct_type gs Nullable) (got_null fs ns); value = refl }
fields_like fs n v k ns a = absurd a

get_like : (fs : Fields) (n : Nullability) (v : Marked) (k : ℕ) (f : Name) → IsRow fs n v → Like (seen (struct_type fs n) v k (masked n (unary (GetItem f) root))) (seen_unary (GetItem f) (struct_type fs n, v))
get_like fs NonNullable v k f a = like_refl _
get_like fs Nullable (struct ms) k f a = record { dtype = ap pushed (twice (field_type f fs)); value = refl }
get_like fs Nullable null k f a = record { dtype = ap pushed (twice (field_type f fs)); value = refl }
get_like fs Nullable lost k f a = record { dtype = ap pushed (twice (field_type f fs)); value = refl }
get_like fs Nullable v k f a = absurd a

null_like : (fs : Fields) (n : Nullability) (v : Marked) (k : ℕ) → IsRow fs n v → Like (seen (struct_type fs n) v k (null_root n)) (seen_unary IsNull (struct_type fs n, v))
null_like fs NonNullable v k a = like_refl _
null_like fs Nullable (struct ms) k a = like_refl _
null_like fs Nullable null k a = like_refl _
null_like fs Nullable lost k a = like_refl _
null_like fs Nullable v k a = absurd a

not_null_like : (fs : Fields) (n : Nullability) (v : Marked) (k : ℕ) → IsRow fs n v → Like (seen (struct_type fs n) v k (here_root n)) (seen_unary IsNotNull (struct_type fs n, v))
not_null_like fs NonNullable v k a = like_refl _
not_null_like fs Nullable v k a = like_refl _

module _ (fs : Fields) (n : Nullability) (v : Marked) (k : ℕ) (d : Distinct fs) (a : IsRow fs n v) where
  root_own : seen_unary (Select (field_names fs)) (struct_type fs n, v) ≡ (struct_type fs n, v)
  root_own = root_fields fs n v d a

  others_own : (ns : List Name) → seen_unary (Select (other_names ns fs)) (struct_type fs n, v) ≡ seen_unary (Exclude ns) (struct_type fs n, v)
  others_own ns = others_fields fs ns n v d a

  root_like : Like (seen (struct_type fs n) v k (expanded_struct_root (struct_type fs n))) (struct_type fs n, v)
  root_like = like_eq _ _ _ (fields_like fs n v k (field_names fs) a) root_own

  at_root_like : (u : Unary) → Like (seen (struct_type fs n) v k (expand_at (struct_type fs n) u)) (seen_unary u (struct_type fs n, v))
  at_root_like (GetItem f) = get_like fs n v k f a
  at_root_like (Select ns) = fields_like fs n v k ns a
  at_root_like (Exclude ns) = like_eq _ _ _ (fields_like fs n v k (other_names ns fs) a) (others_own ns)
  at_root_like Not = like_unary Not _ _ root_like
  at_root_like IsNull = null_like fs n v k a
  at_root_like IsNotNull = not_null_like fs n v k a
  at_root_like ListLength = like_unary ListLength _ _ root_like

  mutual
    pub expand_like : (e : Expr) → Like (seen (struct_type fs n) v k (expand (struct_type fs n) e)) (seen (struct_type fs n) v k e)
    expand_like root = root_like
    expand_like row_index = like_refl _
    expand_like (literal t m) = like_refl _
    expand_like (unary u e) = go (is_root e) (is_root-sound e) (expand_like e)
      where
        go : (b : Bool) → (b ≡ true → e ≡ root) → Like (seen (struct_type fs n) v k (expand (struct_type fs n) e)) (seen (struct_type fs n) v k e)
            → Like (seen (struct_type fs n) v k (cond b (expand_at (struct_type fs n) u) (unary u (expand (struct_type fs n) e)))) (seen_unary u (seen (struct_type fs n) v k e))
        go true h p = like_eq _ _ _ (at_root_like u) (ap (λ x. seen_unary u (seen (struct_type fs n) v k x)) (sym (h refl)))
        go false h p = like_unary u _ _ p
    expand_like (binary b x y) = like_binary b _ _ _ _ (expand_like x) (expand_like y)
    expand_like (pack ps m) = like_pack m _ _ (expand_all_like ps)

    pub expand_all_like : (ps : Parts) → LikeAll (seen_all (struct_type fs n) v k (expand_all (struct_type fs n) ps)) (seen_all (struct_type fs n) v k ps)
    expand_all_like no_parts = record { dtypes = refl; nulled_dtypes = refl; values = refl }
    expand_all_like (part m e ps) = like_part m _ _ _ _ (expand_like e) (expand_all_like ps)
