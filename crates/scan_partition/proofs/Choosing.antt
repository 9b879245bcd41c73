-- The fields that an expression chooses, read where they stand, are its value.
use Rattle.std.proofs.Common.{◌≡◌, ℕ, ◌+◌, ◌<◌, suc, Bool, true, false, cond, not, ◌||◌, List, [], ◌∷◌, length, map, zip, get_or, Option, Some, None, refl, ap, sym, subst, ◌∙◌, arith, bytes_eq}
use Rattle.std.specs.Prelude.{option_map}
use Rattle.std.specs.List.{AllByRecursion}
use Rattle.std.proofs.lemmas.List.Elements.{All-from_recursion}
use Rattle.std.proofs.lemmas.Slice.Eq.{bytes_eq-Decides}
use Rattle.scan_values.specs.DataType.{DataType, bool_type, struct_type, Fields, no_fields, field, field_list, fields_of, Name, nullability_of}
use Rattle.scan_values.specs.FieldLists.{dtypes_of, dtype_named}
use Rattle.scan_values.specs.NameFaults.{field_names, has_name}
use Rattle.scan_values.specs.declared.ptype.Nullability.{Nullability}
use Rattle.scan_values.specs.declared.ptype.Nullability.TheVariants.{NonNullable, Nullable}
use Rattle.scan_values.specs.Marked.{Marked, lost, null, gone, boolean, integer, text, list, struct, Markeds, more, chained}
use Rattle.scan_expr.specs.Bound.{Bound, bound_of}
use Rattle.scan_expr.specs.Infer.{struct_fields, field_type, type_or_bool}
use Rattle.scan_expr.specs.Eval.{eval, pick}
use Rattle.scan_expr.specs.Expr.{is_root, Expr, root, row_index, literal, unary, binary, pack, Parts, no_parts, part}
use Rattle.scan_expr.specs.declared.op.Unary.{Unary}
use Rattle.scan_expr.specs.declared.op.Unary.TheVariants.{GetItem, Select, Exclude, Not, IsNull, IsNotNull, ListLength}
use Rattle.scan_partition.specs.declared.item.Item.{Item}
use Rattle.scan_partition.specs.declared.item.Item.TheVariants.{Field}
use Rattle.scan_partition.specs.declared.struct_.Partitioned.TheVariants.{Direct}
use Rattle.scan_partition.specs.Items.{root_item}
use Rattle.scan_partition.specs.Rows.{Distinct, IsRow, Agrees}
use Rattle.scan_partition.specs.Found.{NamesFound, AllNamesFound, FoundAt, FoundBy, AllFound}
use Rattle.scan_partition.specs.Conditions.{IsOverStruct}
use Rattle.scan_partition.specs.Direct.{Choice, same_names, field_item, field_of, chose, direct_parts, direct_at, if_here, direct, chosen_directly, chosen_types, chosen_values, Projection, place, projected}
use Rattle.scan_partition.specs.Split.{name_at, type_at, projected_value, KeepsWhole}
use Rattle.scan_partition.proofs.StructOverflows.{direct_calm}
use Rattle.scan_partition.proofs.Through.{Seen}
use Rattle.scan_partition.proofs.Expanded.{blank, blank-even}
use Rattle.scan_partition.proofs.Directly.{direct_is}

some_inj : {A : Type 0} {x y : A} → Some x ≡ Some y → x ≡ y
some_inj h = cc

-- ---- each field that is chosen is there
abbrev pub AreThere : Fields → Choice → Type 0
AreThere fs [] = Unit {0}
AreThere fs (c ∷ cs) = (has_name c.1 (field_names fs) ≡ true) × AreThere fs cs

abbrev Among : List Name → List Name → Type 0
Among ms [] = Unit {0}
Among ms (n ∷ ns) = (has_name n ms ≡ true) × Among ms ns

or_true : (a b : Bool) → b ≡ true → (a || b) ≡ true
or_true true b h = refl
or_true false b h = h

among_more : (m : Name) (ms ns : List Name) → Among ms ns → Among (m ∷ ms) ns
among_more m ms [] a = tt
among_more m ms (n ∷ ns) a = (or_true (bytes_eq n m) (has_name n ms) a.0, among_more m ms ns a.1)

among_all : (ns : List Name) → Among ns ns
among_all [] = tt
among_all (n ∷ ns) = (ap (λ b. b || has_name n ns) ((bytes_eq-Decides n n).1 refl), among_more n ns ns (among_all ns))

module _ (fs : Fields) where
  same_there : (ns : List Name) → Among (field_names fs) ns → AreThere fs (same_names ns)
  same_there [] a = tt
  same_there (n ∷ ns) a = (a.0, same_there ns a.1)

  found_there : (ns : List Name) → AllFound fs ns → AreThere fs (same_names ns)
  found_there [] a = tt
  found_there (n ∷ ns) a = (a.0, found_there ns a.1)

  at_root_there : (u : Unary) (b : Bool) (f : Name) → field_item (cond b (root_item u) None) ≡ Some f → FoundAt b (FoundBy fs u) → has_name f (field_names fs) ≡ true
  at_root_there (GetItem n) true f h a = subst (λ m. has_name m (field_names fs) ≡ true) (some_inj h) a
  at_root_there (Select ns) true f h a = cc
  at_root_there (Exclude ns) true f h a = cc
  at_root_there Not true f h a = cc
  at_root_there IsNull true f h a = cc
  at_root_there IsNotNull true f h a = cc
  at_root_there ListLength true f h a = cc
  at_root_there u false f h a = cc

  field_there : (e : Expr) (f : Name) → field_of e ≡ Some f → NamesFound fs e → has_name f (field_names fs) ≡ true
  field_there root f h a = cc
  field_there row_index f h a = cc
  field_there (literal d v) f h a = cc
  field_there (unary u e) f h a = at_root_there u (is_root e) f h a.0
  field_there (binary b x y) f h a = cc
  field_there (pack ps n) f h a = cc

  parts_there : (ps : Parts) (c : Choice) → direct_parts ps ≡ Some c → AllNamesFound fs ps → AreThere fs c
  parts_there no_parts c h a = subst (AreThere fs) (some_inj h) tt
  parts_there (part n e ps) c h a = go (field_of e) (direct_parts ps) (λ f q. field_there e f q a.0) (λ d q. parts_there ps d q a.1) h
    where
      go : (o : Option Name) (p : Option Choice) → ((f : Name) → o ≡ Some f → has_name f (field_names fs) ≡ true) → ((d : Choice) → p ≡ Some d → AreThere fs d) → chose n o p ≡ Some c → AreThere fs c
      go None p f g h = cc
      go (Some x) None f g h = cc
      go (Some x) (Some d) f g h = subst (AreThere fs) (some_inj h) (f x refl, g d refl)

  select_there : (u : Unary) (b : Bool) (c : Choice) → cond b (direct_at u) None ≡ Some c → FoundAt b (FoundBy fs u) → AreThere fs c
  select_there (GetItem n) true c h a = cc
  select_there (Select ns) true c h a = subst (AreThere fs) (some_inj h) (found_there ns a)
  select_there (Exclude ns) true c h a = cc
  select_there Not true c h a = cc
  select_there IsNull true c h a = cc
  select_there IsNotNull true c h a = cc
  select_there ListLength true c h a = cc
  select_there u false c h a = cc

  pub direct_there : (e : Expr) (c : Choice) → direct fs e ≡ Some c → NamesFound fs e → AreThere fs c
  direct_there root c h a = subst (AreThere fs) (some_inj h) (same_there (field_names fs) (among_all (field_names fs)))
  direct_there row_index c h a = cc
  direct_there (literal d v) c h a = cc
  direct_there (unary u e) c h a = select_there u (is_root e) c h a.0
  direct_there (binary b x y) c h a = cc
  direct_there (pack ps NonNullable) c h a = parts_there ps c h a
  direct_there (pack ps Nullable) c h a = cc

-- ---- where a field stands
abbrev pub Stands : Fields → Name → ℕ → Type 0
Stands fs n k = (k < length (field_names fs)) × (name_at fs k ≡ n) × (type_at fs k ≡ field_type n fs)

pub stands : (fs : Fields) (n : Name) → has_name n (field_names fs) ≡ true → Stands fs n (place fs n)
stands no_fields n h = cc
stands (field m d fs) n h = go (bytes_eq n m) (bytes_eq-Decides n m).0 h (stands fs n)
  where
    go : (b : Bool) → (b ≡ true → n ≡ m) → (b || has_name n (field_names fs)) ≡ true → (has_name n (field_names fs) ≡ true → Stands fs n (place fs n))
        → (cond (not b) (1 + place fs n) 0 < suc (length (field_names fs))) × (get_or (m ∷ field_names fs) (cond (not b) (1 + place fs n) 0) [] ≡ n) × (get_or (d ∷ dtypes_of (field_list fs)) (cond (not b) (1 + place fs n) 0) (bool_type Nullable) ≡ type_or_bool (cond b (Some d) (dtype_named n fs)))
    go true e h f = (omega arith, sym (e refl), refl)
    go false e h f =
        let s = f h in
        let q : suc (place fs n) ≡ 1 + place fs n = omega arith in (
          omega (arith, s.0),
          subst (λ k. get_or (m ∷ field_names fs) k [] ≡ n) q s.1,
          subst (λ k. get_or (d ∷ dtypes_of (field_list fs)) k (bool_type Nullable) ≡ field_type n fs) q s.2,
        )

places_within : (fs : Fields) (c : Choice) → AreThere fs c → AllByRecursion (λ i. i < length (field_names fs)) (map (λ (x : Name × Name). place fs x.1) c)
places_within fs [] a = tt
places_within fs (x ∷ xs) a = ((stands fs x.1 a.0).0, places_within fs xs a.1)

types_are : (fs : Fields) (c : Choice) → AreThere fs c → fields_of (zip (map (λ (x : Name × Name). x.0) c) (map (type_at fs) (map (λ (x : Name × Name). place fs x.1) c))) ≡ chosen_types c fs
types_are fs [] a = refl
types_are fs (x ∷ xs) a = λ i. field x.0 ((stands fs x.1 a.0).2 i) (types_are fs xs a.1 i)

values_are : (fs : Fields) (ms : Markeds) (w : Item → Marked) (c : Choice) → AreThere fs c → ((f : Name) → w (Field f) ≡ pick f fs ms) → chained (map (λ i. w (Field (name_at fs i))) (map (λ (x : Name × Name). place fs x.1) c)) ≡ chosen_values c fs ms
values_are fs ms w [] a g = refl
values_are fs ms w (x ∷ xs) a g = λ i. more ((ap (λ n. w (Field n)) (stands fs x.1 a.0).1 ∙ g x.1) i) (values_are fs ms w xs a.1 g i)

-- ---- the whole
module _ (fs : Fields) (e : Expr) (c : Choice) (d : Distinct fs) (found : NamesFound fs e) (h : direct fs e ≡ Some c) where
  there : AreThere fs c
  there = direct_there fs e c h found

  values : (v : Marked) (w : Item → Marked) (k : ℕ) → IsRow fs NonNullable v → Agrees fs v w → projected_value fs (projected fs c) w ≡ eval (struct_type fs NonNullable) e v k
  values lost w k r a = absurd r
  values null w k r a = absurd r
  values gone w k r a = absurd r
  values (boolean b) w k r a = absurd r
  values (integer z) w k r a = absurd r
  values (text t) w k r a = absurd r
  values (list ms) w k r a = absurd r
  values (struct ms) w k r a = ap struct (values_are fs ms w c there a.fields) ∙ sym (ap (λ (x : Seen). x.1) (direct_is fs ms k e c d r h))

  keeps : KeepsWhole (bound_of (struct_type fs NonNullable) e) (Direct (projected fs c))
  keeps = (
    All-from_recursion (λ i. i < length (field_names fs)) (map (λ (x : Name × Name). place fs x.1) c) (places_within fs c there),
    record {
      dtype = ap (λ (gs : Fields). struct_type gs NonNullable) (types_are fs c there) ∙ sym (ap (λ (x : Seen). x.0) (direct_is fs (blank fs) 0 e c d (blank-even fs) h));
      values = values;
      overflow = λ v w k r a. sym (direct_calm (struct_type fs NonNullable) v k fs e c h);
    },
  )

keeps_by : (fs : Fields) (n : Nullability) (e : Expr) (c : Choice) → Distinct fs → NamesFound fs e → if_here n (direct fs e) ≡ Some c → KeepsWhole (bound_of (struct_type fs n) e) (Direct (projected fs c))
keeps_by fs NonNullable e c d f h = keeps fs e c d f h
keeps_by fs Nullable e c d f h = cc

direct_keeps : (b : Bound) (c : Choice) → IsOverStruct b → chosen_directly b.scope b.expr ≡ Some c → KeepsWhole b (Direct (projected (struct_fields b.scope) c))
direct_keeps b c o h =
    subst (λ (t : DataType). KeepsWhole (bound_of t b.expr) (Direct (projected (struct_fields t) c))) o.structure (keeps_by (struct_fields b.scope) (nullability_of b.scope) b.expr c o.distinct o.found h)

-- ---- by what was found
chosen_some : (fs : Fields) (o : Option Choice) (p : Projection) → Some p ≡ option_map (projected fs) o → (c : Choice) × (o ≡ Some c) × (p ≡ projected fs c)
chosen_some fs None p h = cc
chosen_some fs (Some c) p h = (c, refl, some_inj h)

pub some_keeps : (b : Bound) (p : Projection) → IsOverStruct b → Some p ≡ option_map (projected (struct_fields b.scope)) (chosen_directly b.scope b.expr) → KeepsWhole b (Direct p)
some_keeps b p o h =
    let q = chosen_some (struct_fields b.scope) (chosen_directly b.scope b.expr) p h in
    subst (λ (x : Projection). KeepsWhole b (Direct x)) (sym q.2) (direct_keeps b q.0 o q.1)
