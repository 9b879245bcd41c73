-- What an expression needs that only chooses fields.
use Rattle.std.proofs.Common.{◌≡◌, inl, inr, Bool, true, false, cond, ◌||◌, List, [], ◌∷◌, map, Option, Some, None, refl, ap, sym, subst, ◌∙◌, bytes_eq}
use Rattle.std.proofs.lemmas.Slice.Eq.{bytes_eq-Decides}
use Rattle.scan_values.specs.DataType.{DataType, struct_type, Fields, no_fields, field, Name}
use Rattle.scan_values.specs.FieldLists.{dtype_named}
use Rattle.scan_values.specs.declared.ptype.Nullability.{Nullability}
use Rattle.scan_values.specs.declared.ptype.Nullability.TheVariants.{NonNullable, Nullable}
use Rattle.scan_values.specs.NameFaults.{field_names, has_name}
use Rattle.scan_values.specs.Paths.{Path}
use Rattle.scan_expr.specs.declared.op.Unary.{Unary}
use Rattle.scan_expr.specs.declared.op.Unary.TheVariants.{GetItem, Select, Exclude, Not, IsNull, IsNotNull, ListLength}
use Rattle.scan_expr.specs.Expr.{is_root, Expr, root, row_index, literal, unary, binary, pack, Parts, no_parts, part}
use Rattle.scan_expr.specs.Infer.{type_or_bool}
use Rattle.scan_expr.specs.Needs.{whole, is_field_leaf, is_leaf_of, is_leaf_of_any, needs, any_needs, needed}
use Rattle.scan_partition.specs.declared.item.Item.{Item}
use Rattle.scan_partition.specs.declared.item.Item.TheVariants.{Field, Validity}
use Rattle.scan_partition.specs.Items.{spelled, item_of}
use Rattle.scan_partition.specs.Direct.{Choice, same_names, field_item, field_of, chose, direct_parts, direct_at, if_here, direct, place, projected}
use Rattle.scan_partition.specs.Rows.{Distinct}
use Rattle.scan_partition.specs.Found.{NamesFound}
use Rattle.scan_partition.specs.Split.{name_at}
use Rattle.scan_partition.proofs.Choosing.{AreThere, stands, direct_there}
use Rattle.scan_partition.proofs.Through.{item_of-spelled}
use Rattle.scan_partition.proofs.Expanded.{is_root-sound}
use Rattle.scan_partition.proofs.Names.{bytes_eq-refl, false_if}
use Rattle.scan_partition.proofs.Wants.{IsLeaf, IsFieldLeaf, IsLeafOf, IsLeafOfAny}
use Rattle.scan_partition.proofs.Tested.{field_leaf_told, field_leaf_test, any_told, any_test}
use Rattle.scan_partition.proofs.Needed.{leaf_of_any}
use Rattle.scan_partition.proofs.NoUses.{named_is, clash}

both_ways : (a b : Bool) → (a ≡ true → b ≡ true) → (b ≡ true → a ≡ true) → a ≡ b
both_ways true b f g = sym (f refl)
both_ways false true f g = absurd (clash (g refl))
both_ways false false f g = refl

-- ---- the fields of a struct are those of its names
more_leaf : (f m : Name) (d : DataType) (fs : Fields) (p : Path) → has_name f (field_names fs) ≡ false → IsLeafOf fs m p → IsLeafOf (field f d fs) m p
more_leaf f m d fs p o h = (h.0, ap (λ b. b || has_name m (field_names fs)) apart ∙ h.1, h.2, subst (λ b. IsLeaf (type_or_bool (cond b (Some d) (dtype_named m fs))) h.0) (sym apart) h.3)
  where
    apart : bytes_eq m f ≡ false
    apart = false_if (bytes_eq m f) (λ e. clash (sym o ∙ ap (λ x. has_name x (field_names fs)) (sym ((bytes_eq-Decides m f).0 e)) ∙ h.1))

more_leaves : (f : Name) (d : DataType) (fs : Fields) (ns : List Name) (p : Path) → has_name f (field_names fs) ≡ false → IsLeafOfAny fs ns p → IsLeafOfAny (field f d fs) ns p
more_leaves f d fs [] p o h = absurd h
more_leaves f d fs (m ∷ ns) p o (inl h) = inl (more_leaf f m d fs p o h)
more_leaves f d fs (m ∷ ns) p o (inr h) = inr (more_leaves f d fs ns p o h)

leaf_named : (fs : Fields) (p : Path) → Distinct fs → IsFieldLeaf fs p → IsLeafOfAny fs (field_names fs) p
leaf_named no_fields p o h = absurd h
leaf_named (field f d fs) p o (inl h) =
    inl (h.0, ap (λ b. b || has_name f (field_names fs)) (bytes_eq-refl f), h.1, subst (λ b. IsLeaf (type_or_bool (cond b (Some d) (dtype_named f fs))) h.0) (sym (bytes_eq-refl f)) h.2)
leaf_named (field f d fs) p o (inr h) = inr (more_leaves f d fs (field_names fs) p o.0 (leaf_named fs p o.1 h))

all_fields : (fs : Fields) (p : Path) → Distinct fs → is_field_leaf fs p ≡ is_leaf_of_any fs (field_names fs) p
all_fields fs p o =
    both_ways (is_field_leaf fs p) (is_leaf_of_any fs (field_names fs) p) (λ h. any_test fs (field_names fs) p (leaf_named fs p o (field_leaf_told fs p h))) (λ h. field_leaf_test fs p (leaf_of_any fs (field_names fs) p (any_told fs (field_names fs) p h)))

-- ---- choices
some_inj : {A : Type 0} {x y : A} → Some x ≡ Some y → x ≡ y
some_inj h = cc

abbrev chosen_names : Choice → List Name
chosen_names c = map (λ (x : Name × Name). x.1) c

same_chosen : (ns : List Name) → chosen_names (same_names ns) ≡ ns
same_chosen [] = refl
same_chosen (n ∷ ns) = ap (λ ms. n ∷ ms) (same_chosen ns)

module _ (fs : Fields) (p : Path) where
  abbrev own : Expr → Bool
  own e = needs (struct_type fs NonNullable) e whole p

  named_alike : (ns : List Name) (c : Choice) → Some (same_names ns) ≡ Some c → is_leaf_of_any fs ns p ≡ is_leaf_of_any fs (chosen_names c) p
  named_alike ns c h = ap (λ ms. is_leaf_of_any fs ms p) (sym (same_chosen ns) ∙ ap chosen_names (some_inj h))

  field_is : (u : Unary) (e : Expr) (f : Name) (o : Option Item) → field_item o ≡ Some f → ((i : Item) → o ≡ Some i → spelled i ≡ unary u e) → own (unary u e) ≡ is_leaf_of fs f p
  field_is u e f None h g = cc
  field_is u e f (Some Validity) h g = cc
  field_is u e f (Some (Field n)) h g = ap own (sym (g (Field n) refl)) ∙ ap (λ m. is_leaf_of fs m p) (some_inj h)

  part_is : (e : Expr) (f : Name) → field_of e ≡ Some f → own e ≡ is_leaf_of fs f p
  part_is root f h = cc
  part_is row_index f h = cc
  part_is (literal d m) f h = cc
  part_is (unary u e) f h = field_is u e f (item_of u e) h (item_of-spelled u e)
  part_is (binary b x y) f h = cc
  part_is (pack ps n) f h = cc

  parts_are : (ps : Parts) (c : Choice) → direct_parts ps ≡ Some c → any_needs (struct_type fs NonNullable) ps p ≡ is_leaf_of_any fs (chosen_names c) p
  parts_are no_parts c h = ap (λ c. is_leaf_of_any fs (chosen_names c) p) (some_inj h)
  parts_are (part n e ps) c h = go (field_of e) (part_is e) (direct_parts ps) (parts_are ps) h
    where
      go : (o : Option Name) → ((f : Name) → o ≡ Some f → own e ≡ is_leaf_of fs f p) → (d : Option Choice) → ((c : Choice) → d ≡ Some c → any_needs (struct_type fs NonNullable) ps p ≡ is_leaf_of_any fs (chosen_names c) p) → chose n o d ≡ Some c
          → own e || any_needs (struct_type fs NonNullable) ps p ≡ is_leaf_of_any fs (chosen_names c) p
      go None f d g h = cc
      go (Some x) f None g h = cc
      go (Some x) f (Some d) g h = ap (λ b. b || any_needs (struct_type fs NonNullable) ps p) (f x refl) ∙ ap (λ b. is_leaf_of fs x p || b) (g d refl) ∙ ap (λ c. is_leaf_of_any fs (chosen_names c) p) (some_inj h)

  at_is : (u : Unary) (c : Choice) → direct_at u ≡ Some c → own (unary u root) ≡ is_leaf_of_any fs (chosen_names c) p
  at_is (GetItem n) c h = cc
  at_is (Select ns) c h = named_alike ns c h
  at_is (Exclude ns) c h = cc
  at_is Not c h = cc
  at_is IsNull c h = cc
  at_is IsNotNull c h = cc
  at_is ListLength c h = cc

  direct_needs : (e : Expr) (c : Choice) → Distinct fs → direct fs e ≡ Some c → own e ≡ is_leaf_of_any fs (chosen_names c) p
  direct_needs root c o h = all_fields fs p o ∙ named_alike (field_names fs) c h
  direct_needs row_index c o h = cc
  direct_needs (literal t m) c o h = cc
  direct_needs (unary u e) c o h = go (is_root e) (is_root-sound e) h
    where
      go : (b : Bool) → (b ≡ true → e ≡ root) → cond b (direct_at u) None ≡ Some c → own (unary u e) ≡ is_leaf_of_any fs (chosen_names c) p
      go true r h = ap (λ x. own (unary u x)) (r refl) ∙ at_is u c h
      go false r h = cc
  direct_needs (binary b x y) c o h = cc
  direct_needs (pack ps NonNullable) c o h = parts_are ps c h
  direct_needs (pack ps Nullable) c o h = cc

pub chosen_needed : (fs : Fields) (n : Nullability) (e : Expr) (c : Choice) (p : Path) → Distinct fs → if_here n (direct fs e) ≡ Some c → needed (struct_type fs n) e p ≡ is_leaf_of_any fs (chosen_names c) p
chosen_needed fs NonNullable e c p o h = named_is fs NonNullable e p ∙ direct_needs fs p e c o h
chosen_needed fs Nullable e c p o h = cc

-- ---- names, from the places of the fields
names_back : (fs : Fields) (c : Choice) → AreThere fs c → chosen_names c ≡ map (name_at fs) (map (λ (x : Name × Name). place fs x.1) c)
names_back fs [] a = refl
names_back fs (x ∷ xs) a = ap (λ n. n ∷ chosen_names xs) (sym (stands fs x.1 a.0).1) ∙ ap (λ ns. name_at fs (place fs x.1) ∷ ns) (names_back fs xs a.1)

pub chosen_back : (fs : Fields) (n : Nullability) (e : Expr) (c : Choice) → NamesFound fs e → if_here n (direct fs e) ≡ Some c → chosen_names c ≡ map (name_at fs) (projected fs c).fields
chosen_back fs NonNullable e c f h = names_back fs c (direct_there fs e c h f)
chosen_back fs Nullable e c f h = cc
