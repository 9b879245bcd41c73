-- What expanded and stepped-in expressions need.
use Rattle.std.proofs.Common.{◌≡◌, ◌⊎◌, inl, inr, Bool, true, false, cond, ◌||◌, List, [], ◌∷◌, Option, Some, None, refl, ap, sym, subst, ◌∙◌, bytes_eq}
use Rattle.std.proofs.lemmas.Slice.Eq.{bytes_eq-Decides}
use Rattle.scan_values.specs.DataType.{DataType, bool_type, int_type, utf8_type, list_type, struct_type, Fields, no_fields, field, Name}
use Rattle.scan_values.specs.declared.ptype.Nullability.{Nullability}
use Rattle.scan_values.specs.declared.ptype.Nullability.TheVariants.{NonNullable, Nullable}
use Rattle.scan_values.specs.FieldLists.{dtype_named}
use Rattle.scan_expr.specs.Infer.{type_or_bool, field_type, struct_fields, infer}
use Rattle.scan_values.specs.NameFaults.{field_names, has_name}
use Rattle.scan_partition.specs.declared.item.Item.{Item}
use Rattle.scan_partition.specs.declared.item.Item.TheVariants.{Field, Validity}
use Rattle.scan_partition.specs.Items.{spelled, item_of, Use, or_use, use_of, uses_of, ItemOr, IsExpanded, AreExpanded}
use Rattle.scan_expr.specs.Expr.{is_root, Expr, root, row_index, literal, unary, binary, pack, Parts, no_parts, part}
use Rattle.scan_partition.specs.Expand.{masked, items_of, expanded_fields, expanded_struct_root, null_root, here_root, expand_at, expand, expand_all}
use Rattle.scan_expr.specs.Needs.{other_names, Demand, whole, null_alone, length_alone, fields, at, asked}
use Rattle.scan_partition.specs.Partition.{step_into, step_into_all, or_root}
use Rattle.scan_values.specs.Paths.{to_field, to_validity, Path}
use Rattle.scan_partition.specs.Needing.{item_step}
use Rattle.scan_partition.specs.Had.{IsItemOf}
use Rattle.scan_partition.proofs.Wants.{IsValidity, IsLeaf, IsFieldLeaf, IsLeafOf, IsLeafOfAny, NeedsNull, NeedsLength, NeedsFields, NeedsAt, Asks, Needs, AnyNeeds}
use Rattle.scan_expr.specs.declared.op.Unary.{Unary}
use Rattle.scan_expr.specs.declared.op.Unary.TheVariants.{GetItem, Select, Exclude, Not, IsNull, IsNotNull, ListLength}
use Rattle.scan_partition.specs.Rows.{Distinct, item_type}
use Rattle.scan_partition.specs.Items.{AtMost}
use Rattle.scan_partition.proofs.Through.{both-split, item_of-spelled}
use Rattle.scan_partition.proofs.Bare.{bare, asked-same, expand-bare, step_into-bare, item-bare}
use Rattle.scan_partition.proofs.Expanded.{is_root-sound}

-- ---- leaves
leaf_of_field : (fs : Fields) (f : Name) (p : Path) → IsLeafOf fs f p → IsFieldLeaf fs p
leaf_of_field no_fields f p h = clash h.1
  where
    clash : false ≡ true → ⊥
    clash q = cc
leaf_of_field (field m d fs) f p h = go (bytes_eq f m) ((bytes_eq-Decides f m).0) h.1 h.3 (λ has l. leaf_of_field fs f p (h.0, has, h.2, l))
  where
    go : (b : Bool) → (b ≡ true → f ≡ m) → b || has_name f (field_names fs) ≡ true → IsLeaf (type_or_bool (cond b (Some d) (dtype_named f fs))) h.0 → (has_name f (field_names fs) ≡ true → IsLeaf (field_type f fs) h.0 → IsFieldLeaf fs p)
        → ((q : Path) × (p ≡ to_field m ∷ q) × IsLeaf d q) ⊎ IsFieldLeaf fs p
    go true e has l f_rest = inl (h.0, h.2 ∙ ap (λ x. to_field x ∷ h.0) (e refl), l)
    go false e has l f_rest = inr (f_rest has l)

pub leaf_of_any : (fs : Fields) (ns : List Name) (p : Path) → IsLeafOfAny fs ns p → IsFieldLeaf fs p
leaf_of_any fs [] p h = absurd h
leaf_of_any fs (f ∷ ns) p (inl h) = leaf_of_field fs f p h
leaf_of_any fs (f ∷ ns) p (inr h) = leaf_of_any fs ns p h

null-leaf : (d : DataType) (p : Path) → NeedsNull d p → IsLeaf d p
null-leaf (bool_type NonNullable) p h = absurd h
null-leaf (bool_type Nullable) p h = h
null-leaf (int_type t NonNullable) p h = absurd h
null-leaf (int_type t Nullable) p h = h
null-leaf (utf8_type NonNullable) p h = absurd h
null-leaf (utf8_type Nullable) p h = h
null-leaf (list_type d n) p h = inl h
null-leaf (struct_type fs n) p h = inl h

length-leaf : (d : DataType) (p : Path) → NeedsLength d p → IsLeaf d p
length-leaf (list_type d n) p (inl h) = inl h
length-leaf (list_type d n) p (inr h) = inr (inl h)
length-leaf d p h = h

fields-leaf : (ns : List Name) (d : DataType) (p : Path) → NeedsFields ns d p → IsLeaf d p
fields-leaf ns (struct_type fs n) p (inl h) = inl h
fields-leaf ns (struct_type fs n) p (inr h) = inr (leaf_of_any fs ns p h)
fields-leaf ns d p h = h

at-leaf : (f : Name) (P : DataType → Path → Type 0) (d : DataType) (p : Path) → ((e : DataType) (q : Path) → P e q → IsLeaf e q) → NeedsAt f P d p → IsLeaf d p
at-leaf f P (struct_type fs NonNullable) p g h = inr (leaf_of_field fs f p (h.0, h.1, h.2, g _ _ h.3))
at-leaf f P (struct_type fs Nullable) p g (inl h) = inl h
at-leaf f P (struct_type fs Nullable) p g (inr h) = inr (leaf_of_field fs f p h)
at-leaf f P d p g h = h

-- what is asked lies among the leaves
asks-leaf : (k : Demand) (d : DataType) (p : Path) → Asks k d p → IsLeaf d p
asks-leaf whole d p h = h
asks-leaf null_alone d p h = null-leaf d p h
asks-leaf length_alone d p h = length-leaf d p h
asks-leaf (fields ns) d p h = fields-leaf ns d p h
asks-leaf (at f k) d p h = at-leaf f (Asks k) d p (asks-leaf k) h

-- ---- expansion
module _ (fs : Fields) (n : Nullability) where
  abbrev s : DataType
  s = struct_type fs n

  item_needs : (m : Nullability) (f : Name) (p : Path) → Asks (at f whole) (struct_type fs m) p → IsValidity m p ⊎ IsLeafOf fs f p
  item_needs NonNullable f p h = inr h
  item_needs Nullable f p (inl h) = inl h
  item_needs Nullable f p (inr h) = inr h

  items_need : (ns : List Name) (p : Path) → AnyNeeds s (items_of ns) p → IsValidity n p ⊎ IsLeafOfAny fs ns p
  items_need [] p h = absurd h
  items_need (f ∷ ns) p (inl h) = first (item_needs n f p h)
    where
      first : IsValidity n p ⊎ IsLeafOf fs f p → IsValidity n p ⊎ (IsLeafOf fs f p ⊎ IsLeafOfAny fs ns p)
      first (inl x) = inl x
      first (inr x) = inr (inl x)
  items_need (f ∷ ns) p (inr h) = rest (items_need ns p h)
    where
      rest : IsValidity n p ⊎ IsLeafOfAny fs ns p → IsValidity n p ⊎ (IsLeafOf fs f p ⊎ IsLeafOfAny fs ns p)
      rest (inl x) = inl x
      rest (inr x) = inr (inr x)

fields_need : (fs : Fields) (n : Nullability) (ns : List Name) (k : Demand) (p : Path) → Needs (struct_type fs n) (expanded_fields n ns) k p → IsValidity n p ⊎ IsLeafOfAny fs ns p
fields_need fs NonNullable ns k p h = items_need fs NonNullable ns p h
fields_need fs Nullable ns k p (inl h) = items_need fs Nullable ns p h
fields_need fs Nullable ns k p (inr h) = inl h

root_need : (fs : Fields) (n : Nullability) (k : Demand) (p : Path) → Needs (struct_type fs n) (expanded_struct_root (struct_type fs n)) k p → IsLeaf (struct_type fs n) p
root_need fs n k p h = go (fields_need fs n (field_names fs) k p h)
  where
    go : IsValidity n p ⊎ IsLeafOfAny fs (field_names fs) p → IsLeaf (struct_type fs n) p
    go (inl x) = inl x
    go (inr x) = inr (leaf_of_any fs (field_names fs) p x)

get_need : (fs : Fields) (n : Nullability) (f : Name) (k : Demand) (p : Path) → Needs (struct_type fs n) (masked n (unary (GetItem f) root)) k p → Asks (at f k) (struct_type fs n) p
get_need fs NonNullable f k p h = h
get_need fs Nullable f k p (inl h) = h
get_need fs Nullable f k p (inr h) = inl h

null_need : (fs : Fields) (n : Nullability) (k : Demand) (p : Path) → Needs (struct_type fs n) (null_root n) k p → IsValidity n p
null_need fs NonNullable k p h = absurd h
null_need fs Nullable k p h = h

here_need : (fs : Fields) (n : Nullability) (k : Demand) (p : Path) → Needs (struct_type fs n) (here_root n) k p → IsValidity n p
here_need fs NonNullable k p h = absurd h
here_need fs Nullable k p h = h

at_root_need : (fs : Fields) (n : Nullability) (u : Unary) (k : Demand) (p : Path) → Needs (struct_type fs n) (expand_at (struct_type fs n) u) k p → Needs (struct_type fs n) (unary u root) k p
at_root_need fs n (GetItem f) k p h = get_need fs n f k p h
at_root_need fs n (Select ns) k p h = fields_need fs n ns k p h
at_root_need fs n (Exclude ns) k p h = fields_need fs n (other_names ns fs) k p h
at_root_need fs n Not k p h = root_need fs n whole p h
at_root_need fs n IsNull k p h = null_need fs n k p h
at_root_need fs n IsNotNull k p h = here_need fs n k p h
at_root_need fs n ListLength k p h = root_need fs n length_alone p h

module _ (fs : Fields) (n : Nullability) (d : Distinct fs) where
  mutual
    -- what an expanded expression needs, its source needs
    pub expand_needs : (e : Expr) (k : Demand) (p : Path) → (is_root e ≡ true → k ≡ whole) → Needs (struct_type fs n) (expand (struct_type fs n) e) k p → Needs (struct_type fs n) e k p
    expand_needs root k p w h = subst (λ k. Asks k (struct_type fs n) p) (sym (w refl)) (root_need fs n k p h)
    expand_needs row_index k p w h = h
    expand_needs (literal t m) k p w h = h
    expand_needs (unary u e) k p w h = go (is_root e) (is_root-sound e) (expand_needs e) h
      where
        q : Demand
        q = asked u (struct_fields (infer (struct_type fs n) e)) k

        go : (b : Bool) → (b ≡ true → e ≡ root) → ((k : Demand) (p : Path) → (b ≡ true → k ≡ whole) → Needs (struct_type fs n) (expand (struct_type fs n) e) k p → Needs (struct_type fs n) e k p)
            → Needs (struct_type fs n) (cond b (expand_at (struct_type fs n) u) (unary u (expand (struct_type fs n) e))) k p → Needs (struct_type fs n) (unary u e) k p
        go true r g h = subst (λ x. Needs (struct_type fs n) (unary u x) k p) (sym (r refl)) (at_root_need fs n u k p h)
        go false r g h =
            g (asked u (struct_fields (infer (struct_type fs n) e)) k) p (λ c. absurd (clash c))
            (subst (λ j. Needs (struct_type fs n) (expand (struct_type fs n) e) j p) (asked-same u _ _ k (expand-bare fs n d e)) h)
          where
            clash : false ≡ true → ⊥
            clash c = cc
    expand_needs (binary b x y) k p w (inl h) = inl (expand_needs x whole p (λ _. refl) h)
    expand_needs (binary b x y) k p w (inr h) = inr (expand_needs y whole p (λ _. refl) h)
    expand_needs (pack ps m) k p w h = expand_all_needs ps p h

    pub expand_all_needs : (ps : Parts) (p : Path) → AnyNeeds (struct_type fs n) (expand_all (struct_type fs n) ps) p → AnyNeeds (struct_type fs n) ps p
    expand_all_needs no_parts p h = h
    expand_all_needs (part m e ps) p (inl h) = inl (expand_needs e whole p (λ _. refl) h)
    expand_all_needs (part m e ps) p (inr h) = inr (expand_all_needs ps p h)

item_asks : (fs : Fields) (n : Nullability) (i : Item) (k : Demand) (q : Path) → IsItemOf fs n i → Asks k (item_type fs i) q → Needs (struct_type fs n) (spelled i) k (item_step i ∷ q)
item_asks fs NonNullable (Field f) k q o h = (q, o, refl, h)
item_asks fs Nullable (Field f) k q o h = inr (q, o, refl, asks-leaf k (field_type f fs) q h)
item_asks fs n Validity k q o h = subst (λ m. IsValidity m (to_validity ∷ q)) (sym o) (ap (λ x. to_validity ∷ x) (asks-leaf k (bool_type NonNullable) q h))

module _ (fs : Fields) (n : Nullability) (i : Item) (o : IsItemOf fs n i) where
  step_need : (u : Unary) (x e : Expr) (j : Option Item) (w : Use) (P : Type 0) (k : Demand) (q : Path) → ItemOr j P → AtMost i (or_use j w) → ((l : Item) → j ≡ Some l → spelled l ≡ unary u e)
      → bare (infer (item_type fs i) (or_root j (unary u x))) ≡ bare (infer (struct_type fs n) (unary u e))
      → (P → AtMost i w → bare (infer (item_type fs i) x) ≡ bare (infer (struct_type fs n) e))
      → (P → AtMost i w → (k : Demand) → Needs (item_type fs i) x k q → Needs (struct_type fs n) e k (item_step i ∷ q))
      → Needs (item_type fs i) (or_root j (unary u x)) k q → Needs (struct_type fs n) (unary u e) k (item_step i ∷ q)
  step_need u x e None w P k q p a g b c f h =
      f p a (asked u (struct_fields (infer (struct_type fs n) e)) k) (subst (λ l. Needs (item_type fs i) x l q) (asked-same u _ _ k (c p a)) h)
  step_need u x e (Some l) w P k q p a g b c f h =
      subst (λ y. Needs (struct_type fs n) y k (item_step i ∷ q)) (ap spelled a ∙ g l refl) (item_asks fs n i k q o h)

  mutual
    -- what a part, stepped in, needs of its item, the part needs under that item
    pub step_into_needs : (e : Expr) (k : Demand) (q : Path) → IsExpanded e → AtMost i (use_of e) → Needs (item_type fs i) (step_into e) k q → Needs (struct_type fs n) e k (item_step i ∷ q)
    step_into_needs root k q p a h = absurd p
    step_into_needs row_index k q p a h = h
    step_into_needs (literal t m) k q p a h = h
    step_into_needs (unary u e) k q p a h =
        step_need u (step_into e) e (item_of u e) (use_of e) (IsExpanded e) k q p a (item_of-spelled u e) (step_into-bare (struct_type fs n) (item_type fs i) i (unary u e) (item-bare fs n i) p a)
        (step_into-bare (struct_type fs n) (item_type fs i) i e (item-bare fs n i)) (λ p a k. step_into_needs e k q p a) h
    step_into_needs (binary b x y) k q p a (inl h) = inl (step_into_needs x whole q p.0 (both-split i (use_of x) (use_of y) a).0 h)
    step_into_needs (binary b x y) k q p a (inr h) = inr (step_into_needs y whole q p.1 (both-split i (use_of x) (use_of y) a).1 h)
    step_into_needs (pack ps m) k q p a h = step_into_all_needs ps q p a h

    pub step_into_all_needs : (ps : Parts) (q : Path) → AreExpanded ps → AtMost i (uses_of ps) → AnyNeeds (item_type fs i) (step_into_all ps) q → AnyNeeds (struct_type fs n) ps (item_step i ∷ q)
    step_into_all_needs no_parts q p a h = h
    step_into_all_needs (part m e ps) q p a (inl h) = inl (step_into_needs e whole q p.0 (both-split i (use_of e) (uses_of ps) a).0 h)
    step_into_all_needs (part m e ps) q p a (inr h) = inr (step_into_all_needs ps q p.1 (both-split i (use_of e) (uses_of ps) a).1 h)
