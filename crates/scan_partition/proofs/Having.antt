-- The items of an expanded expression are the struct's, where its source names fields that there are.
use Rattle.std.proofs.Common.{◌≡◌, Bool, true, false, cond, ◌||◌, List, [], ◌∷◌, ◌++◌, Option, Some, None, refl, ap, sym, ◌∙◌, bytes_eq}
use Rattle.scan_values.specs.DataType.{DataType, struct_type, Fields, no_fields, field, Name}
use Rattle.scan_values.specs.declared.ptype.Nullability.{Nullability}
use Rattle.scan_values.specs.declared.ptype.Nullability.TheVariants.{NonNullable, Nullable}
use Rattle.scan_values.specs.NameFaults.{field_names, has_name}
use Rattle.scan_partition.specs.declared.item.Item.{Item}
use Rattle.scan_partition.specs.declared.item.Item.TheVariants.{Field, Validity}
use Rattle.scan_partition.specs.Items.{same_item, item_of, Use, no_use, one, many, both, or_use, use_of, uses_of}
use Rattle.scan_expr.specs.Expr.{is_root, Expr, root, row_index, literal, unary, binary, pack, Parts, no_parts, part}
use Rattle.scan_partition.specs.Expand.{masked, items_of, expanded_fields, expanded_struct_root, null_root, here_root, expand_at, expand, expand_all}
use Rattle.scan_expr.specs.Needs.{other_names}
use Rattle.scan_partition.specs.Found.{AllFound, FoundBy, FoundAt, NamesFound, AllNamesFound, NoneReserved}
use Rattle.scan_partition.specs.Had.{IsItemOf, ItemOf, ItemsOf, AllItemsOf}
use Rattle.scan_partition.specs.Rows.{IsPlain, AllPlain}
use Rattle.scan_partition.specs.Partition.{Cut, cut_or, cuts, all_cuts}
use Rattle.scan_expr.specs.declared.op.Unary.{Unary}
use Rattle.scan_expr.specs.declared.op.Unary.TheVariants.{GetItem, Select, Exclude, Not, IsNull, IsNotNull, ListLength}
use Rattle.scan_partition.proofs.Names.{bytes_eq-refl}
use Rattle.scan_partition.proofs.Expanded.{expand-expanded, not_root}

items_found : (fs : Fields) (n : Nullability) (ns : List Name) → AllFound fs ns → AllItemsOf fs n (items_of ns)
items_found fs n [] h = tt
items_found fs n (m ∷ ns) h = (h.0, items_found fs n ns h.1)

found_weaken : (fs : Fields) (n m : Name) (d : DataType) → has_name m (field_names fs) ≡ true → has_name m (field_names (field n d fs)) ≡ true
found_weaken fs n m d h = go (bytes_eq m n)
  where
    go : (b : Bool) → b || has_name m (field_names fs) ≡ true
    go true = refl
    go false = h

all_weaken : (fs : Fields) (n : Name) (d : DataType) (ms : List Name) → AllFound fs ms → AllFound (field n d fs) ms
all_weaken fs n d [] h = tt
all_weaken fs n d (m ∷ ms) h = (found_weaken fs n m d h.0, all_weaken fs n d ms h.1)

own_found : (n : Name) (d : DataType) (fs : Fields) → has_name n (field_names (field n d fs)) ≡ true
own_found n d fs = ap (λ b. b || has_name n (field_names fs)) (bytes_eq-refl n)

pub names_found : (fs : Fields) → AllFound fs (field_names fs)
names_found no_fields = tt
names_found (field n d fs) = (own_found n d fs, all_weaken fs n d (field_names fs) (names_found fs))

pub others_found : (ns : List Name) (fs : Fields) → AllFound fs (other_names ns fs)
others_found ns no_fields = tt
others_found ns (field m d fs) = go (has_name m ns) (all_weaken fs m d (other_names ns fs) (others_found ns fs))
  where
    go : (b : Bool) → AllFound (field m d fs) (other_names ns fs) → AllFound (field m d fs) (cond b (other_names ns fs) (m ∷ other_names ns fs))
    go true h = h
    go false h = (own_found m d fs, h)

masked_items : (fs : Fields) (n : Nullability) (e : Expr) → ItemsOf fs n e → ItemsOf fs n (masked n e)
masked_items fs NonNullable e h = h
masked_items fs Nullable e h = (h, refl)

fields_items : (fs : Fields) (n : Nullability) (ns : List Name) → AllFound fs ns → ItemsOf fs n (expanded_fields n ns)
fields_items fs n ns h = masked_items fs n (pack (items_of ns) NonNullable) (items_found fs n ns h)

-- an operator over an expression is no item of its own unless it stands on `$`
under_items : (fs : Fields) (n : Nullability) (u : Unary) (e : Expr) → is_root e ≡ false → ItemsOf fs n e → ItemsOf fs n (unary u e)
under_items fs n u root r h = absurd (clash r)
  where
    clash : true ≡ false → ⊥
    clash q = cc
under_items fs n u row_index r h = tt
under_items fs n u (literal d m) r h = tt
under_items fs n u (unary w e) r h = h
under_items fs n u (binary b x y) r h = h
under_items fs n u (pack ps m) r h = h

null_items : (fs : Fields) (n : Nullability) → ItemsOf fs n (null_root n)
null_items fs NonNullable = tt
null_items fs Nullable = refl

here_items : (fs : Fields) (n : Nullability) → ItemsOf fs n (here_root n)
here_items fs NonNullable = tt
here_items fs Nullable = refl

root_items : (fs : Fields) (n : Nullability) → ItemsOf fs n (expanded_struct_root (struct_type fs n))
root_items fs n = fields_items fs n (field_names fs) (names_found fs)

root_not_root : (n : Nullability) (ns : List Name) → is_root (expanded_fields n ns) ≡ false
root_not_root NonNullable ns = refl
root_not_root Nullable ns = refl

at_root_items : (fs : Fields) (n : Nullability) (u : Unary) → FoundBy fs u → ItemsOf fs n (expand_at (struct_type fs n) u)
at_root_items fs n (GetItem m) h = masked_items fs n (unary (GetItem m) root) h
at_root_items fs n (Select ns) h = fields_items fs n ns h
at_root_items fs n (Exclude ns) h = fields_items fs n (other_names ns fs) (others_found ns fs)
at_root_items fs n Not h = under_items fs n Not (expanded_struct_root (struct_type fs n)) (root_not_root n (field_names fs)) (root_items fs n)
at_root_items fs n IsNull h = null_items fs n
at_root_items fs n IsNotNull h = here_items fs n
at_root_items fs n ListLength h = under_items fs n ListLength (expanded_struct_root (struct_type fs n)) (root_not_root n (field_names fs)) (root_items fs n)

mutual
  pub expand-items : (fs : Fields) (n : Nullability) (e : Expr) → NamesFound fs e → ItemsOf fs n (expand (struct_type fs n) e)
  expand-items fs n root h = root_items fs n
  expand-items fs n row_index h = tt
  expand-items fs n (literal d m) h = tt
  expand-items fs n (unary u e) h = go (is_root e) h.0 (expand-items fs n e h.1) (not_root (expand (struct_type fs n) e) (expand-expanded (struct_type fs n) e))
    where
      go : (b : Bool) → FoundAt b (FoundBy fs u) → ItemsOf fs n (expand (struct_type fs n) e) → is_root (expand (struct_type fs n) e) ≡ false → ItemsOf fs n (cond b (expand_at (struct_type fs n) u) (unary u (expand (struct_type fs n) e)))
      go true f p r = at_root_items fs n u f
      go false f p r = under_items fs n u (expand (struct_type fs n) e) r p
  expand-items fs n (binary b x y) h = (expand-items fs n x h.0, expand-items fs n y h.1)
  expand-items fs n (pack ps m) h = expand_all-items fs n ps h

  pub expand_all-items : (fs : Fields) (n : Nullability) (ps : Parts) → AllNamesFound fs ps → AllItemsOf fs n (expand_all (struct_type fs n) ps)
  expand_all-items fs n no_parts h = tt
  expand_all-items fs n (part m e ps) h = (expand-items fs n e h.0, expand_all-items fs n ps h.1)

-- ---- the items of cuts
abbrev pub UseOf : Fields → Nullability → Use → Type 0
UseOf fs n no_use = Unit {0}
UseOf fs n (one i) = IsItemOf fs n i
UseOf fs n many = Unit {0}

both_of : (fs : Fields) (n : Nullability) (u w : Use) → UseOf fs n u → UseOf fs n w → UseOf fs n (both u w)
both_of fs n no_use w p q = q
both_of fs n (one i) no_use p q = p
both_of fs n (one i) (one j) p q = go (same_item i j)
  where
    go : (b : Bool) → UseOf fs n (cond b (one i) many)
    go true = p
    go false = tt
both_of fs n (one i) many p q = tt
both_of fs n many w p q = tt

mutual
  pub use_items : (fs : Fields) (n : Nullability) (e : Expr) → ItemsOf fs n e → UseOf fs n (use_of e)
  use_items fs n root h = tt
  use_items fs n row_index h = tt
  use_items fs n (literal d m) h = tt
  use_items fs n (unary u e) h = go (item_of u e) h (use_items fs n e)
    where
      go : (o : Option Item) → ItemOf fs n o (ItemsOf fs n e) → (ItemsOf fs n e → UseOf fs n (use_of e)) → UseOf fs n (or_use o (use_of e))
      go None h f = f h
      go (Some i) h f = h
  use_items fs n (binary b x y) h = both_of fs n (use_of x) (use_of y) (use_items fs n x h.0) (use_items fs n y h.1)
  use_items fs n (pack ps m) h = all_use_items fs n ps h

  all_use_items : (fs : Fields) (n : Nullability) (ps : Parts) → AllItemsOf fs n ps → UseOf fs n (uses_of ps)
  all_use_items fs n no_parts h = tt
  all_use_items fs n (part m e ps) h = both_of fs n (use_of e) (uses_of ps) (use_items fs n e h.0) (all_use_items fs n ps h.1)

abbrev pub CutsOf : Fields → Nullability → List Cut → Type 0
CutsOf fs n [] = Unit {0}
CutsOf fs n (c ∷ cs) = IsItemOf fs n c.0 × CutsOf fs n cs

append_of : (fs : Fields) (n : Nullability) (cs ds : List Cut) → CutsOf fs n cs → CutsOf fs n ds → CutsOf fs n (cs ++ ds)
append_of fs n [] ds p q = q
append_of fs n (c ∷ cs) ds p q = (p.0, append_of fs n cs ds p.1 q)

cut_of : (fs : Fields) (n : Nullability) (w : Use) (e : Expr) (cs : List Cut) → UseOf fs n w → CutsOf fs n cs → CutsOf fs n (cut_or w e cs)
cut_of fs n no_use e cs p q = q
cut_of fs n (one i) e cs p q = (p, tt)
cut_of fs n many e cs p q = q

mutual
  pub cuts_items : (fs : Fields) (n : Nullability) (e : Expr) → ItemsOf fs n e → CutsOf fs n (cuts e)
  cuts_items fs n root h = tt
  cuts_items fs n row_index h = tt
  cuts_items fs n (literal d m) h = tt
  cuts_items fs n (unary u e) h = go (item_of u e) h (use_items fs n e) (cuts_items fs n e)
    where
      go : (o : Option Item) → ItemOf fs n o (ItemsOf fs n e) → (ItemsOf fs n e → UseOf fs n (use_of e)) → (ItemsOf fs n e → CutsOf fs n (cuts e)) → CutsOf fs n (cut_or (or_use o (use_of e)) (unary u e) (cuts e))
      go None h f g = cut_of fs n (use_of e) (unary u e) (cuts e) (f h) (g h)
      go (Some i) h f g = (h, tt)
  cuts_items fs n (binary b x y) h = cut_of fs n (use_of (binary b x y)) (binary b x y) (cuts x ++ cuts y) (use_items fs n (binary b x y) h) (append_of fs n (cuts x) (cuts y) (cuts_items fs n x h.0) (cuts_items fs n y h.1))
  cuts_items fs n (pack ps m) h = cut_of fs n (use_of (pack ps m)) (pack ps m) (all_cuts ps) (use_items fs n (pack ps m) h) (all_cuts_items fs n ps h)

  pub all_cuts_items : (fs : Fields) (n : Nullability) (ps : Parts) → AllItemsOf fs n ps → CutsOf fs n (all_cuts ps)
  all_cuts_items fs n no_parts h = tt
  all_cuts_items fs n (part m e ps) h = append_of fs n (cuts e) (all_cuts ps) (cuts_items fs n e h.0) (all_cuts_items fs n ps h.1)

item-plain : (fs : Fields) (n : Nullability) (i : Item) → NoneReserved fs → IsItemOf fs n i → IsPlain i
item-plain fs n (Field f) r h = λ e. clash (sym h ∙ ap (λ x. has_name x (field_names fs)) e ∙ r)
  where
    clash : true ≡ false → ⊥
    clash q = cc
item-plain fs n Validity r h = tt

pub cuts_plain : (fs : Fields) (n : Nullability) (cs : List Cut) → NoneReserved fs → CutsOf fs n cs → AllPlain cs
cuts_plain fs n [] r h = tt
cuts_plain fs n (c ∷ cs) r h = (item-plain fs n c.0 r h.0, cuts_plain fs n cs r h.1)
