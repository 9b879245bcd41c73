-- An expanded expression's nodes keep their conditions, over the struct itself and through its items.
use Rattle.std.proofs.Common.{◌≡◌, ℕ, Bool, true, false, cond, Option, Some, None, List, [], ◌∷◌, refl, ap, sym, subst, ◌∙◌}
use Rattle.scan_values.specs.DataType.{struct_type, Fields, Name, nullability_of}
use Rattle.scan_values.specs.declared.ptype.Nullability.{Nullability}
use Rattle.scan_values.specs.declared.ptype.Nullability.TheVariants.{NonNullable, Nullable}
use Rattle.scan_values.specs.NameFaults.{field_names}
use Rattle.scan_values.specs.Marked.{Marked, struct}
use Rattle.scan_expr.specs.declared.op.BindFault.{BindFault}
use Rattle.scan_expr.specs.declared.op.Unary.{Unary}
use Rattle.scan_expr.specs.declared.op.Unary.TheVariants.{GetItem, Select, Exclude, Not, IsNull, IsNotNull, ListLength}
use Rattle.scan_expr.specs.Expr.{is_root, Expr, root, row_index, literal, unary, binary, pack, Parts, no_parts, part}
use Rattle.scan_expr.specs.Infer.{infer}
use Rattle.scan_expr.specs.Needs.{other_names}
use Rattle.scan_expr.specs.Typing.{unary_fault, binary_fault}
use Rattle.scan_partition.specs.declared.item.Item.{Item}
use Rattle.scan_partition.specs.Items.{item_of, ItemOr}
use Rattle.scan_partition.specs.Expand.{masked, items_of, expanded_fields, null_root, here_root, expand_at, expand, expand_all}
use Rattle.scan_partition.specs.Partition.{Reads}
use Rattle.scan_partition.specs.Rows.{Distinct, IsRow, Agrees, item_type}
use Rattle.scan_partition.specs.Found.{AllFound}
use Rattle.scan_partition.proofs.Through.{through}
use Rattle.scan_partition.proofs.Having.{names_found, others_found}
use Rattle.scan_partition.proofs.Expanded.{is_root-sound, expand_seen, blank, blank-even}
use Rattle.scan_partition.proofs.Pushed.{nullability_of-pushed, expand_like}
use Rattle.scan_partition.proofs.Bare.{expand-bare}
use Rattle.scan_partition.proofs.Typed.{NodesTyped, AllNodesTyped, ThroughTyped, AllThroughTyped, get_typed, chosen_found, unary_fault-same, binary_fault-same}

faulty : (f : BindFault) → Some f ≡ None → ⊥
faulty f h = cc

-- ---- over the struct itself
module _ (fs : Fields) (n : Nullability) (d : Distinct fs) where
  items_typed : (ns : List Name) → AllFound fs ns → AllNodesTyped (struct_type fs n) (items_of ns)
  items_typed [] h = tt
  items_typed (f ∷ ns) h = ((get_typed f fs h.0, tt), items_typed ns h.1)

  masked_typed : (m : Nullability) (e : Expr) → NodesTyped (struct_type fs n) e → NodesTyped (struct_type fs n) (masked m e)
  masked_typed NonNullable e t = t
  masked_typed Nullable e t = (refl, t, (refl, tt))

  fields_typed : (ns : List Name) → AllFound fs ns → NodesTyped (struct_type fs n) (expanded_fields n ns)
  fields_typed ns h = masked_typed n (pack (items_of ns) NonNullable) (items_typed ns h)

  null_typed : (m : Nullability) → NodesTyped (struct_type fs n) (null_root m)
  null_typed NonNullable = refl
  null_typed Nullable = (refl, (refl, tt))

  here_typed : (m : Nullability) → NodesTyped (struct_type fs n) (here_root m)
  here_typed NonNullable = refl
  here_typed Nullable = (refl, tt)

  at_root_typed : (u : Unary) → unary_fault u (struct_type fs n) ≡ None → NodesTyped (struct_type fs n) (expand_at (struct_type fs n) u)
  at_root_typed (GetItem f) h = masked_typed n (unary (GetItem f) root) (h, tt)
  at_root_typed (Select ns) h = fields_typed ns (chosen_found ns fs h)
  at_root_typed (Exclude ns) h = fields_typed (other_names ns fs) (others_found ns fs)
  at_root_typed Not h = absurd (faulty _ h)
  at_root_typed IsNull h = null_typed n
  at_root_typed IsNotNull h = here_typed n
  at_root_typed ListLength h = absurd (faulty _ h)

  expand-null : (e : Expr) → nullability_of (infer (struct_type fs n) (expand (struct_type fs n) e)) ≡ nullability_of (infer (struct_type fs n) e)
  expand-null e = sym (nullability_of-pushed (infer (struct_type fs n) (expand (struct_type fs n) e))) ∙ ap nullability_of (expand_like fs n (struct (blank fs)) 0 d (blank-even fs) e).dtype ∙ nullability_of-pushed (infer (struct_type fs n) e)

  mutual
    pub expand_typed : (e : Expr) → NodesTyped (struct_type fs n) e → NodesTyped (struct_type fs n) (expand (struct_type fs n) e)
    expand_typed root t = fields_typed (field_names fs) (names_found fs)
    expand_typed row_index t = tt
    expand_typed (literal c v) t = t
    expand_typed (unary u e) t = go (is_root e) (is_root-sound e) (expand_typed e t.1)
      where
        go : (b : Bool) → (b ≡ true → e ≡ root) → NodesTyped (struct_type fs n) (expand (struct_type fs n) e) → NodesTyped (struct_type fs n) (cond b (expand_at (struct_type fs n) u) (unary u (expand (struct_type fs n) e)))
        go true r x = at_root_typed u (subst (λ y. unary_fault u (infer (struct_type fs n) y) ≡ None) (r refl) t.0)
        go false r x = (unary_fault-same u (infer (struct_type fs n) (expand (struct_type fs n) e)) (infer (struct_type fs n) e) (expand-bare fs n d e) ∙ t.0, x)
    expand_typed (binary b x y) t = (
      binary_fault-same (infer (struct_type fs n) (expand (struct_type fs n) x)) (infer (struct_type fs n) x) (infer (struct_type fs n) (expand (struct_type fs n) y)) (infer (struct_type fs n) y) (expand-bare fs n d x) (expand-bare fs n d y) b (expand-null y) ∙ t.0,
      expand_typed x t.1,
      expand_typed y t.2,
    )
    expand_typed (pack ps m) t = expand_parts_typed ps t

    expand_parts_typed : (ps : Parts) → AllNodesTyped (struct_type fs n) ps → AllNodesTyped (struct_type fs n) (expand_all (struct_type fs n) ps)
    expand_parts_typed no_parts t = tt
    expand_parts_typed (part m e ps) t = (expand_typed e t.0, expand_parts_typed ps t.1)

-- ---- through the items
module _ (fs : Fields) (w : Item → Marked) (k : ℕ) where
  abbrev reads : Reads
  reads i = (item_type fs i, w i)

  items_through : (ns : List Name) → AllThroughTyped reads k (items_of ns)
  items_through [] = tt
  items_through (f ∷ ns) = (tt, items_through ns)

  masked_through : (m : Nullability) (e : Expr) → ThroughTyped reads k e → ThroughTyped reads k (masked m e)
  masked_through NonNullable e t = t
  masked_through Nullable e t = (refl, t, tt)

  fields_through : (m : Nullability) (ns : List Name) → ThroughTyped reads k (expanded_fields m ns)
  fields_through m ns = masked_through m (pack (items_of ns) NonNullable) (items_through ns)

  null_through : (m : Nullability) → ThroughTyped reads k (null_root m)
  null_through NonNullable = refl
  null_through Nullable = (refl, tt)

  here_through : (m : Nullability) → ThroughTyped reads k (here_root m)
  here_through NonNullable = refl
  here_through Nullable = tt

  at_root_through : (n : Nullability) (u : Unary) → unary_fault u (struct_type fs n) ≡ None → ThroughTyped reads k (expand_at (struct_type fs n) u)
  at_root_through n (GetItem f) h = masked_through n (unary (GetItem f) root) tt
  at_root_through n (Select ns) h = fields_through n ns
  at_root_through n (Exclude ns) h = fields_through n (other_names ns fs)
  at_root_through n Not h = absurd (faulty _ h)
  at_root_through n IsNull h = null_through n
  at_root_through n IsNotNull h = here_through n
  at_root_through n ListLength h = absurd (faulty _ h)

  module _ (n : Nullability) (v : Marked) (d : Distinct fs) (a : IsRow fs n v) (g : Agrees fs v w) where
    mutual
      pub expand_through : (e : Expr) → NodesTyped (struct_type fs n) e → ThroughTyped reads k (expand (struct_type fs n) e)
      expand_through root t = fields_through n (field_names fs)
      expand_through row_index t = tt
      expand_through (literal c m) t = t
      expand_through (unary u e) t = go (is_root e) (is_root-sound e) (expand_through e t.1)
        where
          under : (o : Option Item) → ThroughTyped reads k (expand (struct_type fs n) e) → ItemOr o ((unary_fault u (through reads k (expand (struct_type fs n) e)).0 ≡ None) × ThroughTyped reads k (expand (struct_type fs n) e))
          under None x = (ap (λ y. unary_fault u y.0) (expand_seen fs w k n v d a g e) ∙ t.0, x)
          under (Some i) x = tt

          go : (b : Bool) → (b ≡ true → e ≡ root) → ThroughTyped reads k (expand (struct_type fs n) e) → ThroughTyped reads k (cond b (expand_at (struct_type fs n) u) (unary u (expand (struct_type fs n) e)))
          go true r x = at_root_through n u (subst (λ y. unary_fault u (infer (struct_type fs n) y) ≡ None) (r refl) t.0)
          go false r x = under (item_of u (expand (struct_type fs n) e)) x
      expand_through (binary b x y) t = ((λ i. binary_fault b (expand_seen fs w k n v d a g x i).0 (expand_seen fs w k n v d a g y i).0) ∙ t.0, expand_through x t.1, expand_through y t.2)
      expand_through (pack ps m) t = expand_parts_through ps t

      expand_parts_through : (ps : Parts) → AllNodesTyped (struct_type fs n) ps → AllThroughTyped reads k (expand_all (struct_type fs n) ps)
      expand_parts_through no_parts t = tt
      expand_parts_through (part m e ps) t = (expand_through e t.0, expand_parts_through ps t.1)
