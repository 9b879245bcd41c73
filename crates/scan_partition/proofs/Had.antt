-- The items of a partitioned expression are the struct's.
use Rattle.std.proofs.Common.{◌≡◌, List, [], ◌∷◌, map, refl, subst}
use Rattle.scan_values.specs.DataType.{DataType, nullability_of}
use Rattle.scan_expr.specs.Bound.{Bound}
use Rattle.scan_expr.specs.Expr.{Expr}
use Rattle.scan_expr.specs.Infer.{struct_fields}
use Rattle.scan_partition.specs.declared.item.Item.{Item}
use Rattle.scan_partition.specs.Conditions.{IsStruct}
use Rattle.scan_partition.specs.Expand.{expand}
use Rattle.scan_partition.specs.Had.{IsItemOf, AreItemsOf, HasItems, ReadsItemsOf, ItemsOf}
use Rattle.scan_partition.specs.Items.{Use, no_use, one, many, use_of}
use Rattle.scan_partition.specs.Partable.{IsPartable}
use Rattle.scan_partition.specs.Partition.{Group, Cut, cuts, groups_of}
use Rattle.scan_partition.specs.Split.{split_by, split_by_items}
use Rattle.scan_partition.proofs.Dividing.{CutsAll, SomeOf, GroupsAll, collected_all}
use Rattle.scan_partition.proofs.Having.{CutsOf, cuts_items, expand-items, UseOf, use_items}
use Rattle.scan_partition.proofs.Partable.{partable_over}

module _ (s : DataType) where
  abbrev ItemOk : Item → Expr → Type 0
  ItemOk i e = IsItemOf (struct_fields s) (nullability_of s) i

  cuts_had : (cs : List Cut) → CutsOf (struct_fields s) (nullability_of s) cs → CutsAll ItemOk cs
  cuts_had [] h = tt
  cuts_had (c ∷ cs) h = (h.0, cuts_had cs h.1)

  some_had : (i : Item) (es : List Expr) → SomeOf ItemOk i es → IsItemOf (struct_fields s) (nullability_of s) i
  some_had i [] a = absurd a
  some_had i (e ∷ es) a = a.0

  groups_had : (gs : List Group) → GroupsAll ItemOk gs → AreItemsOf s (map (λ (g : Group). g.0) gs)
  groups_had [] a = tt
  groups_had (g ∷ gs) a = (some_had g.0 g.1 a.0, groups_had gs a.1)

  pub items_had : (e : Expr) → ReadsItemsOf s e → AreItemsOf s (map (λ (g : Group). g.0) (groups_of (cuts e)))
  items_had e h = groups_had (groups_of (cuts e)) (collected_all ItemOk [] (cuts e) tt (cuts_had (cuts e) (cuts_items (struct_fields s) (nullability_of s) e h)))

pub expanded_had : (b : Bound) → IsPartable b → IsStruct b.scope → ReadsItemsOf b.scope (expand b.scope b.expr)
expanded_had b p st =
    subst (λ (t : DataType). ItemsOf (struct_fields b.scope) (nullability_of b.scope) (expand t b.expr)) st (expand-items (struct_fields b.scope) (nullability_of b.scope) b.expr (partable_over b p st).found)

pub split_had : (b : Bound) → IsPartable b → IsStruct b.scope → HasItems b.scope (split_by_items b.scope (expand b.scope b.expr))
split_had b p st = go (use_of (expand b.scope b.expr)) refl
  where
    all : AreItemsOf b.scope (map (λ (g : Group). g.0) (groups_of (cuts (expand b.scope b.expr))))
    all = items_had b.scope (expand b.scope b.expr) (expanded_had b p st)

    go : (w : Use) → use_of (expand b.scope b.expr) ≡ w → HasItems b.scope (split_by w b.scope (expand b.scope b.expr))
    go no_use u = all
    go (one i) u = subst (UseOf (struct_fields b.scope) (nullability_of b.scope)) u (use_items (struct_fields b.scope) (nullability_of b.scope) (expand b.scope b.expr) (expanded_had b p st))
    go many u = all
