-- Where the root reads a part of a group.
use Rattle.std.proofs.Common.{◌≡◌, ℕ, ◌≤◌, ◌<◌, zero, suc, Bool, true, false, cond, Some, None, List, [], ◌∷◌, length, map, get_or, refl, ap, ◌∙◌, arith}
use Rattle.std.specs.Fmt.{decimal}
use Rattle.std.proofs.lemmas.List.{length-map}
use Rattle.scan_values.specs.DataType.{DataType}
use Rattle.scan_expr.specs.Bound.{Bound, bound_of}
use Rattle.scan_expr.specs.Expr.{Expr, root, unary}
use Rattle.scan_expr.specs.Infer.{infer}
use Rattle.scan_expr.specs.Typing.{unary_fault}
use Rattle.scan_expr.specs.declared.op.Unary.TheVariants.{GetItem}
use Rattle.scan_partition.specs.declared.item.Item.{Item}
use Rattle.scan_partition.specs.declared.groups.Group.{Group as LentGroup}
use Rattle.scan_partition.specs.Items.{item_name, same_item}
use Rattle.scan_partition.specs.Partition.{Group, leaf_of}
use Rattle.scan_partition.specs.Places.{one_later, index_of}
use Rattle.scan_partition.specs.Planted.{item_root}
use Rattle.scan_partition.specs.Plans.{group_seen}
use Rattle.scan_partition.specs.Rewrite.{NodesHold}
use Rattle.scan_partition.proofs.Adding.{later, not_first, first_is}
use Rattle.scan_partition.proofs.Through.{same_item-sound}

abbrev item_access : Item → Expr
item_access i = unary (GetItem (item_name i)) root

item_at : (i : Item) (gs : List Group) (k : ℕ) (s : DataType) (b : Bound) → index_of i gs ≡ Some k → get_or (map (item_root s) gs) k b ≡ bound_of s (item_access i)
item_at i [] k s b p = cc
item_at i (g ∷ gs) zero s b p = go (same_item g.0 i) (same_item-sound g.0 i) p
  where
    go : (t : Bool) → (t ≡ true → g.0 ≡ i) → cond t (Some 0) (one_later (index_of i gs)) ≡ Some zero → bound_of s (item_access g.0) ≡ bound_of s (item_access i)
    go true e q = ap (λ j. bound_of s (item_access j)) (e refl)
    go false e q = not_first (index_of i gs) q
item_at i (g ∷ gs) (suc k) s b p = go (same_item g.0 i) p (item_at i gs k s b)
  where
    go : (t : Bool) → cond t (Some 0) (one_later (index_of i gs)) ≡ Some (suc k) → (index_of i gs ≡ Some k → get_or (map (item_root s) gs) k b ≡ bound_of s (item_access i)) → get_or (map (item_root s) gs) k b ≡ bound_of s (item_access i)
    go true q f = first_is k q
    go false q f = f (later (index_of i gs) k q)

-- the access of a group's item, among those of all groups
pub group_item : (i : Item) (gs : List Group) (bs : List Bound) (k : ℕ) (s : DataType) (b : Bound) → index_of i gs ≡ Some k → bs ≡ map (item_root s) gs → b ≡ get_or bs k b → b ≡ bound_of s (unary (GetItem (item_name i)) root)
group_item i gs bs k s b p m e = e ∙ ap (λ xs. get_or xs k b) m ∙ item_at i gs k s b p

pub as_many : (s : DataType) (gs : List LentGroup) (bs : List Bound) → bs ≡ map (item_root s) (map group_seen gs) → length bs ≡ length gs
as_many s gs bs m = ap length m ∙ length-map (map group_seen gs) (item_root s) ∙ length-map gs group_seen

-- ---- a part that is alone is read of the item itself, another by its number
pub leaf_alone : (es : List Expr) (i : Item) (k : ℕ) → length es ≤ 1 → leaf_of es i k ≡ unary (GetItem (item_name i)) root
leaf_alone [] i k h = refl
leaf_alone (e ∷ []) i k h = refl
leaf_alone (e ∷ f ∷ es) i k h = absurd (omega arith)

pub leaf_more : (es : List Expr) (i : Item) (k : ℕ) → 1 < length es → leaf_of es i k ≡ unary (GetItem (decimal k)) (unary (GetItem (item_name i)) root)
leaf_more [] i k h = absurd (omega arith)
leaf_more (e ∷ []) i k h = absurd (omega arith)
leaf_more (e ∷ f ∷ es) i k h = refl

pub leaf_fits : (s : DataType) (es : List Expr) (i : Item) (k : ℕ) → 1 < length es → NodesHold s (leaf_of es i k) → unary_fault (GetItem (decimal k)) (infer s (unary (GetItem (item_name i)) root)) ≡ None
leaf_fits s [] i k h f = absurd (omega arith)
leaf_fits s (e ∷ []) i k h f = absurd (omega arith)
leaf_fits s (e ∷ g ∷ es) i k h f = f.0
