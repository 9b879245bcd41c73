-- The root of a partition, leaf by leaf.
use Rattle.std.specs.Prelude.{List, [], ◌∷◌, ◌++◌}
use Rattle.scan_values.specs.DataType.{DataType}
use Rattle.scan_partition.specs.Rewrite.{NodesHold}
use Rattle.scan_values.specs.declared.ptype.Nullability.{Nullability}
use Rattle.scan_expr.specs.Bound.{Bound, bound_of}
use Rattle.scan_expr.specs.declared.op.Unary.{Unary}
use Rattle.scan_expr.specs.declared.op.Unary.TheVariants.{GetItem}
use Rattle.scan_expr.specs.declared.op.Binary.{Binary}
use Rattle.scan_expr.specs.Expr.{Expr, root, row_index, literal, unary, binary, pack, Parts, no_parts, part}
use Rattle.scan_partition.specs.Items.{item_name, Use, no_use, one, many, use_of}
use Rattle.scan_partition.specs.Partition.{Cut, Group, Leaf, found, count_item, leaf_of}

-- each cut by its item, and how many of the item's stand before it
abbrev pub numbered_cuts : List Cut → List Cut → List Leaf
numbered_cuts before [] = []
numbered_cuts before (c ∷ cs) = (c.0, count_item c.0 before) ∷ numbered_cuts (before ++ c ∷ []) cs

-- `$.item`
abbrev pub item_root : DataType → Group → Bound
item_root s g = bound_of s (unary (GetItem (item_name g.0)) root)

-- an expression, with the leaves that are left
abbrev pub Planted : Type 0
Planted = Expr × List Leaf

abbrev pub PartsPlanted : Type 0
PartsPlanted = Parts × List Leaf

abbrev pub first_leaf : List Group → List Leaf → Planted
first_leaf gs [] = (root, [])
first_leaf gs (l ∷ ls) = (leaf_of (found l.0 gs) l.0 l.1, ls)

abbrev pub leaf_or_planted : Use → List Group → List Leaf → Planted → Planted
leaf_or_planted no_use gs ls p = p
leaf_or_planted (one i) gs ls p = first_leaf gs ls
leaf_or_planted many gs ls p = p

abbrev pub unary_planted : Unary → Planted → Planted
unary_planted u p = (unary u p.0, p.1)

abbrev pub binary_planted : Binary → Planted → Planted → Planted
binary_planted b p q = (binary b p.0 q.0, q.1)

abbrev pub pack_planted : Nullability → PartsPlanted → Planted
pack_planted n p = (pack p.0 n, p.1)

abbrev mutual
  pub planted : List Group → List Leaf → Expr → Planted
  planted gs ls root = (root, ls)
  planted gs ls row_index = (row_index, ls)
  planted gs ls (literal d v) = (literal d v, ls)
  planted gs ls (unary u e) = leaf_or_planted (use_of (unary u e)) gs ls (unary_planted u (planted gs ls e))
  planted gs ls (binary b x y) = leaf_or_planted (use_of (binary b x y)) gs ls (binary_planted b (planted gs ls x) (planted gs (planted gs ls x).1 y))
  planted gs ls (pack ps n) = leaf_or_planted (use_of (pack ps n)) gs ls (pack_planted n (all_planted gs ls ps))

  pub all_planted : List Group → List Leaf → Parts → PartsPlanted
  all_planted gs ls no_parts = (no_parts, ls)
  all_planted gs ls (part n e ps) = (part n (planted gs ls e).0 (all_planted gs (planted gs ls e).1 ps).0, (all_planted gs (planted gs ls e).1 ps).1)

-- the parts of an expression that is no leaf
abbrev pub parts_planted : List Group → List Leaf → Expr → Planted
parts_planted gs ls root = (root, ls)
parts_planted gs ls row_index = (row_index, ls)
parts_planted gs ls (literal d v) = (literal d v, ls)
parts_planted gs ls (unary u e) = unary_planted u (planted gs ls e)
parts_planted gs ls (binary b x y) = binary_planted b (planted gs ls x) (planted gs (planted gs ls x).1 y)
parts_planted gs ls (pack ps n) = pack_planted n (all_planted gs ls ps)

-- several expressions, one after another
abbrev pub list_planted : List Group → List Leaf → List Expr → List Expr × List Leaf
list_planted gs ls [] = ([], ls)
list_planted gs ls (e ∷ es) = ((planted gs ls e).0 ∷ (list_planted gs (planted gs ls e).1 es).0, (list_planted gs (planted gs ls e).1 es).1)

abbrev pub AllFit : DataType → List Expr → Type 0
AllFit s [] = Unit {0}
AllFit s (e ∷ es) = NodesHold s e × AllFit s es
