-- An expanded expression, taken apart by its items.
use Rattle.std.specs.Prelude.{ℕ, ◌+◌, length, cond, List, [], ◌∷◌, ◌++◌, Option, Some, None}
use Rattle.std.specs.Fmt.{decimal}
use Rattle.scan_values.specs.DataType.{DataType, struct_type, Fields, no_fields, field}
use Rattle.scan_values.specs.declared.ptype.Nullability.TheVariants.{NonNullable}
use Rattle.scan_values.specs.Marked.{Marked, struct, Markeds, none, more}
use Rattle.scan_expr.specs.Infer.{infer}
use Rattle.scan_expr.specs.Eval.{eval}
use Rattle.scan_partition.specs.declared.item.Item.{Item}
use Rattle.scan_partition.specs.Items.{item_name, same_item, item_of, Use, no_use, one, many, use_of}
use Rattle.scan_expr.specs.declared.op.Unary.TheVariants.{GetItem}
use Rattle.scan_expr.specs.Expr.{Expr, root, row_index, literal, unary, binary, pack, Parts, no_parts, part}

abbrev pub or_root : Option Item → Expr → Expr
or_root None e = e
or_root (Some i) e = root

-- each item becomes `$`
abbrev mutual
  pub step_into : Expr → Expr
  step_into root = root
  step_into row_index = row_index
  step_into (literal d m) = literal d m
  step_into (unary u e) = or_root (item_of u e) (unary u (step_into e))
  step_into (binary b x y) = binary b (step_into x) (step_into y)
  step_into (pack ps n) = pack (step_into_all ps) n

  pub step_into_all : Parts → Parts
  step_into_all no_parts = no_parts
  step_into_all (part n e ps) = part n (step_into e) (step_into_all ps)

-- a maximal part of an expression that uses one item
abbrev pub Cut : Type 0
Cut = Item × Expr

abbrev pub cut_or : Use → Expr → List Cut → List Cut
cut_or no_use e cs = cs
cut_or (one i) e cs = (i, e) ∷ []
cut_or many e cs = cs

-- from left to right
abbrev mutual
  pub cuts : Expr → List Cut
  cuts root = []
  cuts row_index = []
  cuts (literal d m) = []
  cuts (unary u e) = cut_or (use_of (unary u e)) (unary u e) (cuts e)
  cuts (binary b x y) = cut_or (use_of (binary b x y)) (binary b x y) (cuts x ++ cuts y)
  cuts (pack ps n) = cut_or (use_of (pack ps n)) (pack ps n) (all_cuts ps)

  pub all_cuts : Parts → List Cut
  all_cuts no_parts = []
  all_cuts (part n e ps) = cuts e ++ all_cuts ps

-- those of its parts
abbrev pub part_cuts : Expr → List Cut
part_cuts root = []
part_cuts row_index = []
part_cuts (literal d m) = []
part_cuts (unary u e) = cuts e
part_cuts (binary b x y) = cuts x ++ cuts y
part_cuts (pack ps n) = all_cuts ps

-- the cuts of one item, in order
abbrev pub cuts_of : Item → List Cut → List Expr
cuts_of i [] = []
cuts_of i (c ∷ cs) = cond (same_item i c.0) (c.1 ∷ cuts_of i cs) (cuts_of i cs)

-- ---- groups
-- an item, with the cuts that use it
abbrev pub Group : Type 0
Group = Item × List Expr

-- a cut goes to its item's group, or begins one at the end
abbrev pub added : Item → Expr → List Group → List Group
added i e [] = (i, e ∷ []) ∷ []
added i e (g ∷ gs) = cond (same_item g.0 i) ((g.0, g.1 ++ e ∷ []) ∷ gs) (g ∷ added i e gs)

abbrev pub collected : List Group → List Cut → List Group
collected gs [] = gs
collected gs (c ∷ cs) = collected (added c.0 c.1 gs) cs

-- the expressions of an item
abbrev pub found : Item → List Group → List Expr
found i [] = []
found i (g ∷ gs) = cond (same_item g.0 i) g.1 (found i gs)

-- the groups of some cuts, each where its item first appears
abbrev pub groups_of : List Cut → List Group
groups_of cs = collected [] cs

-- expressions named 0, 1 and so on
abbrev pub numbered : ℕ → List Expr → Parts
numbered k [] = no_parts
numbered k (e ∷ es) = part (decimal k) e (numbered (k + 1) es)

abbrev pub part_of : List Expr → Expr
part_of [] = root
part_of (e ∷ []) = e
part_of (e ∷ f ∷ es) = pack (numbered 0 (e ∷ f ∷ es)) NonNullable

-- where the root reads part k of an item
abbrev pub leaf_of : List Expr → Item → ℕ → Expr
leaf_of [] i k = unary (GetItem (item_name i)) root
leaf_of (e ∷ []) i k = unary (GetItem (item_name i)) root
leaf_of (e ∷ f ∷ es) i k = unary (GetItem (decimal k)) (unary (GetItem (item_name i)) root)

-- a place of the root where a part is read: of which item, and as which of its parts
abbrev pub Leaf : Type 0
Leaf = Item × ℕ

-- how many cuts use an item
abbrev pub count_item : Item → List Cut → ℕ
count_item i cs = length (cuts_of i cs)

abbrev pub leaf_or : Use → List Cut → List Cut → Expr → Expr
leaf_or no_use all before e = e
leaf_or (one i) all before e = leaf_of (cuts_of i all) i (count_item i before)
leaf_or many all before e = e

-- the root, where all are the cuts of the whole and before those that stand before the expression
abbrev mutual
  pub root_of : List Cut → List Cut → Expr → Expr
  root_of all before root = root
  root_of all before row_index = row_index
  root_of all before (literal d m) = literal d m
  root_of all before (unary u e) = leaf_or (use_of (unary u e)) all before (unary u (root_of all before e))
  root_of all before (binary b x y) =
      leaf_or (use_of (binary b x y)) all before (binary b (root_of all before x) (root_of all (before ++ cuts x) y))
  root_of all before (pack ps n) = leaf_or (use_of (pack ps n)) all before (pack (roots_of all before ps) n)

  pub roots_of : List Cut → List Cut → Parts → Parts
  roots_of all before no_parts = no_parts
  roots_of all before (part n e ps) = part n (root_of all before e) (roots_of all (before ++ cuts e) ps)

-- ---- the struct that the root reads: a field for each item, of the dtype of its part, and its part's value
abbrev pub joined_fields : (Item → Expr → DataType) → List Group → Fields
joined_fields t [] = no_fields
joined_fields t (g ∷ gs) = field (item_name g.0) (t g.0 (part_of g.1)) (joined_fields t gs)

abbrev pub joined_values : (Item → Expr → Marked) → List Group → Markeds
joined_values m [] = none
joined_values m (g ∷ gs) = more (m g.0 (part_of g.1)) (joined_values m gs)

abbrev pub joined_type : (Item → Expr → DataType) → List Cut → DataType
joined_type t cs = struct_type (joined_fields t (groups_of cs)) NonNullable

abbrev pub joined_value : (Item → Expr → Marked) → List Cut → Marked
joined_value m cs = struct (joined_values m (groups_of cs))

-- parts stepped in, over what is read of each item
abbrev pub Reads : Type 0
Reads = Item → DataType × Marked

abbrev pub stepped_type : (Item → DataType) → Item → Expr → DataType
stepped_type d i e = infer (d i) (step_into e)

abbrev pub stepped_value : (Item → DataType) → (Item → Marked) → ℕ → Item → Expr → Marked
stepped_value d v k i e = eval (d i) (step_into e) (v i) k
