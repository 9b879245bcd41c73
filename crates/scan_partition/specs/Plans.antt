-- What a contract sees of groups of lent cuts.
use Rattle.std.specs.Prelude.{List, map}
use Rattle.std.specs.Borrow.{Bor}
use Rattle.scan_expr.specs.Expr.{Expr}
use Rattle.scan_expr.specs.Bound.{Bound}
use Rattle.scan_partition.specs.Partition.{Group, Leaf}
use Rattle.scan_partition.specs.Soles.{item_seen}
use Rattle.scan_partition.specs.declared.groups.Group.{Group as LentGroup}
use Rattle.scan_partition.specs.declared.groups.Leaf.{Leaf as LentLeaf}

abbrev pub lent_exprs : List (Bor Bound) → List Expr
lent_exprs = map (λ b. b.now.expr)

abbrev pub group_seen : LentGroup → Group
group_seen g = (item_seen g.item, lent_exprs g.parts.items)

abbrev pub leaf_seen : LentLeaf → Leaf
leaf_seen l = (item_seen l.item, l.number)
