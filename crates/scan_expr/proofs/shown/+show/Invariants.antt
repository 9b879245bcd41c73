use Rattle.std.proofs.Common.{◌+◌, ◌*◌, ◌==◌, drop, map, true}
use Rattle.std.specs.Fmt.{IsPlainFormatter}
use Rattle.scan_values.proofs.Left.{Left}
use Rattle.scan_expr.specs.Expr.{expr_size, parts_size, parts_of}
use Rattle.scan_expr.specs.Shown.{shown_parts}
use Rattle.scan_expr.proofs.shown.+show.Given as goal

abbrev pub decreases-show_tree : goal.decreases-show_tree
decreases-show_tree g l = 4 * expr_size (g.T.Tree.expr l.tree.now)

abbrev pub decreases-show_unary : goal.decreases-show_unary
decreases-show_unary g l = 4 * expr_size (g.T.Tree.expr l.e.now) + 1

abbrev pub decreases-show_binary : goal.decreases-show_binary
decreases-show_binary g l = 4 * (expr_size (g.T.Tree.expr l.a.now) + expr_size (g.T.Tree.expr l.b.now)) + 1

abbrev pub decreases-show_part : goal.decreases-show_part
decreases-show_part g l = 4 * expr_size (g.T.Tree.expr l.part.now) + 1

abbrev pub decreases-show_parts : goal.decreases-show_parts
decreases-show_parts g l = 4 * parts_size (parts_of l.names.now (map g.T.Tree.expr l.parts.now)) + 2

abbrev pub decreases-show_pack : goal.decreases-show_pack
decreases-show_pack g l = 4 * parts_size (parts_of l.names.now (map g.T.Tree.expr l.parts.now)) + 3

abbrev pub invariant-show_parts-loop-i : goal.invariant-show_parts-loop-i
invariant-show_parts-loop-i g l =
    IsPlainFormatter l.initial.f → Left g.W.Write.write_str_gives l.initial.f (shown_parts true (parts_of l.names (map g.T.Tree.expr l.parts)))
    (shown_parts (l.i == 0) (parts_of (drop l.i l.names) (map g.T.Tree.expr (drop l.i l.parts)))) l.f
