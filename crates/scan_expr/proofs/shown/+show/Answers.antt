use Rattle.std.proofs.Common.{◌≡◌, ◌+◌, ◌*◌, ◌==◌, ◌<◌, drop, map, length, true, refl, ap, arith, rules}
use Rattle.std.proofs.Math.ListN.{drop_of_length-le}
use Rattle.std.proofs.Output.{has_written_of_eq}
use Rattle.scan_expr.specs.Expr.{parts_of, expr_size, parts_size}
use Rattle.scan_expr.specs.Shown.{shown_expr, shown_part, shown_parts}
use Rattle.scan_values.proofs.Left.{begun, goes_on, ended}
use Rattle.scan_expr.proofs.Showing.{next_part, unary_falls, binary_falls, pack_falls}
use Rattle.scan_expr.proofs.shown.+show.Goals as goal

pub show_parts-loop-i-init : goal.show_parts-loop-i-init
show_parts-loop-i-init g t c = λ p. begun g.W.Write.write_str_gives _ _ p

pub show_parts-returns : goal.show_parts-returns
show_parts-returns g t c =
    λ p ok.
    ended g.W.Write.write_str_gives _ _ _ _
    (ap (λ ts. shown_parts (c.loop-i.i == 0) (parts_of (drop c.loop-i.i c.args.names.now) (map g.T.Tree.expr ts))) (drop_of_length-le c.args.parts.now (omega arith)))
    (c.loop-i.invariant p)

pub show_parts-show_part-requires : goal.show_parts-show_part-requires
show_parts-show_part-requires g t c κs within =
    let e = (next_part g.T.Tree.expr c.args.names.now c.args.parts.now c.loop-i.i c.index-names-i.result c.index-parts-i.result (omega (arith, c.requires)) (omega arith) c.index-names-i.is c.index-parts-i.is).0 in
    let smaller : 4 * expr_size (g.T.Tree.expr c.index-parts-i.result) + 1 < 4 * parts_size (parts_of c.args.names.now (map g.T.Tree.expr c.args.parts.now)) + 2 = omega (arith, e) in
    search rules

pub show_parts-loop-i-preserved : goal.show_parts-loop-i-preserved
show_parts-loop-i-preserved g t c =
    λ p.
    let so_far = c.loop-i.invariant p in
    goes_on g.W.Write.write_str_gives _ _ _ _ (shown_part (c.loop-i.i == 0) c.index-names-i.result (g.T.Tree.expr c.index-parts-i.result)) _ _
    (next_part g.T.Tree.expr c.args.names.now c.args.parts.now c.loop-i.i c.index-names-i.result c.index-parts-i.result (omega (arith, c.requires)) (omega arith) c.index-names-i.is c.index-parts-i.is).1
    so_far (c.in_ok-show_part.ensures so_far.wrote.plain (refl {a = true}))

pub show_tree-show_unary-requires : goal.show_tree-show_unary-requires
show_tree-show_unary-requires g t c κs within =
    let e = unary_falls c.in-Unary.op.now (g.T.Tree.expr c.in-Unary.e.now) (g.T.Tree.expr c.args.tree.now) c.in-Unary.ensures.expr in
    let smaller : 4 * expr_size (g.T.Tree.expr c.in-Unary.e.now) + 1 < 4 * expr_size (g.T.Tree.expr c.args.tree.now) = omega (arith, e) in
    search rules

pub show_tree-show_binary-requires : goal.show_tree-show_binary-requires
show_tree-show_binary-requires g t c κs within =
    let a = g.T.Tree.expr c.in-Binary.a.now in
    let b = g.T.Tree.expr c.in-Binary.b.now in
    let e = binary_falls c.in-Binary.op a b (g.T.Tree.expr c.args.tree.now) c.in-Binary.ensures.expr in
    let smaller : 4 * (expr_size a + expr_size b) + 1 < 4 * expr_size (g.T.Tree.expr c.args.tree.now) = omega (arith, e) in
    search rules

pub show_tree-show_pack-requires : goal.show_tree-show_pack-requires
show_tree-show_pack-requires g t c κs within =
    let ps = parts_of c.in-Pack.names.now (map g.T.Tree.expr c.in-Pack.parts.now) in
    let e = pack_falls ps c.in-Pack.n (g.T.Tree.expr c.args.tree.now) c.in-Pack.ensures.expr in
    let smaller : 4 * parts_size ps + 3 < 4 * expr_size (g.T.Tree.expr c.args.tree.now) = omega (arith, e) in
    let even : length c.in-Pack.parts.now ≡ length c.in-Pack.names.now = c.in-Pack.ensures.even in
    search rules

pub show_tree-returns-in-Literal : goal.show_tree-returns-in-Literal
show_tree-returns-in-Literal g t c = λ p ok. has_written_of_eq g.W.Write.write_str_gives _ _ _ _ (ap shown_expr c.in-Literal.ensures.expr) (c.show_literal.ensures p ok)

pub show_tree-returns-in-Unary : goal.show_tree-returns-in-Unary
show_tree-returns-in-Unary g t c = λ p ok. has_written_of_eq g.W.Write.write_str_gives _ _ _ _ (ap shown_expr c.in-Unary.ensures.expr) (c.show_unary.ensures p ok)

pub show_tree-returns-in-Binary : goal.show_tree-returns-in-Binary
show_tree-returns-in-Binary g t c = λ p ok. has_written_of_eq g.W.Write.write_str_gives _ _ _ _ (ap shown_expr c.in-Binary.ensures.expr) (c.show_binary.ensures p ok)

pub show_tree-returns-in-Pack : goal.show_tree-returns-in-Pack
show_tree-returns-in-Pack g t c = λ p ok. has_written_of_eq g.W.Write.write_str_gives _ _ _ _ (ap shown_expr c.in-Pack.ensures.expr) (c.show_pack.ensures p ok)
