use Rattle.std.proofs.Common.{rules, ◌<◌, sym, ◌∙◌}
use Rattle.scan_expr.specs.Expr.{expr_size}
use Rattle.scan_readers.proofs.Scopes.{part_smaller, pack_true, pack_false}
use Rattle.scan_readers.proofs.reading.+reads_scope.Goals as goal

pub reads_scope-requires-in-loop-part : goal.reads_scope-requires-in-loop-part
reads_scope-requires-in-loop-part t c =
    let smaller : expr_size c.part-item.result.expr < expr_size c.args.expr.now.expr =
    part_smaller c.in-Pack.field-0.now c.in-Pack.parts.now c.in-Pack.field-2 _ c.loop-part.part-index c.part-item.result c.in-Pack.ensures.expr c.loop-part-test.true c.part-item.is in
    (search rules, tt)

pub returns-then-reads_scope : goal.returns-then-reads_scope
returns-then-reads_scope t c = pack_true c.in-Pack.field-0.now c.in-Pack.parts.now c.in-Pack.field-2 c.args.expr.now.scope c.args.expr.now.expr c.loop-part.part-index c.part-item.result c.in-Pack.ensures.expr
    c.loop-part.invariant c.loop-part-test.true c.part-item.is c.in-Pack.ensures.scope.0 (sym c.if-reads_scope.true ∙ c.reads_scope-in-loop-part.ensures)

pub returns-after-loop-part : goal.returns-after-loop-part
returns-after-loop-part t c = pack_false c.in-Pack.field-0.now c.in-Pack.parts.now c.in-Pack.field-2 c.args.expr.now.scope c.args.expr.now.expr c.loop-part.part-index c.in-Pack.ensures.expr c.loop-part.invariant c.loop-part-test.false
