use Rattle.std.proofs.Common.{rules, ◌<◌, true, false, sym, ◌∙◌}
use Rattle.scan_expr.specs.Expr.{expr_size}
use Rattle.scan_partition.proofs.Rewriting.{part_smaller}
use Rattle.scan_partition.proofs.RootUses.{root_step, pack_root, pack_rootless}
use Rattle.scan_partition.proofs.row_idx.+uses_root.Goals as goal

pub uses_root-requires-in-loop-part : goal.uses_root-requires-in-loop-part
uses_root-requires-in-loop-part t c =
    let smaller : expr_size c.part-item.result.expr < expr_size c.args.expr.now.expr =
    part_smaller c.in-Pack.field-0.now c.in-Pack.parts.now c.in-Pack.field-2 _ c.loop-part.part-index c.part-item.result c.in-Pack.ensures.expr c.loop-part-test.true c.part-item.is in
    (search rules, tt)

pub loop-part-preserved : goal.loop-part-preserved
loop-part-preserved t c =
    c.loop-part.invariant ∙ root_step c.in-Pack.parts.now c.loop-part.part-index c.part-item.result false c.loop-part-test.true c.part-item.is (sym c.uses_root-in-loop-part.ensures ∙ c.if-uses_root-2.false)

pub returns-then-uses_root-2 : goal.returns-then-uses_root-2
returns-then-uses_root-2 t c =
    pack_root c.in-Pack.field-0.now c.in-Pack.parts.now c.in-Pack.field-2 c.args.expr.now.expr c.loop-part.part-index true c.in-Pack.ensures.expr c.loop-part.invariant
    (root_step c.in-Pack.parts.now c.loop-part.part-index c.part-item.result true c.loop-part-test.true c.part-item.is (sym c.uses_root-in-loop-part.ensures ∙ c.if-uses_root-2.true))

pub returns-after-loop-part : goal.returns-after-loop-part
returns-after-loop-part t c = pack_rootless c.in-Pack.field-0.now c.in-Pack.parts.now c.in-Pack.field-2 c.args.expr.now.expr c.loop-part.part-index c.in-Pack.ensures.expr c.loop-part.invariant c.loop-part-test.false
