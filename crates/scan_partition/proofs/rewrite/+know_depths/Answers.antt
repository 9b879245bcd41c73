use Rattle.std.proofs.Common.{rules, ◌<◌, ◌≤◌, subst, arith}
use Rattle.scan_values.specs.DataType.{DataType, depth_of}
use Rattle.scan_expr.specs.Expr.{expr_size}
use Rattle.scan_partition.proofs.Rewriting.{part_smaller}
use Rattle.scan_partition.proofs.KnownDepths.{known_step, pack_known}
use Rattle.scan_partition.proofs.rewrite.+know_depths.Goals as goal

pub know_depths-requires-in-loop-part : goal.know_depths-requires-in-loop-part
know_depths-requires-in-loop-part t c =
    let smaller : expr_size c.part-item.result.expr < expr_size c.args.expr.now.expr =
    part_smaller c.in-Pack.field-0.now c.in-Pack.parts.now c.in-Pack.field-2 _ c.loop-part.part-index c.part-item.result c.in-Pack.ensures.expr c.loop-part-test.true c.part-item.is in
    (search rules, tt)

pub loop-part-preserved : goal.loop-part-preserved
loop-part-preserved t c = known_step c.in-Pack.parts.now c.loop-part.part-index c.part-item.result c.loop-part-test.true c.part-item.is c.know_depths-in-loop-part.ensures c.loop-part.invariant

pub returns-after-loop-part : goal.returns-after-loop-part
returns-after-loop-part t c =
    let deep : depth_of c.dtype.result.now ≤ 66 = omega (arith, c.depth-depth.ensures.value, c.depth-depth.ensures.bound) in
    pack_known c.args.expr.now.scope c.in-Pack.field-0.now c.in-Pack.parts.now c.in-Pack.field-2 c.args.expr.now.expr c.loop-part.part-index c.in-Pack.ensures.expr c.in-Pack.ensures.scope.0 (subst (λ (d : DataType). depth_of d ≤ 66) c.dtype.ensures.dtype deep)
    c.loop-part-test.false c.loop-part.invariant
