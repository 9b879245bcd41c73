use Rattle.std.proofs.Common.{rules, ◌<◌, ap, sym, ◌∙◌}
use Rattle.scan_expr.specs.Expr.{expr_size}
use Rattle.scan_partition.specs.Items.{both}
use Rattle.scan_partition.specs.Soles.{sole_of}
use Rattle.scan_partition.proofs.Rewriting.{part_smaller}
use Rattle.scan_partition.proofs.Uses.{folded_step, pack_use, pack_use_early}
use Rattle.scan_partition.proofs.cuts.+items_used.Goals as goal

pub returns-in-Many : goal.returns-in-Many
returns-in-Many t c =
    pack_use_early c.in-Pack.field-0.now c.in-Pack.parts.now c.in-Pack.field-2 c.args.expr.now.expr c.loop-part.part-index c.in-Pack.ensures.expr (sym c.loop-part.invariant ∙ ap sole_of c.in-Many.is)

pub items_used-requires-in-loop-part : goal.items_used-requires-in-loop-part
items_used-requires-in-loop-part t c =
    let smaller : expr_size c.part-item.result.expr < expr_size c.args.expr.now.expr =
    part_smaller c.in-Pack.field-0.now c.in-Pack.parts.now c.in-Pack.field-2 _ c.loop-part.part-index c.part-item.result c.in-Pack.ensures.expr c.loop-part-test.true c.part-item.is in
    (search rules, tt)

pub loop-part-preserved : goal.loop-part-preserved
loop-part-preserved t c =
    c.both_soles-all.ensures ∙ (λ i. both (c.loop-part.invariant i) (c.items_used-in-loop-part.ensures i)) ∙ sym (folded_step _ c.in-Pack.parts.now c.loop-part.part-index c.part-item.result c.loop-part-test.true c.part-item.is)

pub returns-after-loop-part : goal.returns-after-loop-part
returns-after-loop-part t c =
    pack_use c.in-Pack.field-0.now c.in-Pack.parts.now c.in-Pack.field-2 c.args.expr.now.expr c.loop-part.part-index _ c.in-Pack.ensures.expr c.loop-part-test.false c.loop-part.invariant
