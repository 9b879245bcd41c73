use Rattle.std.proofs.Common.{◌≡◌, rules, ◌<◌, sym, ◌∙◌}
use Rattle.scan_expr.specs.Expr.{expr_size}
use Rattle.scan_partition.specs.Lists.{greater_of}
use Rattle.scan_partition.proofs.Rewriting.{part_smaller}
use Rattle.scan_partition.proofs.Necessary.{greatest_step, pack_needs}
use Rattle.scan_partition.proofs.ListUses.{greatest_is}
use Rattle.scan_partition.proofs.list_.+necessary_children.Goals as goal

pub necessary_children-requires-in-loop-part : goal.necessary_children-requires-in-loop-part
necessary_children-requires-in-loop-part t c =
    let smaller : expr_size c.part-item.result.expr < expr_size c.args.expr.now.expr =
    part_smaller c.in-Pack.field-0.now c.in-Pack.parts.now c.in-Pack.field-2 _ c.loop-part.part-index c.part-item.result c.in-Pack.ensures.expr c.loop-part-test.true c.part-item.is in
    (search rules, tt)

pub loop-part-preserved : goal.loop-part-preserved
loop-part-preserved t c =
    let greater : c.max-needed.result ≡ greater_of c.loop-part.needed c.necessary_children-in-loop-part.result = search rules in
    greater ∙ (λ i. greater_of (c.loop-part.invariant i) (c.necessary_children-in-loop-part.ensures.exact i)) ∙ sym (greatest_step _ c.in-Pack.parts.now c.loop-part.part-index c.part-item.result c.loop-part-test.true c.part-item.is)

pub returns-after-loop-part-clause-exact : goal.returns-after-loop-part-clause-exact
returns-after-loop-part-clause-exact t c = pack_needs c.in-Pack.field-0.now c.in-Pack.parts.now c.in-Pack.field-2 c.args.expr.now.expr c.loop-part.part-index _ c.in-Pack.ensures.expr c.loop-part-test.false c.loop-part.invariant

pub returns-else-is_root-clause-greatest : goal.returns-else-is_root-clause-greatest
returns-else-is_root-clause-greatest t c = search (rules, greatest_is)

pub returns-in-Binary-clause-greatest : goal.returns-in-Binary-clause-greatest
returns-in-Binary-clause-greatest t c = search (rules, greatest_is)

pub returns-after-loop-part-clause-greatest : goal.returns-after-loop-part-clause-greatest
returns-after-loop-part-clause-greatest t c = greatest_is _ c.args.expr.now.scope c.args.expr.now.expr (returns-after-loop-part-clause-exact t c)
