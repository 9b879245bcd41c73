use Rattle.std.proofs.Common.{◌≡◌, rules, ◌<◌, ◌+◌, ◌*◌, ◌++◌, length, map, ap, sym, ◌∙◌, append_assoc, arith}
use Rattle.scan_expr.specs.Expr.{expr_size}
use Rattle.scan_partition.specs.Items.{both}
use Rattle.scan_partition.specs.Partition.{cuts}
use Rattle.scan_partition.specs.Soles.{sole_of, cut_seen}
use Rattle.scan_partition.proofs.Rewriting.{part_smaller}
use Rattle.scan_partition.proofs.Uses.{cuts_step, pack_cuts, folded_step, pack_use}
use Rattle.scan_partition.proofs.CutLists.{cut_whole}
use Rattle.scan_partition.proofs.cuts.+cutting.Goals as goal

pub add_cuts-returns-in_ok-push-in-One-clause-cuts : goal.add_cuts-returns-in_ok-push-in-One-clause-cuts
add_cuts-returns-in_ok-push-in-One-clause-cuts t c =
    let before : c.len-start.result ≡ length c.args.found.now.items = omega (arith, c.len-start.ensures, c.args.found.now.ok.0) in
    cut_whole c.args.found.now.items c.add_part_cuts.new.found.items c.truncate.new.self.items c.push.new.self.items c.len-start.result _ (record { item = c.in-One.item; expr = c.args.expr }) c.args.expr.now.expr before c.in_ok-used.ensures.cuts
    c.truncate.ensures.items c.in_ok-push-in-One.ensures.items (sym c.in_ok-used.ensures.used ∙ ap sole_of c.in-One.is)

pub add_part_cuts-add_cuts-requires-in-loop-part : goal.add_part_cuts-add_cuts-requires-in-loop-part
add_part_cuts-add_cuts-requires-in-loop-part t c =
    let smaller : expr_size c.part-item.result.expr < expr_size c.args.expr.now.expr =
    part_smaller c.in-Pack.field-0.now c.in-Pack.parts.now c.in-Pack.field-2 _ c.loop-part.part-index c.part-item.result c.in-Pack.ensures.expr c.loop-part-test.true c.part-item.is in
    let falls : 2 * expr_size c.part-item.result.expr + 1 < 2 * expr_size c.args.expr.now.expr = omega arith in
    (search rules, tt)

pub add_part_cuts-loop-part-preserved : goal.add_part_cuts-loop-part-preserved
add_part_cuts-loop-part-preserved t c = record {
  used = c.both_soles-all.ensures ∙ (λ i. both (c.loop-part.invariant.used i) (c.in_ok-used-in-Pack.ensures.used i)) ∙ sym (folded_step _ c.in-Pack.parts.now c.loop-part.part-index c.part-item.result c.loop-part-test.true c.part-item.is);
  cuts =
      c.in_ok-used-in-Pack.ensures.cuts ∙ ap (λ m. m ++ cuts c.part-item.result.expr) c.loop-part.invariant.cuts
      ∙ append_assoc (map cut_seen c.args.found.now.items) _ (cuts c.part-item.result.expr)
      ∙ ap (λ z. map cut_seen c.args.found.now.items ++ z) (sym (cuts_step c.in-Pack.parts.now c.loop-part.part-index c.part-item.result c.loop-part-test.true c.part-item.is));
}

pub add_part_cuts-returns-after-loop-part-clause-used : goal.add_part_cuts-returns-after-loop-part-clause-used
add_part_cuts-returns-after-loop-part-clause-used t c = pack_use c.in-Pack.field-0.now c.in-Pack.parts.now c.in-Pack.field-2 c.args.expr.now.expr c.loop-part.part-index _ c.in-Pack.ensures.expr c.loop-part-test.false c.loop-part.invariant.used

pub add_part_cuts-returns-after-loop-part-clause-cuts : goal.add_part_cuts-returns-after-loop-part-clause-cuts
add_part_cuts-returns-after-loop-part-clause-cuts t c =
    c.loop-part.invariant.cuts
    ∙ ap (λ z. map cut_seen c.args.found.now.items ++ z) (pack_cuts c.in-Pack.field-0.now c.in-Pack.parts.now c.in-Pack.field-2 c.args.expr.now.expr c.loop-part.part-index c.in-Pack.ensures.expr c.loop-part-test.false)
