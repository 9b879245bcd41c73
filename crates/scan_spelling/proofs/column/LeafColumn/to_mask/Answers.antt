use Rattle.std.proofs.Common.{◌∙◌, ◌+◌, ◌<◌, ◌++◌, ◌∷◌, [], ap, map, drop, length, sym, arith}
use Rattle.scan_values.specs.Val.{marked}
use Rattle.scan_values.specs.Marked.{is_true}
use Rattle.scan_spelling.proofs.Columns.{truth_pushed}
use Rattle.scan_spelling.proofs.column.LeafColumn.to_mask.Goals as goal

pub loop-i-preserved : goal.loop-i-preserved
loop-i-preserved c =
    let low : c.loop-i.i < length c.args.self.now.items = omega (arith, c.loop-i-test.true, c.len-i-end.ensures) in
    ap (λ b. b ++ map (λ v. is_true (marked v)) (drop (c.loop-i.i + 1) c.args.self.now.items)) (c.in_ok-push.ensures.items ∙ ap (λ b. c.loop-i.bits.items ++ b ∷ []) c.is_true.ensures)
    ∙ sym (truth_pushed (λ v. is_true (marked v)) c.loop-i.bits.items c.args.self.now.items c.loop-i.i c.in_ok-value.value low c.in_ok-value.ensures)
    ∙ c.loop-i.invariant
