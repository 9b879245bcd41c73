use Rattle.std.proofs.Common.{map, ap, ◌∙◌}
use Rattle.scan_core.proofs.Naming.{texts_turn}
use Rattle.scan_core.proofs.field_masks.texts_of.Goals as goal

pub loop-name-preserved : goal.loop-name-preserved
loop-name-preserved c =
    ap (map (λ n. n.now)) c.in_ok-push.ensures.items ∙ texts_turn c.loop-name.texts.items c.as_slice-names.result.now c.loop-name.name-index c.as_str.result c.name-item.result c.loop-name-test.true c.name-item.is c.as_str.ensures c.loop-name.invariant
