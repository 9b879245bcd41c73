use Rattle.scan_core.proofs.Masking.{others_done}
use Rattle.scan_core.proofs.field_masks.others.Goals as goal

pub returns : goal.returns
returns c = others_done c.args.left.now c.in-Some.fields.now c.args.dtype.now c.loop-name.made.items c.names-name-items.result.now c.loop-name.name-index c.in-Some.ensures c.names-name-items.ensures c.loop-name-test.false c.loop-name.invariant
