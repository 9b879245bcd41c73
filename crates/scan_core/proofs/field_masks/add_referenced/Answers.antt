use Rattle.scan_core.proofs.Leading.{used_lead}
use Rattle.scan_core.proofs.field_masks.add_referenced.Goals as goal

pub returns-clause-named : goal.returns-clause-named
returns-clause-named c = used_lead c.args.expr.now c.dtype-typed.ensures.faultless
