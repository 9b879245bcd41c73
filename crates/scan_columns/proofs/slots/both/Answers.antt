use Rattle.std.proofs.Common.{◌∙◌}
use Rattle.scan_columns.proofs.SlotLemmas.{both_zipped}
use Rattle.scan_columns.proofs.slots.both.Goals as goal

pub returns : goal.returns
returns c = c.in_ok-made.ensures ∙ both_zipped c.args.bits.now c.args.others.now
