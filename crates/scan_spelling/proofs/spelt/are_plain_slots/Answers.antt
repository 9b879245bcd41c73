use Rattle.std.proofs.Common.{◌∙◌}
use Rattle.scan_spelling.proofs.BitColumns.{plain_bits_of}
use Rattle.scan_spelling.proofs.spelt.are_plain_slots.Goals as goal

pub returns-in-Two-Bool : goal.returns-in-Two-Bool
returns-in-Two-Bool c = c.is_group.ensures ∙ plain_bits_of c.args.spelling c.args.kind c.args.rows c.args.bytes.now c.in-Two-Bool.is-0 c.in-Two-Bool.is-1
