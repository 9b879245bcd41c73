use Rattle.std.proofs.Common.{◌∙◌, ◌/◌, ◌%◌, get_or}
use Rattle.std.proofs.lemmas.Nat.Bits.{shr_and_one}
use Rattle.scan_spelling.proofs.BitGroups.{bit_here}
use Rattle.scan_spelling.proofs.bits.bit.Goals as goal

pub returns : goal.returns
returns c = shr_and_one (get_or c.args.bytes.now (c.args.row / 8) 0) (c.args.row % 8) ∙ bit_here c.args.bytes.now c.args.row c.requires
