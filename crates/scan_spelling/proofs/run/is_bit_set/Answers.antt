use Rattle.std.proofs.Common.{◌∙◌, ◌==◌, ap}
use Rattle.std.specs.Int.{bit_at}
use Rattle.std.proofs.lemmas.Nat.Bits.{shr_and_one, bit_at-lt}
use Rattle.scan_spelling.proofs.Runs.{set_of}
use Rattle.scan_spelling.proofs.run.is_bit_set.Goals as goal

pub returns : goal.returns
returns c = ap (λ m. m == 1) (shr_and_one c.args.byte c.args.place) ∙ set_of (bit_at c.args.byte c.args.place) (bit_at-lt c.args.byte c.args.place)
