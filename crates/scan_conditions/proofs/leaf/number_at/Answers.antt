use Rattle.std.proofs.Common.{map}
use Rattle.scan_conditions.specs.Parts.{part_of}
use Rattle.scan_conditions.proofs.Leaves.{anyway, number_read}
use Rattle.scan_conditions.proofs.leaf.number_at.Goals as goal

pub returns-clause-is : goal.returns-clause-is
returns-clause-is c =
    number_read c.number_of.result (map part_of c.args.parts.now) c.args.at c.in_ok-word.word.now c.as_bytes.result.now c.as_bytes.ensures.value c.in_ok-word.ensures.is c.number_of.ensures

pub returns-clause-within : goal.returns-clause-within
returns-clause-within c = anyway c.number_of.result c.in_ok-word.ensures.within
