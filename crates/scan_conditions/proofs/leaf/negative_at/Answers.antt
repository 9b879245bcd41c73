use Rattle.std.proofs.Common.{map}
use Rattle.scan_conditions.specs.Parts.{part_of}
use Rattle.scan_conditions.specs.Reads.{said_of}
use Rattle.scan_conditions.proofs.Reading.{read_negative}
use Rattle.scan_conditions.proofs.leaf.negative_at.Goals as goal

pub returns-in-Some : goal.returns-in-Some
returns-in-Some c = λ s. read_negative s (map part_of c.args.parts.now) c.args.at c.in-Some.number (said_of c.below_zero.result) c.requires.is c.in-Some.ensures.is c.below_zero.ensures
