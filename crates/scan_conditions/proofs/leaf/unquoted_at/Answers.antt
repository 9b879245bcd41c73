use Rattle.std.proofs.Common.{map}
use Rattle.scan_conditions.specs.Parts.{part_of}
use Rattle.scan_conditions.specs.Reads.{said_of}
use Rattle.scan_conditions.proofs.Operands.{for_rows}
use Rattle.scan_conditions.proofs.Reading.{read_number}
use Rattle.scan_conditions.proofs.leaf.unquoted_at.Goals as goal

pub returns-then-is_sign_at : goal.returns-then-is_sign_at
returns-then-is_sign_at c = for_rows c.negative_at.result c.args.rows.now (map part_of c.args.parts.now) c.args.at c.negative_at.ensures

pub returns-in-Some : goal.returns-in-Some
returns-in-Some c = read_number c.args.rows.now (map part_of c.args.parts.now) c.args.at c.in-Some.number (said_of c.whole.result) c.in-Some.ensures.is c.whole.ensures
