use Rattle.std.proofs.Common.{ap, map}
use Rattle.scan_conditions.specs.Parts.{part_of}
use Rattle.scan_conditions.specs.Written.{typed}
use Rattle.scan_conditions.proofs.Reading.{read_text}
use Rattle.scan_conditions.proofs.leaf.leaf_at.Goals as goal

pub returns-in_ok-e-in-Some : goal.returns-in_ok-e-in-Some
returns-in_ok-e-in-Some c = read_text c.args.rows.now (map part_of c.args.parts.now) c.args.at c.in-Some.text.now (typed c.in_ok-e-in-Some.e) c.in-Some.ensures.is (ap typed c.in_ok-e-in-Some.ensures)
