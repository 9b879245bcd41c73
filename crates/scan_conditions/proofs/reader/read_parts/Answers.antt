use Rattle.std.proofs.Common.{◌≤◌, length, map, arith}
use Rattle.scan_conditions.specs.Parts.{part_of}
use Rattle.scan_conditions.specs.Reads.{said_of}
use Rattle.scan_conditions.specs.Written.{typed}
use Rattle.scan_conditions.proofs.Parted.{past_parts}
use Rattle.scan_conditions.proofs.Reading.{says_all}
use Rattle.scan_conditions.proofs.reader.read_parts.Goals as goal

pub returns : goal.returns
returns c =
    let past : length c.args.parts.now ≤ c.in_ok-operand.end = omega arith in
    says_all c.args.rows.now (map part_of c.args.parts.now) c.in_ok-operand.end (said_of c.in_ok-operand.operand) (typed c.in_ok-e.e) (past_parts c.args.parts.now c.in_ok-operand.end past) c.in_ok-operand.ensures c.in_ok-e.ensures
