use Rattle.std.proofs.Common.{map, ap}
use Rattle.scan_conditions.specs.Parts.{part_of}
use Rattle.scan_conditions.proofs.Reading.{condition_said}
use Rattle.scan_conditions.proofs.condition.read_condition.Goals as goal

pub returns-in-Ok-clause-says : goal.returns-in-Ok-clause-says
returns-in-Ok-clause-says c =
    condition_said c.args.rows.now c.args.text.now (map part_of c.in_ok-parts.parts.items) (map part_of c.as_slice.result.now) c.in_ok-expression.expression (ap (map part_of) c.as_slice.ensures.value) c.in_ok-parts.ensures
    c.in_ok-expression.ensures
