use Rattle.std.proofs.Common.{arith}
use Rattle.scan_conditions.proofs.Steps.{digit_least}
use Rattle.scan_conditions.proofs.leaf.more_digits.Goals as goal

pub overflow_sub-value : goal.overflow_sub-value
overflow_sub-value c = omega (arith, digit_least c.args.digit c.requires)
