use Rattle.std.proofs.Common.{ap, arith}
use Rattle.std.proofs.lemmas.Int.{ints}
use Rattle.scan_values.specs.Val.{int_val}
use Rattle.scan_expr.proofs.Picks.{length-listed}
use Rattle.scan_columns.proofs.unary.length_slot.Goals as goal

pub returns-in-List : goal.returns-in-List
returns-in-List c = rw (c.in-List.is, length-listed c.in-List.values) (ap int_val (omega (arith, ints, c.len.ensures)))
