use Rattle.std.proofs.Common.{sym}
use Rattle.scan_expr.proofs.Placing.{nth-at, nth-past}
use Rattle.scan_expr.proofs.evaluate.field_lent.Goals as goal

pub returns-in-Some : goal.returns-in-Some
returns-in-Some c = rw (c.in-Struct.is, ← c.as_slice.ensures) (sym (nth-at c.as_slice.result.now c.args.place c.in-Some.field.now c.in-Some.ensures.lookup.3.0 c.in-Some.ensures.lookup.1))

pub returns-in-None : goal.returns-in-None
returns-in-None c = rw (c.in-Struct.is, ← c.as_slice.ensures) (sym (nth-past c.as_slice.result.now c.args.place c.in-None.ensures.lookup.3))
