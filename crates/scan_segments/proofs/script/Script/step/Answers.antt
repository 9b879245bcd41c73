use Rattle.std.proofs.Common.{sym}
use Rattle.scan_segments.proofs.Counts.{outcome-fails, outcome-waits, outcome-goes}
use Rattle.scan_segments.proofs.script.Script.step.Goals as goal

pub returns-then-contains-clause-outcome : goal.returns-then-contains-clause-outcome
returns-then-contains-clause-outcome c = rw (← c.self.view_is) (sym (outcome-fails _ c.in-Some.k _ c.in-Some.is c.contains.ensures c.if-contains.true))

pub returns-then-contains-2-clause-outcome : goal.returns-then-contains-2-clause-outcome
returns-then-contains-2-clause-outcome c = rw (← c.self.view_is) (sym (outcome-waits _ c.in-Some.k _ _ c.in-Some.is c.contains.ensures c.if-contains.false c.contains-2.ensures c.if-contains-2.true))

pub returns-clause-outcome : goal.returns-clause-outcome
returns-clause-outcome c = rw (← c.self.view_is) (sym (outcome-goes _ c.in-Some.k _ _ c.in-Some.is c.contains.ensures c.if-contains.false c.contains-2.ensures c.if-contains-2.false))
