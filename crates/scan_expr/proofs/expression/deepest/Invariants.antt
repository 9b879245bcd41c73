use Rattle.std.proofs.Common.{◌≡◌, ◌≤◌, min, max, drop}
use Rattle.scan_expr.proofs.Binds.{deepest}
use Rattle.scan_expr.proofs.expression.deepest.Given as goal

abbrev pub invariant-loop-part : goal.invariant-loop-part
invariant-loop-part l = record { value : min (deepest l.parts) 101 ≡ min (max l.depth (deepest (drop l.part-index l.parts))) 101; bound : l.depth ≤ 101 }
