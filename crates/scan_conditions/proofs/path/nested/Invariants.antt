use Rattle.std.proofs.Common.{◌≡◌, drop}
use Rattle.scan_expr.specs.Expr.{root}
use Rattle.scan_conditions.specs.Written.{nested}
use Rattle.scan_conditions.proofs.path.nested.Given as goal

abbrev pub invariant-loop-name : goal.invariant-loop-name
invariant-loop-name l = nested l.e (drop l.name-index l.names) ≡ nested root l.names
