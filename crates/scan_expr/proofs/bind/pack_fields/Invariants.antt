use Rattle.std.proofs.Common.{◌≡◌, None, map, take}
use Rattle.std.specs.List.{All}
use Rattle.scan_expr.specs.Bound.{Bound}
use Rattle.scan_expr.specs.Typing.{typing_fault}
use Rattle.scan_expr.proofs.Binds.{inferred}
use Rattle.scan_expr.proofs.bind.pack_fields.Given as goal

abbrev pub invariant-loop-child : goal.invariant-loop-child
invariant-loop-child l = record { dtypes : l.dtypes.items ≡ map inferred (take l.child-index l.children); faultless : All (λ (b : Bound). typing_fault b.scope b.expr ≡ None) (take l.child-index l.children) }
