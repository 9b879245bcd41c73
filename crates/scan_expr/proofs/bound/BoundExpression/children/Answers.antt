use Rattle.std.proofs.Common.{◌∙◌}
use Rattle.scan_expr.proofs.Sames.{children-bound}
use Rattle.scan_expr.proofs.bound.BoundExpression.children.Goals as goal

pub returns : goal.returns
returns c =
    c.as_slice.ensures.value
    ∙ rw (← c.self.view_is) (children-bound c.self.inside.op c.self.inside.scope.value c.self.inside.children.items c.self.invariant.arity c.self.invariant.scopes)
