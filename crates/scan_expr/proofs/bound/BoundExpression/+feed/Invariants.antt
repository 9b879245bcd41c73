use Rattle.std.proofs.Common.{◌≡◌, drop}
use Rattle.std.specs.List.{fold}
use Rattle.scan_expr.proofs.Feeding.{bounds_fed}
use Rattle.scan_expr.proofs.bound.BoundExpression.+feed.Given as goal

abbrev pub invariant-loop-child : goal.invariant-loop-child
invariant-loop-child g l =
    let W = g.H.Hasher.write in
    fold W l.state (bounds_fed (drop l.child-index l.child-items)) ≡ fold W l.initial.state (bounds_fed l.child-items)
