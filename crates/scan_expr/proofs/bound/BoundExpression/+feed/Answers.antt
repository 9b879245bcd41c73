use Rattle.std.proofs.Common.{◌≡◌, ◌+◌, ◌++◌, refl, sym, ap, ◌∙◌, drop}
use Rattle.std.proofs.Math.ListN.{drop_of_length-le}
use Rattle.std.specs.Hash.{fed_then}
use Rattle.std.specs.List.{fold}
use Rattle.scan_expr.specs.Heads.{op_head}
use Rattle.scan_expr.specs.Hashes.{head_fed, expr_fed}
use Rattle.scan_expr.proofs.Feeding.{bounds_fed, fed-apply, fed_turn}
use Rattle.scan_expr.proofs.bound.BoundExpression.+feed.Goals as goal

pub loop-child-preserved : goal.loop-child-preserved
loop-child-preserved g t c =
    let W = g.H.Hasher.write in
    let items = c.deref-child-items.result.now in
    let i = c.loop-child.child-index in
    let b = c.child-item.result in
    let rest = bounds_fed (drop (i + 1) items) in
    let here = fed_then W c.loop-child.state c.feed-in-loop-child.new.state (fold W c.feed-in-loop-child.new.state rest) (expr_fed b.expr) rest c.feed-in-loop-child.ensures refl in
    here ∙ ap (fold W c.loop-child.state) (sym (fed_turn items i b c.loop-child-test.true c.child-item.is)) ∙ c.loop-child.invariant

pub returns : goal.returns
returns g t c =
    let W = g.H.Hasher.write in
    let items = c.deref-child-items.result.now in
    let op = c.self.inside.op in
    let all : c.loop-child.state ≡ fold W c.feed.new.state (bounds_fed items) =
    ap (λ bs. fold W c.loop-child.state (bounds_fed bs)) (sym (drop_of_length-le items c.loop-child-test.false)) ∙ c.loop-child.invariant in
    let both = fed_then W c.args.state.now c.feed.new.state c.loop-child.state (head_fed (op_head op)) (bounds_fed items) c.feed.ensures all in
    rw (← c.self.view_is) (both ∙ ap (fold W c.args.state.now) (ap (λ bs. head_fed (op_head op) ++ bounds_fed bs) c.deref-child-items.ensures.value ∙ fed-apply op c.self.inside.children.items c.self.invariant.arity))
