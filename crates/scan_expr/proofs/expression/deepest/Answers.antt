use Rattle.std.proofs.Common.{◌≡◌, min, max, drop, [], ap, ◌∙◌, arith}
use Rattle.std.proofs.Math.ListN.{drop_of_length-le}
use Rattle.scan_expr.specs.Expr.{parts_of, parts_depth}
use Rattle.scan_expr.proofs.Binds.{deepest, parts-deepest}
use Rattle.scan_expr.proofs.expression.deepest.Goals as goal

pub returns : goal.returns
returns c = λ ns.
    let es = c.args.parts.now in
    let d : drop c.loop-part.part-index es ≡ [] = drop_of_length-le es c.loop-part-test.false in
    let e : min (parts_depth (parts_of ns es)) 101 ≡ min (max c.loop-part.depth (deepest (drop c.loop-part.part-index es))) 101 =
    ap (λ n. min n 101) (parts-deepest ns es) ∙ c.loop-part.invariant.value in
    let f : deepest (drop c.loop-part.part-index es) ≡ 0 = ap deepest d in
    omega (arith, e, f, c.loop-part.invariant.bound)
