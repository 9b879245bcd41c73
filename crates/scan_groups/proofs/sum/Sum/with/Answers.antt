use Rattle.std.proofs.Common.{◌≡◌, true, [], ◌∷◌, ◌++◌, sym, subst, arith, rules, to_z-of_z}
use mir.Val.{to_z, of_z}
use mir.Syntax.{w64}
use Rattle.std.proofs.lemmas.Int.{ints}
use Rattle.scan_values.specs.Val.{int_val}
use Rattle.scan_groups.specs.Totals.{IsSum}
use Rattle.scan_groups.proofs.Sums.{sum_above, sum_below}
use Rattle.scan_groups.proofs.sum.Sum.with.Goals as goal

pub returns-in_ok-sum_with-clause-more : goal.returns-in_ok-sum_with-clause-more
returns-in_ok-sum_with-clause-more c =
    let s = c.args.self in
    let f = c.ranges.n.sfits in
    let t = c.if-n-lt0.true in
    let a = c.in_ok-sum_with.ensures in
    let b = c.unsigned_abs-part.ensures.value in
    let m = c.in_ok-sum_with.field-0 in
    let near : to_z w64 (of_z w64 s.near) ≡ s.near = search rules in
    λ vs h. subst (λ r. IsSum (record { any = true; near = r; above = s.above; below = m }) (vs ++ int_val c.args.n ∷ [])) (sym near)
    (sum_below s vs c.args.n m (grind (arith, ints, f, t)) (grind (arith, to_z-of_z, a, b, f)) h)

pub returns-in_ok-sum_with-2-clause-more : goal.returns-in_ok-sum_with-2-clause-more
returns-in_ok-sum_with-2-clause-more c =
    let s = c.args.self in
    let f = c.ranges.n.sfits in
    let t = c.if-n-lt0.false in
    let a = c.in_ok-sum_with-2.ensures in
    let b = c.unsigned_abs-part.ensures.value in
    let m = c.in_ok-sum_with-2.field-0 in
    let near : to_z w64 (of_z w64 s.near) ≡ s.near = search rules in
    λ vs h. subst (λ r. IsSum (record { any = true; near = r; above = m; below = s.below }) (vs ++ int_val c.args.n ∷ [])) (sym near)
    (sum_above s vs c.args.n m (grind (arith, ints, f, t)) (grind (arith, to_z-of_z, a, b, f)) h)
