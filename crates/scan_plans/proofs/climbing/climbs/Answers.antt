use Rattle.std.proofs.Common.{rules, ◌≡◌, ◌≤◌, ◌∙◌, ◌&&◌, [], ap, drop, pos, sym, true, arith}
use mir.Syntax.{w64}
use mir.Val.{to_z}
use Rattle.std.specs.Prelude.{unsigned_abs}
use Rattle.std.proofs.lemmas.Bool.{leb-true}
use Rattle.std.proofs.lemmas.List.{drop_all}
use Rattle.scan_plans.proofs.Rising.{both, climb_from, last_of, rising}
use Rattle.scan_plans.proofs.climbing.climbs.Goals as goal

pub returns : goal.returns
returns c = λ e.
    let zs = c.args.numbers.now in
    let b = to_z w64 c.loop-number.before-bits in
    let same : b ≡ c.loop-number.before = search (rules, c.loop-number.before-is) in
    let none : drop c.loop-number.number-index zs ≡ [] = drop_all c.loop-number.number-index zs (omega (arith, c.loop-number-test.false)) in
    let each = both c.loop-number.good _ e in
    let rises : rising (pos 0) zs ≡ true = sym c.loop-number.invariant.rises ∙ (λ j. each.0 j && rising b (none j)) in
    let last : last_of (pos 0) zs ≡ b = sym c.loop-number.invariant.last ∙ (λ j. last_of b (none j)) in
    let value : c.unsigned_abs.result ≡ unsigned_abs c.loop-number.before = search (rules, c.unsigned_abs.ensures.value) in
    let low : unsigned_abs (last_of (pos 0) zs) ≤ c.args.most = omega (arith, leb-true c.unsigned_abs.result c.args.most each.1, value, ap unsigned_abs (last ∙ same)) in
    climb_from c.args.most 0 zs rises low
