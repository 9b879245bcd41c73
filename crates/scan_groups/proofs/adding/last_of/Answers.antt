use Rattle.std.proofs.Common.{◌≤◌, get_or, take, sym, subst}
use Rattle.std.specs.Prelude.{All}
use Rattle.std.proofs.lemmas.List.{take_more, take_all}
use Rattle.scan_groups.proofs.Added.{last_push, larger_below}
use Rattle.scan_groups.proofs.adding.last_of.Goals as goal

pub loop-place-preserved : goal.loop-place-preserved
loop-place-preserved c =
    let ps = c.args.places.now in
    let i = c.loop-place.place-index in
    let p = get_or ps i 0 in
    let lt = c.loop-place-test.true in
    let next = c.larger-last.result in
    record {
      past = subst (All (λ q. q ≤ next)) (sym (take_more ps i 0 lt)) (last_push (take i ps) p c.loop-place.last next c.larger-last.ensures.first c.larger-last.ensures.second c.loop-place.invariant.past);
      least = λ n more h. larger_below c.loop-place.last p next n more c.larger-last.ensures.least (c.loop-place.invariant.least n more h) (h i 0 lt);
    }

pub returns-clause-past : goal.returns-clause-past
returns-clause-past c = subst (All (λ q. q ≤ c.loop-place.last)) (take_all c.loop-place.place-index c.args.places.now c.loop-place-test.false) c.loop-place.invariant.past
