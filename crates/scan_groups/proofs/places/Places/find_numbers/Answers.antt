use Rattle.std.proofs.Common.{◌≡◌, ◌<◌, [], ◌∷◌, length, get_or, take, pos, sym, ap, ◌∙◌, subst, arith, rules}
use mir.Val.{to_z, of_z}
use mir.Syntax.{w64}
use Rattle.std.specs.Prelude.{All}
use Rattle.std.proofs.lemmas.List.{length-set}
use Rattle.scan_values.specs.Val.{int_val}
use Rattle.scan_groups.specs.Near.{IsAt}
use Rattle.scan_groups.specs.Places.{PlacedAll}
use Rattle.scan_groups.proofs.Fronting.{below_more, first_more}
use Rattle.scan_groups.proofs.Placing.{place_near}
use Rattle.scan_groups.proofs.places.Places.find_numbers.Goals as goal

pub loop-i-init : goal.loop-i-init
loop-i-init c = record {
  even = c.requires.even;
  from = omega arith;
  within = c.requires.within;
  below = c.requires.below;
  first = λ old h. h;
}

pub loop-i-preserved : goal.loop-i-preserved
loop-i-preserved c =
    let zs = c.args.numbers.now in
    let i = c.loop-i.i in
    let z = get_or zs i (pos 0) in
    let q = c.in-Some.place in
    let given = c.loop-i.places.items in
    let now = c.args.self.now in
    let lt : i < length zs = omega (arith, c.loop-i-test.true) in
    let long : i < length given = omega (arith, lt, c.loop-i.invariant.even) in
    let read : to_z w64 (of_z w64 z) ≡ z = search rules in
    record {
      even = length-set given i q ∙ c.loop-i.invariant.even;
      from = omega (arith, c.loop-i.invariant.from);
      within = omega (arith, lt);
      below = below_more given i q c.args.front.end c.args.front.end long (omega arith) c.in-Some.ensures.below c.loop-i.invariant.below;
      first = λ old h. first_more zs i old now now given q lt long
          (λ keys rows row e a. place_near keys rows row now (to_z w64 (of_z w64 z)) q (e ∙ ap (λ n. int_val n ∷ []) (sym read)) a
          (c.in-Some.ensures.at now.keys (subst (All (IsAt now.keys)) (sym c.lend-slots.ensures) a.near)))
          (c.loop-i.invariant.first old h);
    }

pub returns-clause-places : goal.returns-clause-places
returns-clause-places c = λ old h keys rows more e a.
    let all : c.loop-i.i ≡ length c.args.numbers.now = omega (arith, c.loop-i.invariant.within, c.loop-i-test.false) in
    subst (λ n. PlacedAll keys rows (take n more) old c.args.self.now c.loop-i.places.items) all (c.loop-i.invariant.first old h keys rows more e a)
