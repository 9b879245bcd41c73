use Rattle.std.proofs.Common.{◌<◌, length, map, sym, ap, ◌∙◌, subst, arith}
use Rattle.std.specs.Prelude.{All}
use Rattle.std.proofs.lemmas.List.{length-map, take_all}
use Rattle.std.proofs.lemmas.List.Elements.{All-nil}
use Rattle.scan_values.specs.Val.{int_val}
use Rattle.scan_groups.specs.Places.{PlacedAll}
use Rattle.scan_groups.proofs.Placing.{keys_long, places_all, places_none}
use Rattle.scan_groups.proofs.places.Places.place_numbers.Goals as goal

pub numbers-init : goal.numbers-init
numbers-init c = record {
  front = record {
    even = omega (arith, c.in_ok-places.ensures.len, c.in_ok-places.places.ok.0);
    within = omega arith;
    below = All-nil (λ p. p < c.args.self.now.count);
  };
  first = λ keys rows more e h. places_none keys rows more c.args.self.now c.in_ok-places.places.items h;
}

pub numbers-preserved : goal.numbers-preserved
numbers-preserved c = record { front = c.in_ok-front.ensures.front; first = c.in_ok-front.ensures.places c.args.self.now c.numbers.invariant.first }

pub below-requires : goal.below-requires
below-requires c =
    let f = c.numbers.front in
    let h = c.numbers.invariant.front in
    subst (All (λ p. p < f.end)) (take_all f.len f.places.items (omega (arith, h.even, c.numbers-test.false))) h.below

pub returns-clause-even : goal.returns-clause-even
returns-clause-even c = ap length c.below.ensures ∙ c.numbers.invariant.front.even ∙ sym (length-map c.args.numbers.now int_val)

pub returns-clause-places : goal.returns-clause-places
returns-clause-places c = λ keys rows more e h.
    let f = c.numbers.front in
    let n = length-map c.args.numbers.now int_val in
    let long = keys_long more (map int_val c.args.numbers.now) e in
    subst (PlacedAll keys rows more c.args.self.now c.numbers.self) (sym c.below.ensures)
    (places_all keys rows more f.len c.args.self.now c.numbers.self f.places.items (omega (arith, n, long, c.numbers-test.false)) (c.numbers.invariant.first keys rows more e h))
