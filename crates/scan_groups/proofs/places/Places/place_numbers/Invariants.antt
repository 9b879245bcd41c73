use Rattle.std.proofs.Common.{◌-◌, length}
use Rattle.scan_groups.specs.Fronts.{AreFirst, IsFront}
use Rattle.scan_groups.proofs.places.Places.place_numbers.Given as goal

abbrev pub invariant-numbers : goal.invariant-numbers
invariant-numbers l = record {
  front : IsFront l.numbers l.front;
  first : AreFirst l.numbers l.fn.self l.self l.front;
}

abbrev pub decreases-numbers : goal.decreases-numbers
decreases-numbers l = length l.numbers - l.front.len
