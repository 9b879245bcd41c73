use Rattle.std.proofs.Common.{◌≡◌, ◌≤◌, ◌<◌, length, take}
use Rattle.std.specs.Prelude.{All}
use Rattle.scan_groups.specs.Fronts.{AreFirst}
use Rattle.scan_groups.specs.declared.places.Places.{Places}
use Rattle.scan_groups.proofs.Fronting.{ArePlacedTo}
use Rattle.scan_groups.proofs.places.Places.find_numbers.Given as goal

abbrev pub invariant-loop-i : goal.invariant-loop-i
invariant-loop-i l = record {
  even : length l.places.items ≡ length l.numbers;
  from : l.fn.front.len ≤ l.i;
  within : l.i ≤ length l.numbers;
  below : All (λ p. p < l.fn.front.end) (take l.i l.places.items);
  first : (old : Places) → AreFirst l.numbers old l.self l.fn.front → ArePlacedTo l.numbers l.i old l.self l.places.items;
}
