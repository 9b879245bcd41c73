use Rattle.std.proofs.Common.{◌≡◌, ◌∷◌, [], ℕ, List, true, length, take, map}
use Rattle.std.specs.List.{list_all}
use Rattle.scan_groups.specs.Cells.{run_vals}
use Rattle.scan_groups.specs.Order.{is_scalar}
use Rattle.scan_groups.specs.Places.{ArePlaces, PlacedAll}
use Rattle.scan_groups.specs.Rows.{Row}
use Rattle.scan_groups.proofs.places.Places.place_cells.Given as goal

abbrev pub invariant-loop-i : goal.invariant-loop-i
invariant-loop-i l = record {
  even : length l.places.items ≡ length (run_vals l.run);
  places : (keys : ℕ) (rows more : List Row) → map (λ (row : Row). row.key) more ≡ map (λ v. v ∷ []) (run_vals l.run) → ArePlaces keys rows l.fn.self
      → list_all is_scalar (run_vals l.run) ≡ true → PlacedAll keys rows (take l.i more) l.fn.self l.self l.places.items;
}
