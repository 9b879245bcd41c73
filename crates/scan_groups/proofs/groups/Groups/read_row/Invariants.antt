use Rattle.std.proofs.Common.{◌≡◌, ◌∷◌, [], ℕ, List, map}
use Rattle.scan_values.specs.Values.{val_of}
use Rattle.scan_groups.specs.Rows.{Row}
use Rattle.scan_groups.specs.Running.{IsUnder, count_of}
use Rattle.scan_groups.specs.declared.measure.Measured.{Measured}
use Rattle.scan_groups.proofs.groups.Groups.read_row.Given as goal

abbrev pub invariant-loop-measure : goal.invariant-loop-measure
invariant-loop-measure l = record {
  count : count_of l.self ≡ count_of l.fn.self;
  under : (keys : ℕ) (ms : List Measured) (rows : List Row) (row : Row) → IsUnder keys ms rows (row ∷ []) l.places 0 l.fn.self → row.read ≡ map val_of l.read
      → IsUnder keys ms rows (row ∷ []) l.places l.measure l.self;
}
