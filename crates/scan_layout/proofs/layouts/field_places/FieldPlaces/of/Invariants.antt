use Rattle.std.proofs.Common.{◌≡◌, ◌-◌, List, ℕ, length, drop, bytes_eq}
use Rattle.std.specs.List.{position_from}
use Rattle.std.specs.HashMap.{get_by}
use Rattle.scan_layout.proofs.layouts.field_places.FieldPlaces.of.Given as goal

abbrev pub invariant-loop-k : goal.invariant-loop-k
invariant-loop-k l = (n : List ℕ) → get_by (λ q. bytes_eq n q.now) l.places ≡ position_from (bytes_eq n) (length l.names - l.k) (drop (length l.names - l.k) l.names)
