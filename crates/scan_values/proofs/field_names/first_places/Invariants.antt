use Rattle.std.proofs.Common.{◌≡◌, ◌-◌, List, ℕ, length, drop, bytes_eq}
use Rattle.std.specs.List.{position_from}
use Rattle.std.specs.BTreeMap.{get_by_text}
use Rattle.scan_values.proofs.field_names.first_places.Given as goal

abbrev pub invariant-loop-k : goal.invariant-loop-k
invariant-loop-k l = (n : List ℕ) → get_by_text l.firsts n ≡ position_from (bytes_eq n) (length l.names - l.k) (drop (length l.names - l.k) l.names)
