use Rattle.std.proofs.Common.{◌≡◌, ℕ, ◌<◌, false}
use Rattle.std.specs.List.{slice_get}
use Rattle.scan_groups.specs.Running.{is_past_in}
use Rattle.scan_groups.proofs.groups.Groups.first_past.Given as goal

abbrev pub invariant-loop-measure : goal.invariant-loop-measure
invariant-loop-measure l = (j : ℕ) → j < l.measure → is_past_in l.self.places.keys (slice_get l.self.tallies.items j) ≡ false
