use Rattle.std.proofs.Common.{◌≡◌}
use Rattle.std.specs.Prelude.{Some}
use Rattle.std.specs.List.{list_any}
use Rattle.scan_groups.specs.Running.{is_past_at, is_past_in}
use Rattle.scan_groups.proofs.groups.is_past.Given as goal

abbrev pub invariant-loop-place : goal.invariant-loop-place
invariant-loop-place l = is_past_in l.keys (Some l.tally) ≡ list_any (is_past_at (Some l.tally)) l.place-iterator
