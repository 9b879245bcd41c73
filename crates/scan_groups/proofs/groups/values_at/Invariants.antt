use Rattle.std.proofs.Common.{◌≡◌, take, map}
use Rattle.scan_values.specs.Values.{val_of}
use Rattle.scan_groups.specs.Totals.{total_val}
use Rattle.scan_groups.proofs.groups.values_at.Given as goal

abbrev pub invariant-loop-tally : goal.invariant-loop-tally
invariant-loop-tally l = map val_of l.values.items ≡ map (total_val l.place) (take l.tally-index l.tallies)
