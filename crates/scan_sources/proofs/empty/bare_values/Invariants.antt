use Rattle.std.proofs.Common.{◌≡◌, map}
use Rattle.scan_values.specs.Values.{val_of}
use Rattle.scan_sources.specs.Empties.{bare_rows}
use Rattle.scan_sources.proofs.empty.bare_values.Given as goal

abbrev pub invariant-loop-row : goal.invariant-loop-row
invariant-loop-row l = map val_of l.values.items ≡ bare_rows l._row
