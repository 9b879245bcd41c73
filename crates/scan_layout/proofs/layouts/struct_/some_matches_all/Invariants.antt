use Rattle.std.proofs.Common.{◌≡◌, drop}
use Rattle.std.specs.List.{list_any}
use Rattle.scan_values.specs.FieldPaths.{matches_all}
use Rattle.scan_layout.proofs.layouts.struct_.some_matches_all.Given as goal

abbrev pub invariant-loop-mask : goal.invariant-loop-mask
invariant-loop-mask l = list_any matches_all (drop l.mask-index l.masks) ≡ list_any matches_all l.masks
