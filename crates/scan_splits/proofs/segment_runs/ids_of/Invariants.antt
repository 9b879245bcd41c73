use Rattle.std.proofs.Common.{◌≡◌, ◌++◌, map, drop}
use Rattle.scan_splits.proofs.segment_runs.ids_of.Given as goal

abbrev pub invariant-loop-id : goal.invariant-loop-id
invariant-loop-id l = l.ids.items ++ map (λ g. g.0) (drop l.id-index l.segments) ≡ map (λ g. g.0) l.segments
