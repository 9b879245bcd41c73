use Rattle.std.proofs.Common.{◌≡◌, length}
use Rattle.scan_manifest.specs.Manifest.{same_segments}
use Rattle.scan_manifest.proofs.manifest.Segments.same.Given as goal

abbrev pub invariant-loop-id : goal.invariant-loop-id
invariant-loop-id l = record {
  same : same_segments l.self l.other ≡ same_segments l.id-iterator.a l.id-iterator.b;
  even : length l.id-iterator.a ≡ length l.id-iterator.b;
}
