use Rattle.std.proofs.Common.{◌≡◌, ◌≤◌, ◌+◌, ◌++◌, length}
use Rattle.std.specs.Vec.Iter.{into_iter_items, into_iter_len}
use Rattle.scan_run.specs.Generated.{numbered}
use Rattle.scan_run.proofs.Mapping.{AllBelow}
use Rattle.scan_run.proofs.generate.segments.by_number.Given as goal

abbrev pub invariant-loop-bytes : goal.invariant-loop-bytes
invariant-loop-bytes l = record {
  len : into_iter_len l.bytes-iterator ≡ length (into_iter_items l.bytes-iterator);
  below : AllBelow l.id l.map.entries;
  same : l.map.entries ++ numbered l.id (into_iter_items l.bytes-iterator) ≡ numbered 0 l.fn.segments.items;
}
