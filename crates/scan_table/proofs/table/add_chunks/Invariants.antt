use Rattle.std.proofs.Common.{◌≡◌, length}
use Rattle.std.specs.Vec.Iter.{into_iter_items, into_iter_len}
use Rattle.scan_table.proofs.Rowing.{HasChunks}
use Rattle.scan_table.proofs.table.add_chunks.Given as goal

abbrev pub invariant-loop-chunk : goal.invariant-loop-chunk
invariant-loop-chunk l = record {
  len : into_iter_len l.chunk-iterator ≡ length (into_iter_items l.chunk-iterator);
  rows : HasChunks l.keys l.fn.chunks.items (into_iter_items l.chunk-iterator) l.fn.groups l.groups;
}
