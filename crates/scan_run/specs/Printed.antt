-- The lines of chunks, each by its own dtype.
use Rattle.std.specs.Prelude.{ℕ, List, Some, map, zip}
use Rattle.std.specs.List.{flat_map}
use Rattle.scan_values.specs.Val.{Val}
use Rattle.scan_multi.specs.Answer.{Item}
use Rattle.scan_multi.specs.Output.{ChunkData, chunk_items}
use Rattle.scan_run.specs.Run.{lines_of}

-- rows of a file with their values, as items
abbrev pub row_items : ℕ → List ℕ → List Val → List Item
row_items file rows values = map (λ r. record { file = file; row = r.0; value = Some r.1 }) (zip rows values)

-- the lines of a chunk
abbrev pub chunk_lines : ChunkData → List ℕ
chunk_lines chunk = lines_of chunk.values.dtype (chunk_items chunk)

-- the lines of chunks, in order
abbrev pub chunks_lines : List ChunkData → List ℕ
chunks_lines chunks = flat_map chunk_lines chunks
