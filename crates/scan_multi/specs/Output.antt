-- What a scan gives, and whether that is admitted.
use Rattle.std.specs.Prelude.{◌≡◌, ◌≢◌, ℕ, ◌<◌, List, Bool, true, false, Option, None, Some, map, length, zip, take, get_or, All, Contains, refl}
use Rattle.std.specs.List.{flat_map}
use Rattle.std.specs.Coded.{Coded, code_by, coded_list, coded×, coded_ℕ}
use Rattle.scan_values.specs.DataType.{DataType}
use Rattle.scan_values.specs.Arrays.{ArrayData, array_code}
use Rattle.scan_expr.specs.Infer.{infer}
use Rattle.scan_expr.specs.declared.request.ScanRequest.{ScanRequest}
use Rattle.scan_drive.specs.declared.report.ScanReport.{ScanReport}
use Rattle.scan_multi.specs.Answer.{Item}

-- some rows of a file, and a value for each
pub record ChunkData : Type 0 where
  pub file : ℕ
  pub rows : List ℕ
  pub values : ArrayData

-- how a chunk is kept
abbrev pub chunk_code : Coded ChunkData
chunk_code =
    code_by (ℕ × (List ℕ × ArrayData)) (coded× coded_ℕ (coded× (coded_list coded_ℕ) array_code))
    (λ c. (c.file, (c.rows, c.values))) (λ p. record { file = p.0; rows = p.1.0; values = p.1.1 }) (λ _. refl)

-- the chunks of a scan, and its report
pub record OutputData : Type 0 where
  pub chunks : List ChunkData
  pub report : ScanReport

-- how they are kept
abbrev pub output_code : Coded OutputData
output_code =
    code_by (List ChunkData × (ℕ × (ℕ × (ℕ × ℕ)))) (coded× (coded_list chunk_code) (coded× coded_ℕ (coded× coded_ℕ (coded× coded_ℕ coded_ℕ))))
    (λ o. (o.chunks, (o.report.wants, (o.report.hits, (o.report.shared, o.report.asks)))))
    (λ p. record { chunks = p.0; report = record { wants = p.1.0; hits = p.1.1.0; shared = p.1.1.1.0; asks = p.1.1.1.1 } }) (λ _. refl)

-- the rows that a chunk gives
abbrev pub chunk_items : ChunkData → List Item
chunk_items chunk = map (λ r. record { file = chunk.file; row = r.0; value = Some r.1 }) (zip chunk.rows chunk.values.items)

-- the rows that chunks give
abbrev pub given : List ChunkData → List Item
given chunks = flat_map chunk_items chunks

-- as many rows as values, at least one, of this dtype
pub record IsChunk (d : DataType) (chunk : ChunkData) : Type 0 where
  pub even : length chunk.rows ≡ length chunk.values.items
  pub some : 0 < length chunk.rows
  pub dtype : chunk.values.dtype ≡ d

-- as many rows as values, and at least one
pub record IsShaped (chunk : ChunkData) : Type 0 where
  pub even : length chunk.rows ≡ length chunk.values.items
  pub some : 0 < length chunk.rows

-- as many as the limit allows
abbrev pub limited : Option ℕ → List Item → List Item
limited None items = items
limited (Some n) items = take n items

-- the file of an item, and its row
abbrev pub place_of : Item → ℕ × ℕ
place_of item = (item.file, item.row)

-- so many items of the answer as there may be, none twice
pub record IsChoice (limit : Option ℕ) (answer items : List Item) : Type 0 where
  pub once : (i j : ℕ) (d : Item) → i < j → j < length items → place_of (get_or items i d) ≢ place_of (get_or items j d)
  pub each : All (λ item. Contains answer item) items
  pub count : length items ≡ length (limited limit answer)

-- in order the first items of the answer, else a choice of them
abbrev pub IsGiven : Bool → Option ℕ → List Item → List Item → Type 0
IsGiven true limit answer items = items ≡ limited limit answer
IsGiven false limit answer items = IsChoice limit answer items

-- Chunks that a request with this answer admits. Each item given has a value, so none is damaged.
pub record Admits (d : DataType) (request : ScanRequest) (answer : List Item) (output : List ChunkData) : Type 0 where
  pub chunks : All (IsChunk (infer d request.projection)) output
  pub items : IsGiven request.ordered request.limit answer (given output)
