-- Segments that are missing or damaged: bytes that do not decode, and offsets of lists that are bad.
use Rattle.std.specs.Prelude.{◌≡◌, ℕ, ◌+◌, List, true, Contains}
use Rattle.scan_values.specs.DataType.{DataType}
use Rattle.scan_expr.specs.declared.request.ScanRequest.{ScanRequest}
use Rattle.scan_segments.specs.Source.{Store}
use Rattle.scan_layout.specs.Layout.{Layout}
use Rattle.scan_spelling.specs.Places.{Place}
use Rattle.scan_layout.specs.Touched.{touched}
use Rattle.scan_readers.specs.Flaws.{ListOffsets, is_bad_offset, lists_of, offset_at, offset_before}
use Rattle.scan_opener.specs.Opener.{layout_of}
use Rattle.scan_multi.specs.Answer.{ToldFile}
use Rattle.scan_multi.specs.Named.{named_places}
use Rattle.scan_multi.specs.Places.{HasBad}

-- one of these places has this id, and holds the offset of a row, which is bad
pub record HasBadOffset (l : Layout) (store : Store) (places : List Place) (id : ℕ) : Type 0 where
  pub list : ListOffsets
  pub there : Contains (lists_of l) list
  pub row : ℕ
  pub bad : is_bad_offset list.elements (offset_before list store row) (offset_at list store row) ≡ true
  pub place : Place
  pub holds : Contains (touched list.leaf store row (row + 1)) place
  pub among : Contains places (record place { path = list.path })
  pub is : place.id ≡ id

-- a named segment of a file is missing, does not decode, or holds a bad offset
pub data IsDamaged (d : DataType) (request : ScanRequest) (f : ToldFile) (id : ℕ) : Type 0 where
  of_bytes : HasBad f.store (named_places d request f.given f.store) id → IsDamaged d request f id
  of_offset : (l : Layout) → f.given ≡ layout_of l → HasBadOffset l f.store (named_places d request f.given f.store) id → IsDamaged d request f id
