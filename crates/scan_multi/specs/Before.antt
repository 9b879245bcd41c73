-- What an ordered scan has given before it fails.
use Rattle.std.specs.Prelude.{◌≡◌, ℕ, ◌<◌, ◌++◌, nat_lt, List, Option, None, Some, IsSome, All, Contains, take, filter, length}
use Rattle.scan_values.specs.DataType.{DataType}
use Rattle.scan_values.specs.Selections.{picked_rows}
use Rattle.scan_expr.specs.declared.request.ScanRequest.{ScanRequest}
use Rattle.scan_layout.specs.Layout.{Layout, rows_of}
use Rattle.scan_layout.specs.PickGroups.{pick_groups, least}
use Rattle.scan_spelling.specs.Places.{Place}
use Rattle.scan_layout.specs.Touched.{touched}
use Rattle.scan_opener.specs.Opener.{layout_of}
use Rattle.scan_multi.specs.Answer.{ToldFile, Item, part_of, answer}
use Rattle.scan_multi.specs.Named.{range_from, range_to, span_of}
use Rattle.scan_multi.specs.Chunks.{splits_of}

-- so many items are fewer than the limit
abbrev pub IsBelow : Option ℕ → ℕ → Type 0
IsBelow None n = Unit {0}
IsBelow (Some limit) n = n < limit

-- items behind which a scan goes on: none is damaged, and there are fewer than the limit
pub record GoesOn (limit : Option ℕ) (items : List Item) : Type 0 where
  pub clean : All (λ item. IsSome item.value) items
  pub below : IsBelow limit (length items)

-- the scan goes on behind the files before this place
abbrev pub ReachesFile : DataType → ScanRequest → List ToldFile → ℕ → Type 0
ReachesFile d request files place = GoesOn request.limit (answer d request (take place files))

-- the rows of a file before a row
abbrev pub rows_before : DataType → ScanRequest → ℕ → ToldFile → ℕ → List Item
rows_before d request place f row = filter (λ item. nat_lt item.row row) (part_of d request place f.store f.given)

-- the rows that are read for some picked rows of one split
abbrev pub span_read : DataType → ScanRequest → Layout → List ℕ → ℕ × ℕ
span_read d request l group = span_of request.selection (splits_of d request l) (range_from request.row_range) (range_to request.row_range (rows_of l)) group

-- the scan goes on up to some picked rows of one split of a file, which touch the segment
pub record ReachesSegment (d : DataType) (request : ScanRequest) (files : List ToldFile) (place : ℕ) (f : ToldFile) (id : ℕ) : Type 0 where
  pub layout : Layout
  pub given : f.given ≡ layout_of layout
  pub group : List ℕ
  pub picked : Contains (pick_groups (splits_of d request layout) (picked_rows request.row_range request.selection (rows_of layout))) group
  pub at : Place
  pub touches : Contains (touched layout f.store (span_read d request layout group).0 (span_read d request layout group).1) at
  pub is : at.id ≡ id
  pub goes_on : GoesOn request.limit (answer d request (take place files) ++ rows_before d request place f (least (rows_of layout) group))
