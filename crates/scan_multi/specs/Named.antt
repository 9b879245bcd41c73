-- The segments that a scan may ask a file for.
use Rattle.std.specs.Prelude.{ℕ, min, List, [], ◌∷◌, Bool, true, false, not, cond, filter, map, Option, None, Some, ◌==◌, ◌&&◌, bytes_eq}
use Rattle.std.specs.List.{flat_map}
use Rattle.scan_values.specs.DataType.{DataType}
use Rattle.scan_values.specs.declared.selection.Selection.{Selection}
use Rattle.scan_values.specs.declared.selection.Selection.TheVariants.{All, IncludeByIndex, ExcludeByIndex}
use Rattle.scan_values.specs.Selections.{picked_rows}
use Rattle.std.specs.declared.ops.Range.{Range}
use Rattle.scan_expr.specs.Expr.{Expr, filter_conjuncts}
use Rattle.scan_expr.specs.Needs.{Demand, whole, null_alone, length_alone, fields, at, uses, needed_by}
use Rattle.scan_expr.specs.declared.request.ScanRequest.{ScanRequest}
use Rattle.scan_segments.specs.Source.{Store}
use Rattle.scan_layout.specs.Layout.{Layout, rows_of}
use Rattle.scan_layout.specs.Edges.{MaskPath, edges}
use Rattle.scan_layout.specs.PickGroups.{pick_groups, split_span, pick_span}
use Rattle.scan_spelling.specs.Places.{Place}
use Rattle.scan_layout.specs.Touched.{touched}
use Rattle.scan_opener.specs.Opener.{Given, skip, layout_of}
use Rattle.scan_multi.specs.Answer.{is_good}

-- the paths of the fields that are read: a chain, or a chain and each field that is chosen of it
abbrev pub masks_of : Demand → List MaskPath
masks_of whole = [] ∷ []
masks_of null_alone = [] ∷ []
masks_of length_alone = [] ∷ []
masks_of (fields names) = map (λ n. n ∷ []) names
masks_of (at name k) = map (λ mask. name ∷ mask) (masks_of k)

-- the same names in the same order
abbrev pub same_mask : MaskPath → MaskPath → Bool
same_mask [] [] = true
same_mask (m ∷ ms) (n ∷ ns) = bytes_eq m n && same_mask ms ns
same_mask _ _ = false

-- each once, in order of first appearance
abbrev pub distinct_masks : List MaskPath → List MaskPath
distinct_masks [] = []
distinct_masks (m ∷ ms) = m ∷ filter (λ n. not (same_mask m n)) (distinct_masks ms)

-- the expressions that a request reads by
abbrev pub expressions : ScanRequest → List Expr
expressions request = request.projection ∷ filter_conjuncts request.filter

-- the paths of the fields that a request reads, each once
abbrev pub field_masks : DataType → ScanRequest → List MaskPath
field_masks d request = distinct_masks (flat_map masks_of (flat_map (λ e. uses d e whole) (expressions request)))

-- the first row of a range
abbrev pub range_from : Option (Range ℕ) → ℕ
range_from None = 0
range_from (Some range) = range.start

-- the row at which a range ends, within so many rows
abbrev pub range_to : Option (Range ℕ) → ℕ → ℕ
range_to None rows = rows
range_to (Some range) rows = min range.end rows

-- the rows that are read for some picked rows of one split
abbrev pub span_of : Selection → List ℕ → ℕ → ℕ → List ℕ → ℕ × ℕ
span_of All splits lo hi group = split_span splits lo hi group
span_of (IncludeByIndex rows) splits lo hi group = pick_span lo group
span_of (ExcludeByIndex rows) splits lo hi group = split_span splits lo hi group

-- the rows that are read of a file, split by split
abbrev pub read_spans : DataType → ScanRequest → Layout → List (ℕ × ℕ)
read_spans d request l =
    let lo : ℕ = range_from request.row_range in
    let hi : ℕ = range_to request.row_range (rows_of l) in
    let splits : List ℕ = edges l (field_masks d request) lo hi in
    map (span_of request.selection splits lo hi) (pick_groups splits (picked_rows request.row_range request.selection (rows_of l)))

-- the segments at needed leaves that these rows touch
unfoldable pub places_in : DataType → ScanRequest → Layout → Store → List Place
places_in d request l store =
    filter (λ p. needed_by d (expressions request) p.path) (flat_map (λ span. touched l store span.0 span.1) (read_spans d request l))

-- each number once, in order of first appearance
abbrev pub distinct : List ℕ → List ℕ
distinct [] = []
distinct (n ∷ ns) = n ∷ filter (λ k. not (k == n)) (distinct ns)

-- the segments that may be asked of a file, at their leaves: none of one that is skipped or not good
abbrev pub named_places : DataType → ScanRequest → Given → Store → List Place
named_places d request skip store = []
named_places d request (layout_of l) store = cond (is_good d request l) (places_in d request l store) []

-- their ids, each once
abbrev pub named : DataType → ScanRequest → Given → Store → List ℕ
named d request given store = distinct (map (λ p. p.id) (named_places d request given store))
