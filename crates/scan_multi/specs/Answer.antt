-- What a scan is to give: the rows of its files, in order.
use Rattle.std.specs.Prelude.{ℕ, ◌+◌, List, [], ◌∷◌, ◌++◌, Bool, true, false, not, ◌&&◌, ◌||◌, cond, Option, None, Some, map, nat_le}
use Rattle.std.specs.List.{flat_map, list_any, list_all}
use Rattle.std.specs.Option.{is_none}
use Rattle.scan_values.specs.DataType.{DataType}
use Rattle.scan_values.specs.Marked.{Marked, lost, null, gone, boolean, integer, text, list, struct}
use Rattle.scan_values.specs.Val.{Val, is_clean, read_marked}
use Rattle.std.specs.declared.ops.Range.{Range}
use Rattle.scan_values.specs.Selections.{picked_rows}
use Rattle.scan_expr.specs.Eval.{eval}
use Rattle.scan_expr.specs.Overflow.{overflows}
use Rattle.scan_expr.specs.Expr.{filter_conjuncts}
use Rattle.scan_expr.specs.declared.request.ScanRequest.{ScanRequest}
use Rattle.scan_segments.specs.Source.{Store}
use Rattle.scan_layout.specs.Layout.{Layout, rows_of}
use Rattle.scan_layout.specs.RowValue.{row_value}
use Rattle.scan_layout.specs.Check.{first_fault}
use Rattle.scan_opener.specs.Opener.{Given, skip, layout_of}

-- a file, where its opener and its source tell
pub record ToldFile : Type 0 where
  pub given : Given
  pub store : Store

-- a row of the answer, by its file and its number; it has no value where it is damaged
pub record Item : Type 0 where
  pub file : ℕ
  pub row : ℕ
  pub value : Option Val

-- whether a conjunct of this value drops its row: it is false or null
abbrev pub drops : Marked → Bool
drops lost = false
drops null = true
drops gone = false
drops (boolean b) = not b
drops (integer z) = false
drops (text s) = false
drops (list ms) = false
drops (struct ms) = false

-- whether a conjunct or the projection overflows at a row
abbrev pub spills_at : DataType → ScanRequest → ℕ → Marked → Bool
spills_at d request i v =
    list_any (λ e. overflows d e v i) (filter_conjuncts request.filter) || overflows d request.projection v i

-- the projection's value, where all that was looked at is clean
abbrev pub finding : List Marked → Marked → Option Val
finding tests value = cond (list_all is_clean tests && is_clean value) (Some (read_marked value)) None

-- What a row gives, by its number and its value: nothing where a conjunct drops it; else damage where what is looked at
-- is not clean or overflows; else the projection's value.
abbrev pub item_of : DataType → ScanRequest → ℕ → Marked → List (Option Val)
item_of d request i v =
    let tests : List Marked = map (λ e. eval d e v i) (filter_conjuncts request.filter) in
    let value : Option Val = cond (spills_at d request i v) None (finding tests (eval d request.projection v i)) in
    cond (list_any drops tests) [] (value ∷ [])

-- a range ends within so many rows
abbrev pub is_within : Option (Range ℕ) → ℕ → Bool
is_within None rows = true
is_within (Some range) rows = nat_le range.end rows

-- of the dtype, well-formed, and with the rows of the range
abbrev pub is_good : DataType → ScanRequest → Layout → Bool
is_good d request l = is_none (first_fault l d) && is_within request.row_range (rows_of l)

-- the items that a row of a file gives: one or none
abbrev pub row_items : DataType → ScanRequest → ℕ → Layout → Store → ℕ → List Item
row_items d request file l store i = map (λ v. record { file = file; row = i; value = v }) (item_of d request i (row_value l store i))

-- the rows of a file; one damaged item where its layout is not good
abbrev pub part_of : DataType → ScanRequest → ℕ → Store → Given → List Item
part_of d request file store skip = []
part_of d request file store (layout_of l) =
    cond (is_good d request l)
    (flat_map (row_items d request file l store) (picked_rows request.row_range request.selection (rows_of l)))
    (record { file = file; row = 0; value = None } ∷ [])

-- the rows of files, the first of which has this place
abbrev pub answer_from : DataType → ScanRequest → ℕ → List ToldFile → List Item
answer_from d request place [] = []
answer_from d request place (f ∷ fs) = part_of d request place f.store f.given ++ answer_from d request (place + 1) fs

-- the row-by-row answer: the rows of all files, in their order
abbrev pub answer : DataType → ScanRequest → List ToldFile → List Item
answer d request files = answer_from d request 0 files
