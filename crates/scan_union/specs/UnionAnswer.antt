-- What a scan over a union is to give: the rows of its files, read as of one dtype, in order.
use Rattle.std.specs.Prelude.{ℕ, ◌+◌, List, [], ◌∷◌, ◌++◌, Bool, ◌&&◌, cond, None, map}
use Rattle.std.specs.List.{flat_map}
use Rattle.std.specs.Option.{is_none}
use Rattle.scan_values.specs.DataType.{DataType}
use Rattle.scan_values.specs.Marked.{Marked}
use Rattle.scan_values.specs.Selections.{picked_rows}
use Rattle.scan_expr.specs.declared.request.ScanRequest.{ScanRequest}
use Rattle.scan_segments.specs.Source.{Store}
use Rattle.scan_layout.specs.Layout.{Layout, dtype_of, rows_of}
use Rattle.scan_layout.specs.RowValue.{row_value}
use Rattle.scan_layout.specs.Check.{first_fault}
use Rattle.scan_opener.specs.Opener.{Given, skip, layout_of}
use Rattle.scan_multi.specs.Answer.{ToldFile, Item, item_of, is_within}
use Rattle.scan_widen.specs.FitsUnder.{fits_under}
use Rattle.scan_widen.specs.Wide.{wide}

-- of a dtype that fits, well-formed under its own dtype, and with the rows of the range
abbrev pub is_good_under : DataType → ScanRequest → Layout → Bool
is_good_under d request l = fits_under (dtype_of l) d && (is_none (first_fault l (dtype_of l)) && is_within request.row_range (rows_of l))

-- a row of a file, read as of the dtype
abbrev pub row_under : DataType → Layout → Store → ℕ → Marked
row_under d l store i = wide (dtype_of l) d (row_value l store i)

-- the items that a row of a file gives: one or none
abbrev pub union_items : DataType → ScanRequest → ℕ → Layout → Store → ℕ → List Item
union_items d request file l store i = map (λ v. record { file = file; row = i; value = v }) (item_of d request i (row_under d l store i))

-- the rows of a file; one damaged item where its layout is not good
abbrev pub union_part : DataType → ScanRequest → ℕ → Store → Given → List Item
union_part d request file store skip = []
union_part d request file store (layout_of l) =
    cond (is_good_under d request l)
    (flat_map (union_items d request file l store) (picked_rows request.row_range request.selection (rows_of l)))
    (record { file = file; row = 0; value = None } ∷ [])

-- the rows of files, the first of which has this place
abbrev pub union_answer_from : DataType → ScanRequest → ℕ → List ToldFile → List Item
union_answer_from d request place [] = []
union_answer_from d request place (f ∷ fs) = union_part d request place f.store f.given ++ union_answer_from d request (place + 1) fs

-- the row-by-row answer: the rows of all files, in their order
abbrev pub union_answer : DataType → ScanRequest → List ToldFile → List Item
union_answer d request files = union_answer_from d request 0 files
