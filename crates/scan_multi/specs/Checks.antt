-- What is right and what is wrong with what an opener gives.
use Rattle.std.specs.Prelude.{◌≡◌, ◌≢◌, ℕ, List, true, false, None, Some, map, sum}
use Rattle.scan_values.specs.DataType.{DataType}
use Rattle.scan_expr.specs.declared.request.ScanRequest.{ScanRequest}
use Rattle.scan_layout.specs.Layout.{dtype_of, rows_of}
use Rattle.scan_layout.specs.Check.{first_fault}
use Rattle.scan_layout.specs.declared.fault.LayoutFault.{LayoutFault}
use Rattle.scan_opener.specs.Opener.{Given, skip, layout_of}
use Rattle.scan_multi.specs.Answer.{ToldFile, is_within, is_good}

-- a layout that is read: of the dtype, well-formed, and with the rows of the range
abbrev pub IsRead : DataType → ScanRequest → Given → Type 0
IsRead d request skip = ⊥
IsRead d request (layout_of l) = is_good d request l ≡ true

-- skipped, or a layout that is read
abbrev pub IsGood : DataType → ScanRequest → Given → Type 0
IsGood d request skip = Unit {0}
IsGood d request (layout_of l) = is_good d request l ≡ true

-- a layout of another dtype
abbrev pub IsOfOtherType : DataType → Given → Type 0
IsOfOtherType d skip = ⊥
IsOfOtherType d (layout_of l) = dtype_of l ≢ d

-- a layout of the dtype that is not well-formed, first by this fault
abbrev pub IsIllFormed : DataType → LayoutFault → Given → Type 0
IsIllFormed d f skip = ⊥
IsIllFormed d f (layout_of l) = (dtype_of l ≡ d) × (first_fault l d ≡ Some f)

-- a well-formed layout of the dtype, past whose rows the range ends
abbrev pub EndsPast : DataType → ScanRequest → Given → Type 0
EndsPast d request skip = ⊥
EndsPast d request (layout_of l) = (first_fault l d ≡ None) × (is_within request.row_range (rows_of l) ≡ false)

-- how many rows an opener gives
abbrev pub rows_given : Given → ℕ
rows_given skip = 0
rows_given (layout_of l) = rows_of l

-- how many rows the files have that are not skipped
abbrev pub rows_in : List ToldFile → ℕ
rows_in files = sum (map (λ f. rows_given f.given) files)
