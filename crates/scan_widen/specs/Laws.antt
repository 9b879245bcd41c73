-- Laws.
use Rattle.std.specs.Prelude.{◌≡◌, ℕ, ℤ, List, true, Some}
use Rattle.scan_spelling.specs.declared.spelling.Spelling.{Spelling}
use Rattle.scan_spelling.specs.declared.spelling.Spelling.TheVariants.{One}
use Rattle.scan_spelling.specs.Spelling.{decode}
use Rattle.scan_spelling.specs.Written.{spelled}
use Rattle.scan_values.specs.Kinds.{is_scalar_type}
use Rattle.scan_values.specs.Val.{Val, marked_all, vals_of}
use Rattle.scan_values.specs.declared.ptype.PType.{PType}
use Rattle.scan_values.specs.DataType.{DataType}
use Rattle.scan_values.specs.Fits.{fits_all}
use Rattle.scan_values.specs.Ranges.{in_range}
use Rattle.scan_widen.specs.FitsUnder.{holds_all, fits_under}

-- an integer type fits one whose range holds its own
abbrev pub RangesHold : Type 0
RangesHold = (p q : PType) (z : ℤ) → holds_all p q ≡ true → in_range p z ≡ true → in_range q z ≡ true

-- values of a scalar dtype are values of one that it fits under
abbrev pub ValuesGo : Type 0
ValuesGo = (from to : DataType) (vs : List Val) → is_scalar_type from ≡ true → fits_under from to ≡ true → fits_all (marked_all (vals_of vs)) from ≡ true → fits_all (marked_all (vals_of vs)) to ≡ true

-- the values of a segment, spelled as ones of the other dtype, are read again
abbrev pub WidenedReadsAgain : Type 0
WidenedReadsAgain = (s : Spelling) (from to : DataType) (n : ℕ) (bytes : List ℕ) (vs : List Val) → is_scalar_type from ≡ true → fits_under from to ≡ true
    → decode s from n bytes ≡ Some vs → decode One to n (spelled One to vs) ≡ Some vs
