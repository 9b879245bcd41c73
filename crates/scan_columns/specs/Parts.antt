-- What columns are made of: bits that may be left out, and columns for the parts of a dtype.
use Rattle.std.specs.Prelude.{◌≡◌, ℕ, Bool, true, List, [], ◌∷◌, replicate, length, Option, Some, None}
use Rattle.scan_values.specs.DataType.{DataType, Fields, no_fields, field, is_nullable}
use Rattle.scan_values.specs.Kinds.{struct_fields_of}
use Rattle.scan_values.specs.Arrays.{ArrayData}
use Rattle.scan_values.specs.Val.{Val, vals_of, marked_all}
use Rattle.scan_values.specs.Fits.{fits_all}

-- the bits, which are all true where they are left out
abbrev pub bits_of : Option (List Bool) → ℕ → List Bool
bits_of None n = replicate n true
bits_of (Some bs) n = bs

-- so many bits, which are left out where no null may be
abbrev pub AreBits : Option (List Bool) → ℕ → DataType → Type 0
AreBits None n d = Unit {0}
AreBits (Some bs) n d = (length bs ≡ n) × (is_nullable d ≡ true)

-- the columns are of the fields' dtypes, in order
abbrev pub AreOf : List ArrayData → Fields → Type 0
AreOf [] no_fields = Unit {0}
AreOf [] (field n d fs) = ⊥
AreOf (c ∷ cs) no_fields = ⊥
AreOf (c ∷ cs) (field n d fs) = (c.dtype ≡ d) × AreOf cs fs

abbrev pub AreOfSome : List ArrayData → Option Fields → Type 0
AreOfSome cs None = ⊥
AreOfSome cs (Some fs) = AreOf cs fs

-- the dtype is a struct's, and the columns are of its fields' dtypes
abbrev pub AreFieldsOf : List ArrayData → DataType → Type 0
AreFieldsOf cs d = AreOfSome cs (struct_fields_of d)

abbrev pub items_of : ArrayData → List Val
items_of c = c.items

-- each column's values fit its dtype
abbrev pub AllFitting : List ArrayData → Type 0
AllFitting [] = Unit {0}
AllFitting (c ∷ cs) = (fits_all (marked_all (vals_of c.items)) c.dtype ≡ true) × AllFitting cs
