-- Rows, and what is in them.
use Rattle.std.specs.Prelude.{ℕ, ◌^◌, ◌&&◌, nat_lt, List, [], ◌∷◌, map, length, Bool, true, false, Option, None, Some, slice_get, pos}
use Rattle.std.specs.List.{flat_map}
use Rattle.scan_values.specs.declared.ptype.Nullability.TheVariants.{NonNullable, Nullable}
use Rattle.scan_values.specs.DataType.{DataType, bool_type, int_type, utf8_type, list_type, struct_type}
use Rattle.scan_values.specs.Val.{Val, Vals, null_val, bool_val, int_val, text_val, list_val, struct_val, no_vals, val, marked}
use Rattle.scan_values.specs.Fits.{fits}

-- a row, or none, as of what is in a null
abbrev pub Row : Type 0
Row = Option Val

abbrev pub parts_of : Vals → List Val
parts_of no_vals = []
parts_of (val v vs) = v ∷ parts_of vs

-- there is a row, and it is no null
abbrev pub is_there : Row → Bool
is_there None = false
is_there (Some null_val) = false
is_there (Some (bool_val b)) = true
is_there (Some (int_val z)) = true
is_there (Some (text_val s)) = true
is_there (Some (list_val vs)) = true
is_there (Some (struct_val vs)) = true

-- the field of a struct at a place
abbrev pub field_at : ℕ → Row → Row
field_at i None = None
field_at i (Some null_val) = None
field_at i (Some (bool_val b)) = None
field_at i (Some (int_val z)) = None
field_at i (Some (text_val s)) = None
field_at i (Some (list_val vs)) = None
field_at i (Some (struct_val vs)) = slice_get (parts_of vs) i

-- the elements of a list
abbrev pub elements_of : Row → List Row
elements_of None = []
elements_of (Some null_val) = []
elements_of (Some (bool_val b)) = []
elements_of (Some (int_val z)) = []
elements_of (Some (text_val s)) = []
elements_of (Some (list_val vs)) = map Some (parts_of vs)
elements_of (Some (struct_val vs)) = []

-- those of all lists, one list after the other
abbrev pub all_elements : List Row → List Row
all_elements rows = flat_map elements_of rows

-- how many elements each list has
abbrev pub counts : List Row → List ℕ
counts rows = map (λ r. length (elements_of r)) rows

-- whether each row is no null
abbrev pub validity : List Row → List Val
validity rows = map (λ r. bool_val (is_there r)) rows

-- some value of a scalar dtype
abbrev pub filler : DataType → Val
filler (bool_type NonNullable) = bool_val false
filler (bool_type Nullable) = null_val
filler (int_type p NonNullable) = int_val (pos 0)
filler (int_type p Nullable) = null_val
filler (utf8_type NonNullable) = text_val []
filler (utf8_type Nullable) = null_val
filler (list_type d n) = null_val
filler (struct_type fs n) = null_val

-- what a leaf has in a row: some value where there is none
abbrev pub leaf_value : DataType → Row → Val
leaf_value d None = filler d
leaf_value d (Some v) = v

-- no text in the value has more than 4294967295 bytes
abbrev mutual
  pub texts_fit : Val → Bool
  texts_fit null_val = true
  texts_fit (bool_val b) = true
  texts_fit (int_val z) = true
  texts_fit (text_val s) = nat_lt (length s) (2 ^ 32)
  texts_fit (list_val vs) = all_texts_fit vs
  texts_fit (struct_val vs) = all_texts_fit vs

  pub all_texts_fit : Vals → Bool
  all_texts_fit no_vals = true
  all_texts_fit (val v vs) = texts_fit v && all_texts_fit vs

-- a row that is there is of the dtype, and its texts fit
abbrev pub is_of : DataType → Row → Bool
is_of d None = true
is_of d (Some v) = fits (marked v) d && texts_fit v
