-- What a JSON value means as a value of a dtype.
use Rattle.std.specs.Prelude.{ℕ, zero, suc, ℤ, List, [], ◌∷◌, Bool, true, false, ◌&&◌, map, Option, None, Some, option_map, option_and_then, if◌then◌else◌}
use Rattle.std.specs.Str.{bytes_eq}
use Rattle.std.specs.List.{list_any}
use Rattle.serde_json.specs.Data.{Data, null, boolean, number, string, array, object, Items, no_items, item, Members, no_members, member}
use Rattle.serde_json.specs.Find.{get, as_integer}
use Rattle.scan_values.specs.DataType.{DataType, Name, Fields, field_list, is_nullable}
use Rattle.scan_values.specs.FieldLists.{names_of}
use Rattle.scan_values.specs.Fits.{fits_int, is_bool_type, is_utf8_type}
use Rattle.scan_values.specs.Kinds.{element_of, struct_fields_of}
use Rattle.scan_values.specs.Val.{Val, null_val, bool_val, int_val, text_val, list_val, struct_val, vals_of}
use Rattle.scan_import.specs.Lists.{all_of}

-- null, a truth value, a number and a text, where a dtype has it
abbrev pub null_in : DataType → Option Val
null_in d = if is_nullable d then Some null_val else None

abbrev pub bool_in : DataType → Bool → Option Val
bool_in d b = if is_bool_type d then Some (bool_val b) else None

abbrev pub int_in : DataType → ℤ → Option Val
int_in d z = if fits_int d z then Some (int_val z) else None

abbrev pub text_in : DataType → List ℕ → Option Val
text_in d s = if is_utf8_type d then Some (text_val s) else None

-- the items of an array
abbrev pub item_list : Items → List Data
item_list no_items = []
item_list (item d ds) = d ∷ item_list ds

-- a list of what the items mean
abbrev pub list_from : (DataType → Data → Option Val) → Option DataType → Items → Option Val
list_from inner None ds = None
list_from inner (Some e) ds = option_map (λ vs. list_val (vals_of vs)) (all_of (map (inner e) (item_list ds)))

-- each member has one of these names
abbrev pub are_named : List Name → Members → Bool
are_named ns no_members = true
are_named ns (member k d ms) = list_any (λ n. bytes_eq n k) ns && are_named ns ms

-- an object whose members have these names
abbrev pub is_object_of : List Name → Data → Bool
is_object_of ns (object ms) = are_named ns ms
is_object_of ns null = false
is_object_of ns (boolean b) = false
is_object_of ns (number n) = false
is_object_of ns (string s) = false
is_object_of ns (array ds) = false

-- what a member means; one that lacks is null
abbrev pub member_in : (DataType → Data → Option Val) → DataType → Option Data → Option Val
member_in inner d None = null_in d
member_in inner d (Some j) = inner d j

-- what the member of each field means
abbrev pub members_in : (DataType → Data → Option Val) → List (Name × DataType) → Data → List (Option Val)
members_in inner fs j = map (λ f. member_in inner f.1 (get f.0 j)) fs

-- a struct of what the members mean
abbrev pub row_from : (DataType → Data → Option Val) → List (Name × DataType) → Data → Option Val
row_from inner fs j = if is_object_of (names_of fs) j then option_map (λ vs. struct_val (vals_of vs)) (all_of (members_in inner fs j)) else None

abbrev pub struct_from : (DataType → Data → Option Val) → Option Fields → Data → Option Val
struct_from inner None j = None
struct_from inner (Some fs) j = row_from inner (field_list fs) j

-- a value, of which the parts mean what they mean one level below
abbrev pub value_from : (DataType → Data → Option Val) → DataType → Data → Option Val
value_from inner d null = null_in d
value_from inner d (boolean b) = bool_in d b
value_from inner d (number n) = option_and_then (int_in d) (as_integer n)
value_from inner d (string s) = text_in d s
value_from inner d (array ds) = list_from inner (element_of d) ds
value_from inner d (object ms) = struct_from inner (struct_fields_of d) (object ms)

-- of a dtype that nests no deeper than so much
abbrev pub value_within : ℕ → DataType → Data → Option Val
value_within zero d j = None
value_within (suc n) d j = value_from (value_within n) d j

-- no dtype nests deeper
abbrev pub most_levels : ℕ
most_levels = 66

-- what a JSON value means as a value of a dtype
abbrev pub value_in : DataType → Data → Option Val
value_in d j = value_within most_levels d j
