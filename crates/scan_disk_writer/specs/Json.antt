-- A dtype, a layout and the footer of a file, as JSON.
use Rattle.std.specs.Prelude.{ℕ, suc, ◌++◌, List, [], ◌∷◌, map, codes, Bool}
use Rattle.hex.specs.Hex.{encode_lower}
use Rattle.serde_json.specs.View.{items_of}
use Rattle.serde_json.specs.Data.{Data, boolean, number, unsigned, string, array, object, Items, no_items, item, no_members, member}
use Rattle.scan_values.specs.declared.ptype.PType.{PType}
use Rattle.scan_values.specs.declared.ptype.PType.TheVariants.{U8, U16, U32, U64, I8, I16, I32, I64}
use Rattle.scan_values.specs.declared.ptype.Nullability.{Nullability}
use Rattle.scan_values.specs.declared.ptype.Nullability.TheVariants.{NonNullable, Nullable}
use Rattle.scan_values.specs.DataType.{DataType, Name, Fields, bool_type, int_type, utf8_type, list_type, struct_type, no_fields, field, is_nullable}
use Rattle.scan_spelling.specs.declared.spelling.Spelling.{Spelling}
use Rattle.scan_spelling.specs.declared.spelling.Spelling.TheVariants.{One, Two}
use Rattle.scan_layout.specs.declared.node.LayoutKind.TheVariants.{Leaf, Struct, List as Listed}
use Rattle.scan_layout.specs.Layout.{Layout, Nodes, node, no_nodes, child, dtype_of}
use Rattle.scan_disk.specs.declared.place.Place.{Place}

abbrev pub ptype_name : PType → List ℕ
ptype_name U8 = codes "u8"
ptype_name U16 = codes "u16"
ptype_name U32 = codes "u32"
ptype_name U64 = codes "u64"
ptype_name I8 = codes "i8"
ptype_name I16 = codes "i16"
ptype_name I32 = codes "i32"
ptype_name I64 = codes "i64"

-- what marks the name of a nullable scalar
abbrev pub mark : Nullability → List ℕ
mark NonNullable = []
mark Nullable = codes "?"

-- the name of a scalar dtype, without that mark
abbrev pub scalar_name : DataType → List ℕ
scalar_name (bool_type n) = codes "bool"
scalar_name (int_type p n) = ptype_name p
scalar_name (utf8_type n) = codes "utf8"
scalar_name (list_type d n) = codes "utf8"
scalar_name (struct_type fs n) = codes "utf8"

abbrev pub named : Name → Data → Data
named name d = array (item (string name) (item d no_items))

-- a dtype of structs of these fields, and one of lists
abbrev pub struct_type_data : Bool → Items → Data
struct_type_data nullable fields = object (member (codes "nullable") (boolean nullable) (member (codes "struct") (array fields) no_members))

abbrev pub list_type_data : Bool → Data → Data
list_type_data nullable element = object (member (codes "list") element (member (codes "nullable") (boolean nullable) no_members))

-- a dtype, as in a manifest
abbrev mutual
  pub json_of_dtype : DataType → Data
  json_of_dtype (bool_type n) = string (codes "bool" ++ mark n)
  json_of_dtype (int_type p n) = string (ptype_name p ++ mark n)
  json_of_dtype (utf8_type n) = string (codes "utf8" ++ mark n)
  json_of_dtype (list_type d n) = list_type_data (is_nullable (list_type d n)) (json_of_dtype d)
  json_of_dtype (struct_type fs n) = struct_type_data (is_nullable (struct_type fs n)) (json_of_fields fs)

  pub json_of_fields : Fields → Items
  json_of_fields no_fields = no_items
  json_of_fields (field name d fs) = item (named name (json_of_dtype d)) (json_of_fields fs)

abbrev pub json_of_segment : ℕ × ℕ → Data
json_of_segment s = array (item (number (unsigned s.0)) (item (number (unsigned s.1)) no_items))

abbrev pub spelling_number : Spelling → ℕ
spelling_number One = 1
spelling_number Two = 2

-- a leaf, a struct of these children, and a list, by their rows
abbrev pub leaf_data : ℕ → List (ℕ × ℕ) → Spelling → Data
leaf_data rows segments spelling = object (member (codes "leaf") (array (items_of (map json_of_segment segments)))
    (member (codes "rows") (number (unsigned rows)) (member (codes "spelling") (number (unsigned (spelling_number spelling))) no_members)))

abbrev pub struct_data : ℕ → Items → Data
struct_data rows kids = object (member (codes "rows") (number (unsigned rows)) (member (codes "struct") (array kids) no_members))

abbrev pub list_data : ℕ → PType → Items → Data
list_data rows p kids = object (member (codes "list") (array kids)
    (member (codes "offsets") (string (ptype_name p)) (member (codes "rows") (number (unsigned rows)) no_members)))

-- a layout, as in a manifest
abbrev mutual
  pub json_of_layout : Layout → Data
  json_of_layout (node t rows (Leaf segments spelling) kids) = leaf_data rows segments spelling
  json_of_layout (node t rows Struct kids) = struct_data rows (json_of_nodes kids)
  json_of_layout (node t rows (Listed p) kids) = list_data rows p (json_of_nodes kids)

  pub json_of_nodes : Nodes → Items
  json_of_nodes no_nodes = no_items
  json_of_nodes (child l ls) = item (json_of_layout l) (json_of_nodes ls)

-- a segment and its place
abbrev pub json_of_place : ℕ → Place → Data
json_of_place id p = array (item (number (unsigned id)) (item (number (unsigned p.offset)) (item (number (unsigned p.length))
    (item (string (encode_lower p.digest)) no_items))))

-- the segments from this id on, and their places
abbrev pub json_of_places : ℕ → List Place → List Data
json_of_places id [] = []
json_of_places id (p ∷ ps) = json_of_place id p ∷ json_of_places (suc id) ps

abbrev pub json_of_footer : Layout → List Place → Data
json_of_footer l places = object (member (codes "dtype") (json_of_dtype (dtype_of l)) (member (codes "layout") (json_of_layout l)
    (member (codes "segments") (array (items_of (json_of_places 0 places))) no_members)))
