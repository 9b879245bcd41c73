-- Worked rows.
use Rattle.std.specs.Prelude.{◌≡◌, ℕ, ◌==◌, List, [], ◌∷◌, map, true, if◌then◌else◌, Some, None, pos}
use Rattle.scan_values.specs.declared.ptype.Nullability.TheVariants.{NonNullable, Nullable}
use Rattle.scan_values.specs.declared.ptype.PType.TheVariants.{U32, I32}
use Rattle.scan_values.specs.DataType.{DataType, bool_type, int_type, list_type, struct_type, no_fields, field}
use Rattle.scan_values.specs.Marked.{null, gone, integer, list, struct, none, more}
use Rattle.scan_segments.specs.Source.{Store}
use Rattle.scan_layout.specs.declared.node.LayoutKind.TheVariants.{Leaf, Struct, List as List'}
use Rattle.scan_layout.specs.declared.fault.LayoutFault.TheVariants.{Offsets}
use Rattle.scan_spelling.specs.declared.spelling.Spelling.TheVariants.{One, Two}
use Rattle.scan_layout.specs.Layout.{Layout, node, no_nodes, child}
use Rattle.scan_layout.specs.Check.{first_fault}
use Rattle.scan_spelling.specs.declared.spelling.Spelling.{Spelling}
use Rattle.scan_spelling.specs.Spelling.{decode}
use Rattle.scan_spelling.specs.Written.{spelled}
use Rattle.scan_values.specs.Val.{Val, null_val, bool_val, int_val}
use Rattle.scan_layout.specs.RowValue.{row_value}
use Rattle.scan_layout.specs.Touched.{touched}
use Rattle.scan_layout.specs.Edges.{edges, list_split_grid_size, map_element_split_to_outer_grid}

-- a number of 32 bits, below 256
abbrev pub small : ℕ → List ℕ → List ℕ
small n rest = n ∷ 0 ∷ 0 ∷ 0 ∷ rest

abbrev pub i32 : DataType
i32 = int_type I32 NonNullable

abbrev pub u32 : DataType
u32 = int_type U32 NonNullable

abbrev pub flags : DataType
flags = bool_type NonNullable

abbrev pub leaf : DataType → ℕ → List (ℕ × ℕ) → Layout
leaf t rows segments = node t rows (Leaf segments One) no_nodes

abbrev pub ids : Layout → Store → ℕ → ℕ → List ℕ
ids l store s e = map (λ p. p.id) (touched l store s e)

-- a nullable struct of the column 1, 2, 3 in segment 0, whose second row is null by segment 2
abbrev pub a_type : DataType
a_type = struct_type (field (97 ∷ []) i32 no_fields) Nullable

abbrev pub struct_by : Spelling → Layout
struct_by s = node a_type 3 Struct (child (node flags 3 (Leaf ((2, 3) ∷ []) s) no_nodes) (child (leaf i32 3 ((0, 3) ∷ [])) no_nodes))

abbrev pub a_struct : Layout
a_struct = struct_by One

abbrev pub a_store : Store
a_store id = if id == 0 then Some (small 1 (small 2 (small 3 []))) else if id == 2 then Some (1 ∷ 0 ∷ 1 ∷ []) else None

-- the same, where segment 2 has bits
abbrev pub bits_store : Store
bits_store id = if id == 2 then Some (5 ∷ []) else a_store id

-- the same, of which the last byte of the column is cut off
abbrev pub cut_store : Store
cut_store id = if id == 0 then Some (small 1 (small 2 (3 ∷ 0 ∷ 0 ∷ []))) else a_store id

-- lists by the offsets 0, 2, 2, 5, 9 of the elements 10 to 18 in three segments
abbrev pub list_layout : Layout
list_layout = node (list_type i32 NonNullable) 4 (List' U32) (child (leaf i32 9 ((1, 2) ∷ (2, 3) ∷ (3, 4) ∷ [])) (child (leaf u32 5 ((0, 5) ∷ [])) no_nodes))

abbrev pub list_store : Store
list_store id =
    if id == 0 then Some (small 0 (small 2 (small 2 (small 5 (small 9 []))))) else if id == 1 then Some (small 10 (small 11 []))
    else if id == 2 then Some (small 12 (small 13 (small 14 []))) else if id == 3 then Some (small 15 (small 16 (small 17 (small 18 [])))) else None

-- two lists by the offsets 0, 3, 2 of three elements
abbrev pub falling : Layout
falling = node (list_type i32 NonNullable) 2 (List' U32) (child (leaf i32 3 ((1, 3) ∷ [])) (child (leaf u32 3 ((0, 3) ∷ [])) no_nodes))

abbrev pub falling_store : Store
falling_store id = if id == 0 then Some (small 0 (small 3 (small 2 []))) else Some (small 1 (small 2 (small 3 [])))

-- two nulls by the offsets 0, 0, 0 of no elements
abbrev pub nulls : Layout
nulls = node (list_type i32 Nullable) 2 (List' U32) (child (leaf i32 0 []) (child (leaf u32 3 ((0, 3) ∷ [])) (child (leaf flags 2 ((1, 2) ∷ [])) no_nodes)))

abbrev pub nulls_store : Store
nulls_store id = if id == 0 then Some (small 0 (small 0 (small 0 []))) else Some (0 ∷ 0 ∷ [])

-- a list of no rows with so many offsets
abbrev pub no_rows : ℕ → Layout
no_rows n = node (list_type i32 NonNullable) 0 (List' U32) (child (leaf i32 0 []) (child (leaf u32 n ((0, n) ∷ [])) no_nodes))

-- two columns of three rows, the second in segments of two rows and one
abbrev pub two_columns : Layout
two_columns = node (struct_type (field (97 ∷ []) i32 (field (98 ∷ []) i32 no_fields)) NonNullable) 3 Struct
    (child (leaf i32 3 ((0, 3) ∷ [])) (child (leaf i32 3 ((1, 2) ∷ (2, 1) ∷ [])) no_nodes))

abbrev pub bools : DataType
bools = bool_type Nullable

abbrev pub ints : DataType
ints = int_type I32 Nullable

abbrev pub one_null_three : List Val
one_null_three = int_val (pos 1) ∷ null_val ∷ int_val (pos 3) ∷ []

abbrev pub WorkedRows : Type 0
WorkedRows =
    record {
      struct_form : first_fault a_struct a_type ≡ None;
      struct_first : row_value a_struct a_store 0 ≡ struct (more (integer (pos 1)) none);
      struct_null : row_value a_struct a_store 1 ≡ null;
      struct_touches : ids a_struct a_store 0 3 ≡ 2 ∷ 0 ∷ [];
      cut_first : row_value a_struct cut_store 0 ≡ struct (more gone none);
      cut_null : row_value a_struct cut_store 1 ≡ null;
      list_form : first_fault list_layout (list_type i32 NonNullable) ≡ None;
      list_empty : row_value list_layout list_store 1 ≡ list none;
      list_of_three : row_value list_layout list_store 2 ≡ list (more (integer (pos 12)) (more (integer (pos 13)) (more (integer (pos 14)) none)));
      empty_touches : ids list_layout list_store 1 2 ≡ 0 ∷ [];
      three_touches : ids list_layout list_store 2 3 ≡ 0 ∷ 2 ∷ [];
      falls : row_value falling falling_store 1 ≡ gone;
      first_null : row_value nulls nulls_store 0 ≡ null;
      second_null : row_value nulls nulls_store 1 ≡ null;
      no_offset : first_fault (no_rows 0) (list_type i32 NonNullable) ≡ Some Offsets;
      one_offset : first_fault (no_rows 1) (list_type i32 NonNullable) ≡ None;
      splits : edges two_columns ([] ∷ []) 0 3 ≡ 3 ∷ 2 ∷ 3 ∷ 3 ∷ [];
      grid : list_split_grid_size 1000000 ≡ 128;
      least_grid : list_split_grid_size 0 ≡ 64;
      mapped : map_element_split_to_outer_grid 50 100 1000 64 ≡ Some 500;
      not_first : map_element_split_to_outer_grid 1 1000 1000 64 ≡ None;
      not_last : map_element_split_to_outer_grid 100 100 1000 64 ≡ None;
      bits_written : spelled Two bools (bool_val true ∷ null_val ∷ []) ≡ 1 ∷ 1 ∷ [];
      bits_read : decode Two bools 2 (1 ∷ 1 ∷ []) ≡ Some (bool_val true ∷ null_val ∷ []);
      null_bit_ignored : decode Two bools 2 (1 ∷ 3 ∷ []) ≡ Some (bool_val true ∷ null_val ∷ []);
      spare_flag : decode Two bools 2 (5 ∷ 1 ∷ []) ≡ None;
      spare_bool : decode Two bools 2 (1 ∷ 5 ∷ []) ≡ None;
      bytes_first : decode One ints 3 (1 ∷ 0 ∷ 1 ∷ small 1 (small 0 (small 3 []))) ≡ Some one_null_three;
      bits_after : spelled Two ints one_null_three ≡ 5 ∷ small 1 (small 0 (small 3 []));
      ints_by_bits : decode Two ints 3 (5 ∷ small 1 (small 0 (small 3 []))) ≡ Some one_null_three;
      null_by_bits : row_value (struct_by Two) bits_store 1 ≡ null;
      there_by_bits : row_value (struct_by Two) bits_store 2 ≡ struct (more (integer (pos 3)) none);
    }
