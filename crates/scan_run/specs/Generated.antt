-- The files that the program generates, and what it asks of them.
use Rattle.std.specs.Prelude.{ℕ, ◌+◌, ◌-◌, ◌*◌, ◌/◌, ◌%◌, ◌==◌, min, pos, List, [], ◌∷◌, ◌++◌, map, length, true, None, Some, slice_range, if◌then◌else◌, codes}
use Rattle.std.specs.List.{flat_map}
use Rattle.scan_values.specs.declared.ptype.PType.{PType}
use Rattle.scan_values.specs.declared.ptype.PType.TheVariants.{U8, U32, I32}
use Rattle.scan_values.specs.declared.ptype.Nullability.TheVariants.{NonNullable, Nullable}
use Rattle.scan_values.specs.declared.selection.Selection.TheVariants.{All}
use Rattle.scan_values.specs.DataType.{DataType, int_type, list_type, struct_type, fields_of}
use Rattle.scan_values.specs.Selections.{numbers}
use Rattle.scan_values.specs.Val.{Val, null_val, int_val}
use Rattle.scan_expr.specs.declared.op.Unary.TheVariants.{GetItem, ListLength}
use Rattle.scan_expr.specs.declared.op.Binary.TheVariants.{GreaterOrEqual}
use Rattle.scan_expr.specs.declared.request.ScanRequest.{ScanRequest}
use Rattle.scan_expr.specs.Expr.{Expr, root, literal, unary, binary, pack, parts_of}
use Rattle.scan_layout.specs.declared.node.LayoutKind.TheVariants as kind
use Rattle.scan_spelling.specs.declared.spelling.Spelling.{Spelling}
use Rattle.scan_layout.specs.Layout.{Layout, node, nodes, no_nodes}
use Rattle.scan_spelling.specs.Written.{spelled}

-- ---- a row, by its number

abbrev pub id_of : ℕ → Val
id_of g = int_val (pos g)

-- each fifth one is null
abbrev pub value_of : ℕ → Val
value_of g = if g % 5 == 4 then null_val else int_val (pos (g % 10))

abbrev pub element_of : ℕ → ℕ → Val
element_of g j = int_val (pos ((g + j) % 256))

-- the elements of its list
abbrev pub elements_of : ℕ → List Val
elements_of g = map (element_of g) (numbers 0 (g % 4))

-- ---- the columns of n rows, the first of which has a number

-- where lists of these lengths begin, the first of them here, and where the last one ends
abbrev pub offsets_from : ℕ → List ℕ → List ℕ
offsets_from here [] = here ∷ []
offsets_from here (m ∷ ms) = here ∷ offsets_from (here + m) ms

module _ (first n : ℕ) where
  abbrev pub rows : List ℕ
  rows = numbers first (first + n)

  abbrev pub ids : List Val
  ids = map id_of rows

  abbrev pub values : List Val
  values = map value_of rows

  abbrev pub elements : List Val
  elements = flat_map elements_of rows

  abbrev pub offsets : List Val
  offsets = map id_of (offsets_from 0 (map (λ g. g % 4) rows))

-- ---- segments

-- how many segments so many rows have
abbrev pub piece_count : ℕ → ℕ
piece_count m = (m + 999) / 1000

-- the rows of a segment: the first one, and the first one after it
abbrev pub piece_at : ℕ → ℕ → ℕ × ℕ
piece_at m k = (1000 * k, min (1000 * k + 1000) m)

-- the segments of so many rows: a thousand rows, and in the last one what is left
abbrev pub pieces : ℕ → List (ℕ × ℕ)
pieces m = map (piece_at m) (numbers 0 (piece_count m))

-- how many rows each has
abbrev pub rows_of : ℕ × ℕ → ℕ
rows_of p = p.1 - p.0

abbrev pub piece_rows : ℕ → List ℕ
piece_rows m = map rows_of (pieces m)

abbrev pub number_type : PType → DataType
number_type p = int_type p NonNullable

abbrev pub value_type : DataType
value_type = int_type I32 Nullable

-- the values of a segment of a column, spelled
abbrev pub spelled_piece : Spelling → DataType → List Val → ℕ × ℕ → List ℕ
spelled_piece s d vs p = spelled s d (slice_range vs p.0 p.1)

-- the segments of a column
abbrev pub column_segments : Spelling → DataType → List Val → List (List ℕ)
column_segments s d vs = map (spelled_piece s d vs) (pieces (length vs))

-- the segments of a file: those of the ids, of the values, of the elements and of the offsets
abbrev pub file_segments : Spelling → ℕ → ℕ → List (List ℕ)
file_segments s first n = column_segments s (number_type U32) (ids first n) ++ (column_segments s value_type (values first n)
    ++ (column_segments s (number_type U8) (elements first n) ++ column_segments s (number_type U32) (offsets first n)))

-- each with its number, from one on
abbrev pub numbered : {A : Type 0} → ℕ → List A → List (ℕ × A)
numbered k [] = []
numbered k (x ∷ xs) = (k, x) ∷ numbered (k + 1) xs

-- ---- layouts

-- so many rows in segments that are numbered from one on
abbrev pub leaf_layout : Spelling → DataType → ℕ → ℕ → Layout
leaf_layout s d id m = node d m (kind.Leaf (numbered id (piece_rows m)) s) no_nodes

abbrev pub lists_type : DataType
lists_type = list_type (number_type U8) NonNullable

abbrev pub table_type : DataType
table_type = struct_type (fields_of ((codes "id", number_type U32) ∷ (codes "v", value_type) ∷ (codes "l", lists_type) ∷ [])) NonNullable

-- the lists of n rows, which have so many elements
abbrev pub list_layout : Spelling → ℕ → ℕ → ℕ → Layout
list_layout s id m n = node lists_type n (kind.List U32)
    (nodes (leaf_layout s (number_type U8) id m ∷ leaf_layout s (number_type U32) (id + piece_count m) (n + 1) ∷ []))

abbrev pub file_layout : Spelling → ℕ → ℕ → Layout
file_layout s m n = node table_type n kind.Struct
    (nodes (leaf_layout s (number_type U32) 0 n ∷ leaf_layout s value_type (piece_count n) n ∷ list_layout s (2 * piece_count n) m n ∷ []))

-- ---- what is asked: id and length of the list, where the value is at least 5

abbrev pub field : List ℕ → Expr
field name = unary (GetItem name) root

abbrev pub wanted_rows : Expr
wanted_rows = binary GreaterOrEqual (field (codes "v")) (literal (number_type I32) (int_val (pos 5)))

abbrev pub wanted_fields : Expr
wanted_fields = pack (parts_of (codes "id" ∷ codes "n" ∷ []) (field (codes "id") ∷ unary ListLength (field (codes "l")) ∷ [])) NonNullable

abbrev pub generated_request : ScanRequest
generated_request = record {
  projection = wanted_fields;
  filter = Some wanted_rows;
  row_range = None;
  selection = All;
  partition_selection = All;
  partition_range = None;
  ordered = true;
  limit = None;
}
