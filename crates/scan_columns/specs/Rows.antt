-- What expressions are evaluated on: rows, each a value and a number.
use Rattle.std.specs.Prelude.{◌≡◌, ◌<◌, ◌++◌, ℕ, Bool, List, [], ◌∷◌, Some, pos, length, map, get_or, position, bytes_eq, slice_index_or}
use Rattle.std.specs.List.{range_with_len}
use Rattle.scan_values.specs.DataType.{DataType, Name, fields_of}
use Rattle.scan_values.specs.Kinds.{struct_fields_of}
use Rattle.scan_values.specs.FieldLists.{names_of}
use Rattle.scan_values.specs.NameFaults.{field_names}
use Rattle.scan_values.specs.Val.{Val, null_val, int_val, struct_val, vals_of}
use Rattle.scan_expr.specs.declared.op.Unary.TheVariants.{GetItem}
use Rattle.scan_expr.specs.Bound.{Bound}
use Rattle.scan_expr.specs.Expr.{Expr, root, unary}
use Rattle.scan_expr.specs.Infer.{struct_fields}
use Rattle.scan_columns.specs.Cells.{vals_in}
use Rattle.scan_columns.specs.Nested.{AreLong}
use Rattle.scan_columns.specs.Evaluated.{value_in, overflows_in}
use Rattle.scan_columns.specs.declared.cells.Cells.{Cells}
use Rattle.scan_columns.specs.declared.rows.Rows.{Rows}
use Rattle.scan_columns.specs.declared.rows.Rows.TheVariants.{Whole, Parts}
use Rattle.scan_columns.specs.declared.rows.Given.{Given}
use Rattle.scan_columns.specs.declared.rows.Given.TheVariants.{Held, Made}

abbrev pub given_vals : Given → List Val
given_vals (Held c) = vals_in c.now
given_vals (Made c) = vals_in c

-- the value of a row; past the last, null
abbrev pub item_at : ℕ → List Val → Val
item_at r vs = slice_index_or vs r null_val

-- the struct of the values of a row
abbrev pub struct_at : List (List Val) → ℕ → Val
struct_at columns r = struct_val (vals_of (map (item_at r) columns))

-- the structs of several columns, each with its place
abbrev pub placed : List (List Val) → ℕ → Val × ℕ
placed columns r = (struct_at columns r, r)

abbrev pub part_rows : List (List Val) → ℕ → List (Val × ℕ)
part_rows columns n = map (placed columns) (range_with_len 0 n)

-- the values of one column have no number of their own
abbrev pub unnumbered : Val → Val × ℕ
unnumbered v = (v, 0)

abbrev pub rows_of : Rows → List (Val × ℕ)
rows_of (Whole c) = map unnumbered (vals_in c.now)
rows_of (Parts cs n) = part_rows (map vals_in cs.now) n

-- a column for each field of the scope, of this length
abbrev pub AreColumnsOf : DataType → ℕ → List (List Val) → Type 0
AreColumnsOf s n columns = (length (field_names (struct_fields s)) ≡ length columns) × AreLong n columns

abbrev pub AreRowsOf : DataType → Rows → Type 0
AreRowsOf s (Whole c) = Unit {0}
AreRowsOf s (Parts cs n) = AreColumnsOf s n (map vals_in cs.now)

-- the place of the first field of this name in a struct
abbrev pub IsPlaceOf : Name → DataType → ℕ → Type 0
IsPlaceOf n s p = (fs : List (Name × DataType)) × (struct_fields_of s ≡ Some (fields_of fs)) × (Some p ≡ position (bytes_eq n) (names_of fs))

-- the column of the field of this name, of those of a struct's fields
abbrev pub IsFieldIn : Name → DataType → List (List Val) → List Val → Type 0
IsFieldIn n s columns vs = (p : ℕ) × IsPlaceOf n s p × (p < length columns) × (vs ≡ get_or columns p [])

-- the columns at these places
abbrev pub picked : List (List Val) → List ℕ → List (List Val)
picked columns ps = map (λ p. get_or columns p []) ps

-- each place is one of so many
abbrev pub AreBelow : ℕ → List ℕ → Type 0
AreBelow n [] = Unit {0}
AreBelow n (p ∷ ps) = (p < n) × AreBelow n ps

-- the values of columns, and then those of others
abbrev pub beside : List Cells → List Cells → List (List Val)
beside cs ds = map vals_in cs ++ map vals_in ds

-- values stand at a place of columns that begin with older ones
abbrev pub IsPlaced : List (List Val) → List (List Val) → ℕ → List Val → Type 0
IsPlaced old new p vs = (more : List (List Val)) × (new ≡ old ++ more) × (p < length new) × (get_or new p [] ≡ vs)

-- an expression that is the scope's field at a place
abbrev pub IsFieldAt : DataType → Expr → ℕ → Type 0
IsFieldAt s e p = (n : Name) × IsPlaceOf n s p × (e ≡ unary (GetItem n) root)

abbrev pub row_value : Val × ℕ → Val
row_value row = row.0

abbrev pub row_number : Val × ℕ → Val
row_number row = int_val (pos row.1)

-- ---- a bound expression in rows
abbrev pub bound_in : List (Val × ℕ) → Bound → List Val
bound_in rows b = map (value_in b.scope b.expr) rows

abbrev pub bound_overflows_in : List (Val × ℕ) → Bound → Bool
bound_overflows_in rows b = overflows_in b.scope b.expr rows
