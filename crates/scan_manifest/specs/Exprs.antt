-- The expression that a JSON value says.
use Rattle.std.specs.Prelude.{ℕ, zero, suc, List, [], ◌∷◌, Option, None, Some, option_map, option_and_then, if◌then◌else◌, codes}
use Rattle.std.specs.Str.{bytes_eq}
use Rattle.serde_json.specs.Data.{Data, null, boolean, number, string, array, object, Members, no_members, member}
use Rattle.serde_json.specs.Find.{get, as_str, as_array, as_object, as_integer}
use Rattle.scan_values.specs.DataType.{Name}
use Rattle.scan_values.specs.Val.{Val, null_val, bool_val, int_val, text_val}
use Rattle.scan_expr.specs.declared.op.Unary.{Unary}
use Rattle.scan_expr.specs.declared.op.Unary.TheVariants.{GetItem, Select, Exclude, Not, IsNull, IsNotNull, ListLength}
use Rattle.scan_expr.specs.declared.op.Binary.{Binary}
use Rattle.scan_expr.specs.declared.op.Binary.TheVariants.{Mask, And, Or, Equal, NotEqual, Less, LessOrEqual, Greater, GreaterOrEqual, CheckedAdd, CheckedSub}
use Rattle.scan_expr.specs.Expr.{Expr, root, row_index, literal, unary, binary, pack, Parts, no_parts, part}
use Rattle.scan_manifest.specs.declared.json.Form.TheVariants.{Literal, Pack}
use Rattle.scan_manifest.specs.Json.{has_form, pair_in, each, list_in, both}
use Rattle.scan_manifest.specs.DTypes.{dtype_in, nullability_in, most_levels}

-- the operators on one expression that take nothing else
abbrev pub unary_named : List ℕ → Option Unary
unary_named k =
    if bytes_eq k (codes "not") then Some Not else
    (if bytes_eq k (codes "is_null") then Some IsNull else
    (if bytes_eq k (codes "is_not_null") then Some IsNotNull else
    (if bytes_eq k (codes "list_length") then Some ListLength else None)))

abbrev pub binary_named : List ℕ → Option Binary
binary_named k =
    if bytes_eq k (codes "mask") then Some Mask else
    (if bytes_eq k (codes "and") then Some And else
    (if bytes_eq k (codes "or") then Some Or else
    (if bytes_eq k (codes "eq") then Some Equal else
    (if bytes_eq k (codes "ne") then Some NotEqual else
    (if bytes_eq k (codes "lt") then Some Less else
    (if bytes_eq k (codes "le") then Some LessOrEqual else
    (if bytes_eq k (codes "gt") then Some Greater else
    (if bytes_eq k (codes "ge") then Some GreaterOrEqual else
    (if bytes_eq k (codes "add") then Some CheckedAdd else
    (if bytes_eq k (codes "sub") then Some CheckedSub else None))))))))))

-- an operator with a name or names
abbrev pub operator_in : List ℕ → Data → Option Unary
operator_in k d =
    if bytes_eq k (codes "get") then option_map GetItem (as_str d) else
    (if bytes_eq k (codes "select") then option_map Select (list_in as_str d) else
    (if bytes_eq k (codes "exclude") then option_map Exclude (list_in as_str d) else None))

-- the value of a literal
abbrev pub value_in : Data → Option Val
value_in null = Some null_val
value_in (boolean b) = Some (bool_val b)
value_in (number n) = option_map int_val (as_integer n)
value_in (string s) = Some (text_val s)
value_in (array ds) = None
value_in (object ms) = None

abbrev pub literal_in : Data → Data → Option Expr
literal_in d v = if has_form Literal d then both (λ x t. Some (literal t x)) (value_in v) (option_and_then dtype_in (get (codes "type") d)) else None

-- a part of a pack, as `[name, expression]`
abbrev pub part_in : (Data → Option Expr) → Data → Option (Name × Expr)
part_in inner d = option_and_then (λ p. both (λ n e. Some (n, e)) (as_str p.0) (inner p.1)) (pair_in d)

abbrev pub parts_from : List (Name × Expr) → Parts
parts_from [] = no_parts
parts_from (p ∷ ps) = part p.0 p.1 (parts_from ps)

abbrev pub pack_in : (Data → Option Expr) → Data → Data → Option Expr
pack_in inner d parts = if has_form Pack d then both (λ ps n. Some (pack (parts_from ps) n))
    (option_and_then (each (part_in inner)) (as_array parts)) (nullability_in d) else None

abbrev pub only_member : Members → Option (List ℕ × Data)
only_member no_members = None
only_member (member k d no_members) = Some (k, d)
only_member (member k d (member l e ms)) = None

-- the key and the value of an object with one member
abbrev pub only_in : Data → Option (List ℕ × Data)
only_in d = option_and_then only_member (as_object d)

abbrev pub by_operator : (Data → Option Expr) → List ℕ → Data → Option Expr
by_operator inner k v = option_and_then (λ p. both (λ u e. Some (unary u e)) (operator_in k p.0) (inner p.1)) (pair_in v)

abbrev pub by_binary : (Data → Option Expr) → List ℕ → Data → Option Binary → Option Expr
by_binary inner k v (Some b) = option_and_then (λ p. both (λ x y. Some (binary b x y)) (inner p.0) (inner p.1)) (pair_in v)
by_binary inner k v None = by_operator inner k v

abbrev pub by_unary : (Data → Option Expr) → List ℕ → Data → Option Unary → Option Expr
by_unary inner k v (Some u) = option_map (unary u) (inner v)
by_unary inner k v None = by_binary inner k v (binary_named k)

-- an operator's key, with what it is applied to
abbrev pub operation_in : (Data → Option Expr) → Data → Option Expr
operation_in inner d = option_and_then (λ p. by_unary inner p.0 p.1 (unary_named p.0)) (only_in d)

abbrev pub pack_or : (Data → Option Expr) → Data → Option Data → Option Expr
pack_or inner d (Some parts) = pack_in inner d parts
pack_or inner d None = operation_in inner d

abbrev pub node_in : (Data → Option Expr) → Data → Option Data → Option Expr
node_in inner d (Some v) = literal_in d v
node_in inner d None = pack_or inner d (get (codes "pack") d)

abbrev pub leaf_named : List ℕ → Option Expr
leaf_named s = if bytes_eq s (codes "$") then Some root else (if bytes_eq s (codes "#row_idx") then Some row_index else None)

-- by its text, if it is one
abbrev pub expr_from : (Data → Option Expr) → Data → Option (List ℕ) → Option Expr
expr_from inner d (Some s) = leaf_named s
expr_from inner d None = node_in inner d (get (codes "lit") d)

-- of a value that nests no deeper than so much
abbrev pub expr_within : ℕ → Data → Option Expr
expr_within zero d = None
expr_within (suc n) d = expr_from (expr_within n) d (as_str d)

abbrev pub expr_in : Data → Option Expr
expr_in d = expr_within most_levels d
