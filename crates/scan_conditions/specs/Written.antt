-- Conditions as they are written, and the expressions that they are.
use Rattle.std.specs.Prelude.{◌≡◌, ◌+◌, ◌*◌, ◌-◌, ℕ, ℤ, pos, neg_ℤ, List, [], ◌∷◌, ◌++◌, Bool, true, false, ◌&&◌, ◌||◌, not, leb, ltb, map, Option, Some, None, option_map, option_and_then, codes}
use Rattle.std.specs.List.{list_all}
use Rattle.std.specs.Str.{bytes_eq}
use Rattle.scan_values.specs.DataType.{DataType, Name, bool_type, int_type, utf8_type}
use Rattle.scan_values.specs.Kinds.{ptype_of}
use Rattle.scan_values.specs.Val.{bool_val, int_val, text_val}
use Rattle.scan_values.specs.declared.ptype.Nullability.TheVariants.{NonNullable}
use Rattle.scan_expr.specs.Expr.{Expr, root, row_index, literal, unary, binary, pack, parts_of as packed_parts}
use Rattle.scan_expr.specs.Infer.{infer}
use Rattle.scan_expr.specs.declared.op.Unary.{Unary}
use Rattle.scan_expr.specs.declared.op.Unary.TheVariants as un
use Rattle.scan_expr.specs.declared.op.Binary.{Binary}
use Rattle.scan_expr.specs.declared.op.Binary.TheVariants as bin
use Rattle.scan_conditions.specs.declared.operator.Infix.{Infix}
use Rattle.scan_conditions.specs.declared.operator.Infix.TheVariants as op
use Rattle.scan_conditions.specs.declared.operator.Function.{Function}
use Rattle.scan_conditions.specs.declared.operator.Function.TheVariants as functions
use Rattle.scan_conditions.specs.Spelling.{Part, word, name, text, sign, Spells, begins, is_letter, is_digit, is_filled}

-- names of fields within one another, from the outermost
abbrev pub Path : Type 0
Path = Part × List Part

-- fields within one another, the row's number, a text, a truth value, a number, one below 0, the contrary, a function,
-- parentheses, and an operator between two
pub data Written : Type 0 where
  field : Path → Written
  row_number : Written
  quoted_text : List ℕ → Written
  truth : Bool → Written
  number : List ℕ → Written
  negative : List ℕ → Written
  contrary : Written → Written
  call : Function → Written → Written
  grouped : Written → Written
  joined : Infix → Written → Written → Written

-- ---- how it is written
abbrev pub infix_part : Infix → Part
infix_part op.Or = word (codes "or")
infix_part op.And = word (codes "and")
infix_part op.Equal = sign (codes "=")
infix_part op.NotEqual = sign (codes "!=")
infix_part op.Less = sign (codes "<")
infix_part op.LessOrEqual = sign (codes "<=")
infix_part op.Greater = sign (codes ">")
infix_part op.GreaterOrEqual = sign (codes ">=")
infix_part op.Plus = sign (codes "+")
infix_part op.Minus = sign (codes "-")

abbrev pub function_name : Function → List ℕ
function_name functions.IsNull = codes "is_null"
function_name functions.IsNotNull = codes "is_not_null"
function_name functions.ListLength = codes "list_length"

abbrev pub truth_name : Bool → List ℕ
truth_name true = codes "true"
truth_name false = codes "false"

-- names behind the first, each with a dot before it
abbrev pub dotted : List Part → List Part
dotted [] = []
dotted (p ∷ ps) = sign (codes ".") ∷ p ∷ dotted ps

abbrev pub path_parts : Path → List Part
path_parts p = p.0 ∷ dotted p.1

abbrev pub parts_of : Written → List Part
parts_of (field p) = path_parts p
parts_of row_number = word (codes "#row_idx") ∷ []
parts_of (quoted_text t) = text t ∷ []
parts_of (truth b) = word (truth_name b) ∷ []
parts_of (number w) = word w ∷ []
parts_of (negative w) = sign (codes "-") ∷ word w ∷ []
parts_of (contrary x) = word (codes "not") ∷ parts_of x
parts_of (call f x) = word (function_name f) ∷ sign (codes "(") ∷ (parts_of x ++ sign (codes ")") ∷ [])
parts_of (grouped x) = sign (codes "(") ∷ (parts_of x ++ sign (codes ")") ∷ [])
parts_of (joined o x y) = parts_of x ++ (infix_part o ∷ parts_of y)

-- ---- what may be written where
-- how closely an operator binds: `or`, `and`, `not`, comparisons, sums
abbrev pub infix_level : Infix → ℕ
infix_level op.Or = 1
infix_level op.And = 2
infix_level op.Equal = 4
infix_level op.NotEqual = 4
infix_level op.Less = 4
infix_level op.LessOrEqual = 4
infix_level op.Greater = 4
infix_level op.GreaterOrEqual = 4
infix_level op.Plus = 5
infix_level op.Minus = 5

abbrev pub level_of : Written → ℕ
level_of (joined o x y) = infix_level o
level_of (contrary x) = 3
level_of (field p) = 6
level_of row_number = 6
level_of (quoted_text t) = 6
level_of (truth b) = 6
level_of (number w) = 6
level_of (negative w) = 6
level_of (call f x) = 6
level_of (grouped x) = 6

-- words that name no field unless they are quoted
abbrev pub is_reserved : List ℕ → Bool
is_reserved w = bytes_eq w (codes "and") || (bytes_eq w (codes "or") || (bytes_eq w (codes "not") || (bytes_eq w (codes "true") || bytes_eq w (codes "false"))))

abbrev pub names_field : Part → Bool
names_field (word w) = begins is_letter w && not (is_reserved w)
names_field (name n) = true
names_field (text t) = false
names_field (sign s) = false

abbrev pub is_path : Path → Bool
is_path p = names_field p.0 && list_all names_field p.1

abbrev pub is_number : List ℕ → Bool
is_number w = is_filled w && list_all is_digit w

-- Operators that bind as closely are taken from the left.
abbrev pub is_ranked : Written → Bool
is_ranked (field p) = is_path p
is_ranked row_number = true
is_ranked (quoted_text t) = true
is_ranked (truth b) = true
is_ranked (number w) = is_number w
is_ranked (negative w) = is_number w
is_ranked (contrary x) = leb 3 (level_of x) && is_ranked x
is_ranked (call f x) = is_ranked x
is_ranked (grouped x) = is_ranked x
is_ranked (joined o x y) = leb (infix_level o) (level_of x) && (ltb (infix_level o) (level_of y) && (is_ranked x && is_ranked y))

-- ---- what it says
-- an expression, or a number whose type what stands beside it tells
pub data Said : Type 0 where
  typed : Expr → Said
  untyped : ℤ → Said

abbrev pub field_name : Part → Name
field_name (word w) = w
field_name (name n) = n
field_name (text t) = t
field_name (sign s) = s

-- a field of a field of an expression
abbrev pub nested : Expr → List Name → Expr
nested e [] = e
nested e (n ∷ ns) = nested (unary (un.GetItem n) e) ns

abbrev pub path_names : Path → List Name
path_names p = map field_name (p.0 ∷ p.1)

abbrev pub path_expr : Path → Expr
path_expr p = nested root (path_names p)

-- the number that decimal digits write, behind those of another
abbrev pub digits_behind : ℕ → List ℕ → ℕ
digits_behind n [] = n
digits_behind n (c ∷ cs) = digits_behind (n * 10 + (c - 48)) cs

abbrev pub binary_of : Infix → Binary
binary_of op.Or = bin.Or
binary_of op.And = bin.And
binary_of op.Equal = bin.Equal
binary_of op.NotEqual = bin.NotEqual
binary_of op.Less = bin.Less
binary_of op.LessOrEqual = bin.LessOrEqual
binary_of op.Greater = bin.Greater
binary_of op.GreaterOrEqual = bin.GreaterOrEqual
binary_of op.Plus = bin.CheckedAdd
binary_of op.Minus = bin.CheckedSub

abbrev pub unary_of : Function → Unary
unary_of functions.IsNull = un.IsNull
unary_of functions.IsNotNull = un.IsNotNull
unary_of functions.ListLength = un.ListLength

-- an operator on an expression
abbrev pub applied : Unary → Said → Option Said
applied u (typed e) = Some (typed (unary u e))
applied u (untyped z) = None

-- a number as a literal of the integer type of an expression
abbrev pub literal_beside : DataType → ℤ → Expr → Option Expr
literal_beside s z e = option_map (λ p. literal (int_type p NonNullable) (int_val z)) (ptype_of (infer s e))

-- an operator between two: a number has the type of the other side
abbrev pub joined_said : DataType → Infix → Said → Said → Option Said
joined_said s o (typed x) (typed y) = Some (typed (binary (binary_of o) x y))
joined_said s o (typed x) (untyped z) = option_map (λ y. typed (binary (binary_of o) x y)) (literal_beside s z x)
joined_said s o (untyped z) (typed y) = option_map (λ x. typed (binary (binary_of o) x y)) (literal_beside s z y)
joined_said s o (untyped z) (untyped w) = None

-- what a condition says of rows of a dtype
abbrev pub said : DataType → Written → Option Said
said s (field p) = Some (typed (path_expr p))
said s row_number = Some (typed row_index)
said s (quoted_text t) = Some (typed (literal (utf8_type NonNullable) (text_val t)))
said s (truth b) = Some (typed (literal (bool_type NonNullable) (bool_val b)))
said s (number w) = Some (untyped (pos (digits_behind 0 w)))
said s (negative w) = Some (untyped (neg_ℤ (pos (digits_behind 0 w))))
said s (contrary x) = option_and_then (applied un.Not) (said s x)
said s (call f x) = option_and_then (applied (unary_of f)) (said s x)
said s (grouped x) = said s x
said s (joined o x y) = option_and_then (λ a. option_and_then (λ b. joined_said s o a b) (said s y)) (said s x)

-- the expression that a text says of rows of a dtype
pub record IsCondition (s : DataType) (bytes : List ℕ) (e : Expr) : Type 0 where
  pub written : Written
  pub spells : Spells bytes (parts_of written)
  pub ranked : is_ranked written ≡ true
  pub says : said s written ≡ Some (typed e)

-- ---- selections
-- paths behind the first, each with a comma before it
abbrev pub with_commas : List Path → List Part
with_commas [] = []
with_commas (p ∷ ps) = sign (codes ",") ∷ (path_parts p ++ with_commas ps)

-- names behind the first, each with a dot before it
abbrev pub with_dots : List Name → List ℕ
with_dots [] = []
with_dots (n ∷ ns) = 46 ∷ (n ++ with_dots ns)

abbrev pub joined_names : List Name → Name
joined_names [] = []
joined_names (n ∷ ns) = n ++ with_dots ns

-- the name of a field that is selected: its names with a dot between them
abbrev pub path_name : Path → Name
path_name p = joined_names (path_names p)

-- the struct of fields, each under its name
abbrev pub selection_of : List Path → Expr
selection_of ps = pack (packed_parts (map path_name ps) (map path_expr ps)) NonNullable

-- the expression of the fields that a text selects
pub record IsSelection (bytes : List ℕ) (e : Expr) : Type 0 where
  pub first : Path
  pub others : List Path
  pub spells : Spells bytes (path_parts first ++ with_commas others)
  pub fields : list_all is_path (first ∷ others) ≡ true
  pub is : e ≡ selection_of (first ∷ others)
