-- The values of expressions and of operators, which are no damaged ones where nothing overflows.
use Rattle.std.specs.Prelude.{ℕ, Bool, false, ◌||◌, List, [], ◌∷◌}
use Rattle.std.specs.List.{list_any}
use Rattle.scan_values.specs.DataType.{DataType}
use Rattle.scan_values.specs.Val.{Val, marked, read_marked}
use Rattle.scan_values.specs.declared.ptype.Nullability.TheVariants.{Nullable}
use Rattle.scan_expr.specs.declared.op.Unary.{Unary}
use Rattle.scan_expr.specs.declared.op.Binary.{Binary}
use Rattle.scan_expr.specs.Expr.{Expr}
use Rattle.scan_expr.specs.Eval.{eval, unary_value, not_value, binary_value}
use Rattle.scan_expr.specs.Overflow.{overflows, spills}

abbrev pub value_on : DataType → Expr → Val → Val
value_on s e v = read_marked (eval s e (marked v) 0)

-- ---- in rows, each a value and a number
abbrev pub value_in : DataType → Expr → Val × ℕ → Val
value_in s e row = read_marked (eval s e (marked row.0) row.1)

-- whether it overflows in some row
abbrev pub overflows_in : DataType → Expr → List (Val × ℕ) → Bool
overflows_in s e rows = list_any (λ row. overflows s e (marked row.0) row.1) rows

-- ---- an operator
abbrev pub unary_val : Unary → DataType → Val → Val
unary_val u d v = read_marked (unary_value u d (marked v))

abbrev pub not_val : Val → Val
not_val v = read_marked (not_value Nullable (marked v))

abbrev pub binary_val : Binary → DataType → Val → Val → Val
binary_val b d v w = read_marked (binary_value b d (marked v) (marked w))

-- of two lists of values, side by side
abbrev pub paired : (Val → Val → Val) → List Val → List Val → List Val
paired f [] ws = []
paired f (v ∷ vs) [] = []
paired f (v ∷ vs) (w ∷ ws) = f v w ∷ paired f vs ws

-- whether it overflows on some pair
abbrev pub spills_in : Binary → DataType → List Val → List Val → Bool
spills_in b d [] ws = false
spills_in b d (v ∷ vs) [] = false
spills_in b d (v ∷ vs) (w ∷ ws) = spills b d (marked v) (marked w) || spills_in b d vs ws
