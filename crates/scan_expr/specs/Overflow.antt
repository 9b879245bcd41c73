-- Where an expression overflows: at a checked sum or difference that lies outside its integer type.
use Rattle.std.specs.Prelude.{ℕ, ℤ, Bool, false, not, ◌||◌, Option, Some, None, List}
use Rattle.std.specs.List.{list_any}
use Rattle.scan_values.specs.DataType.{DataType}
use Rattle.scan_values.specs.Fits.{fits_int}
use Rattle.scan_values.specs.Marked.{Marked}
use Rattle.scan_values.specs.Val.{Val, marked}
use Rattle.scan_expr.specs.declared.op.Binary.{Binary}
use Rattle.scan_expr.specs.declared.op.Binary.TheVariants.{Mask, And, Or, Equal, NotEqual, Less, LessOrEqual, Greater, GreaterOrEqual, CheckedAdd, CheckedSub}
use Rattle.scan_expr.specs.Expr.{Expr, root, row_index, literal, unary, binary, pack, Parts, no_parts, part}
use Rattle.scan_expr.specs.Infer.{infer, binary_type}
use Rattle.scan_expr.specs.Eval.{integer_of, combine, eval}

-- two integers whose sum or difference is none of the dtype
abbrev pub outside : Binary → DataType → Option ℤ → Option ℤ → Bool
outside b d None q = false
outside b d (Some x) None = false
outside b d (Some x) (Some y) = not (fits_int d (combine b x y))

-- whether an operator whose result has the dtype d overflows on two values
abbrev pub spills : Binary → DataType → Marked → Marked → Bool
spills Mask d x y = false
spills And d x y = false
spills Or d x y = false
spills Equal d x y = false
spills NotEqual d x y = false
spills Less d x y = false
spills LessOrEqual d x y = false
spills Greater d x y = false
spills GreaterOrEqual d x y = false
spills CheckedAdd d x y = outside CheckedAdd d (integer_of x) (integer_of y)
spills CheckedSub d x y = outside CheckedSub d (integer_of x) (integer_of y)

-- whether some node of an expression overflows: over a scope, on the scope's value v, in the row of number i
abbrev mutual
  pub overflows : DataType → Expr → Marked → ℕ → Bool
  overflows s root v i = false
  overflows s row_index v i = false
  overflows s (literal d w) v i = false
  overflows s (unary u e) v i = overflows s e v i
  overflows s (binary b x y) v i =
      overflows s x v i || (overflows s y v i || spills b (binary_type b (infer s x) (infer s y)) (eval s x v i) (eval s y v i))
  overflows s (pack ps n) v i = any_overflows s ps v i

  pub any_overflows : DataType → Parts → Marked → ℕ → Bool
  any_overflows s no_parts v i = false
  any_overflows s (part n e ps) v i = overflows s e v i || any_overflows s ps v i

-- whether it overflows on some item of an array
abbrev pub overflows_on : DataType → Expr → List Val → Bool
overflows_on s e items = list_any (λ v. overflows s e (marked v) 0) items
