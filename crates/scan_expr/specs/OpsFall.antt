-- Each part of a bound expression is smaller than the whole.
use Rattle.std.specs.Prelude.{◌≤◌, ◌+◌, max, List, [], ◌∷◌, length}
use Rattle.std.proofs.Common.{arith}
use denote.Param.Weighed.{most}
use Rattle.scan_values.specs.DataType.{Name}
use Rattle.scan_expr.specs.Expr.{parts_of, expr_size, parts_size}
use Rattle.scan_expr.specs.Bound.{Bound, exprs_of}
use Rattle.scan_expr.specs.Ops.{apply_op, HasArity}
use Rattle.scan_expr.specs.declared.bound.Op.{Op}
use Rattle.scan_expr.specs.declared.bound.Op.TheVariants.{Root, RowIdx, Literal, Unary, Binary, Pack}

most_le : (ns : List Name) (bs : List Bound) → most (λ b. expr_size b.expr + 1) bs ≤ parts_size (parts_of ns (exprs_of bs)) + 1
most_le ns [] = omega arith
most_le [] (b ∷ bs) = omega (arith, most_le [] bs)
most_le (n ∷ ns) (b ∷ bs) = omega (arith, most_le ns bs)

pub parts_fall : (op : Op) (bs : List Bound) → HasArity op (length bs) → max (most (λ b. expr_size b.expr + 1) bs) 0 ≤ expr_size (apply_op op (exprs_of bs))
parts_fall Root [] h = omega arith
parts_fall Root (b ∷ bs) h = absurd (omega arith)
parts_fall RowIdx [] h = omega arith
parts_fall RowIdx (b ∷ bs) h = absurd (omega arith)
parts_fall (Literal d v) [] h = omega arith
parts_fall (Literal d v) (b ∷ bs) h = absurd (omega arith)
parts_fall (Unary u) [] h = absurd (omega arith)
parts_fall (Unary u) (b ∷ []) h = omega arith
parts_fall (Unary u) (b ∷ c ∷ bs) h = absurd (omega arith)
parts_fall (Binary o) [] h = absurd (omega arith)
parts_fall (Binary o) (b ∷ []) h = absurd (omega arith)
parts_fall (Binary o) (b ∷ c ∷ []) h = omega arith
parts_fall (Binary o) (b ∷ c ∷ d ∷ bs) h = absurd (omega arith)
parts_fall (Pack ns n) bs h = omega (arith, most_le ns bs)
