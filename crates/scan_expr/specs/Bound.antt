-- What a contract sees of a bound expression: the scope, and the expression over it.
use Rattle.std.specs.Prelude.{refl, Result, List, map}
use Rattle.scan_expr.specs.declared.op.BindFault.{BindFault}
use Rattle.std.specs.Coded.{Coded, code_by, coded×}
use Rattle.scan_values.specs.DataType.{DataType, data_type_code}
use Rattle.scan_expr.specs.Expr.{Expr, conjuncts_of}
use Rattle.scan_expr.specs.ExprCode.{expr_code}
use Rattle.scan_expr.specs.Typing.{Fault, typed}

pub record Bound : Type 0 where
  pub scope : DataType
  pub expr : Expr

abbrev pub bound_code : Coded Bound
bound_code = code_by (DataType × Expr) (coded× data_type_code expr_code) (λ b. (b.scope, b.expr)) (λ p. record { scope = p.0; expr = p.1 }) (λ _. refl)

abbrev pub bound_of : DataType → Expr → Bound
bound_of s e = record { scope = s; expr = e }

-- an expression over a scope, unless there is a fault
abbrev pub bound_unless : Fault → DataType → Expr → Result Bound BindFault
bound_unless f s e = typed f (bound_of s e)

abbrev pub exprs_of : List Bound → List Expr
exprs_of = map (λ b. b.expr)

-- the conjuncts of a bound expression, each over its scope
abbrev pub bound_conjuncts : Bound → List Bound
bound_conjuncts b = map (bound_of b.scope) (conjuncts_of b.expr)
