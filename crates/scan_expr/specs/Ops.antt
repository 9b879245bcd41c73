-- The expression that an operator makes of bound parts, and what holds of a bound expression.
use Rattle.std.specs.Prelude.{◌≡◌, ℕ, List, [], ◌∷◌, length, None, All}
use Rattle.scan_values.specs.Values.{val_of}
use Rattle.scan_values.specs.DataType.{DataType}
use Rattle.scan_expr.specs.Expr.{Expr, root, row_index, literal, unary, binary, pack, parts_of}
use Rattle.scan_expr.specs.Infer.{infer, struct_fields}
use Rattle.scan_expr.specs.Places.{unary_places}
use Rattle.scan_expr.specs.Typing.{typing_fault}
use Rattle.scan_expr.specs.Bound.{Bound, exprs_of}
use Rattle.scan_expr.specs.declared.bound.Op.{Op}
use Rattle.scan_expr.specs.declared.bound.Op.TheVariants.{Root, RowIdx, Literal, Unary, Binary, Pack}

abbrev pub apply_op : Op → List Expr → Expr
apply_op Root es = root
apply_op RowIdx es = row_index
apply_op (Literal d v) es = literal d (val_of v)
apply_op (Unary u) [] = root
apply_op (Unary u) (e ∷ es) = unary u e
apply_op (Binary b) [] = root
apply_op (Binary b) (x ∷ []) = root
apply_op (Binary b) (x ∷ y ∷ es) = binary b x y
apply_op (Pack ns n) es = pack (parts_of ns es) n

-- how many parts an operator takes
abbrev pub HasArity : Op → ℕ → Type 0
HasArity Root k = k ≡ 0
HasArity RowIdx k = k ≡ 0
HasArity (Literal d v) k = k ≡ 0
HasArity (Unary u) k = k ≡ 1
HasArity (Binary b) k = k ≡ 2
HasArity (Pack ns n) k = k ≡ length ns

-- where the fields stand that an operator takes of its part's values
abbrev pub node_places : List Bound → Op → List ℕ
node_places [] op = []
node_places (b ∷ bs) Root = []
node_places (b ∷ bs) RowIdx = []
node_places (b ∷ bs) (Literal d v) = []
node_places (b ∷ bs) (Unary u) = unary_places u (struct_fields (infer b.scope b.expr))
node_places (b ∷ bs) (Binary o) = []
node_places (b ∷ bs) (Pack ns n) = []

pub record IsBound (op : Op) (parts : List Bound) (scope dtype : DataType) (places : List ℕ) : Type 0 where
  pub arity : HasArity op (length parts)
  pub scopes : All (λ b. b.scope ≡ scope) parts
  pub typed : infer scope (apply_op op (exprs_of parts)) ≡ dtype
  pub faultless : typing_fault scope (apply_op op (exprs_of parts)) ≡ None
  pub placed : places ≡ node_places parts op
