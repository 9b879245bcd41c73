-- What rewritings of an expression over a part of its scope keep of the whole.
use Rattle.std.specs.Prelude.{◌≡◌, ℕ, ◌<◌, ◌^◌, true}
use Rattle.scan_values.specs.DataType.{DataType, list_type, nullability_of}
use Rattle.scan_values.specs.Marked.{Marked}
use Rattle.scan_values.specs.Fits.{fits}
use Rattle.scan_values.specs.declared.ptype.Nullability.{Nullability}
use Rattle.scan_expr.specs.Bound.{Bound}
use Rattle.scan_expr.specs.Expr.{root, unary}
use Rattle.scan_expr.specs.Infer.{infer}
use Rattle.scan_expr.specs.Eval.{eval}
use Rattle.scan_expr.specs.Overflow.{overflows}
use Rattle.scan_expr.specs.declared.op.Unary.TheVariants.{ListLength}
use Rattle.scan_partition.specs.declared.item.Item.{Item}
use Rattle.scan_partition.specs.Clean.{NodesKnown}
use Rattle.scan_partition.specs.Items.{spelled}
use Rattle.scan_partition.specs.Lists.{IsListRow}
use Rattle.scan_partition.specs.Tighter.{IsTighter}

-- r, on what an item of b's scope is there, is b
pub record IsOverItem (b : Bound) (i : Item) (r : Bound) : Type 0 where
  pub dtype : infer r.scope r.expr ≡ infer b.scope b.expr
  pub values : (v : Marked) (k : ℕ) → eval r.scope r.expr (eval b.scope (spelled i) v k) k ≡ eval b.scope b.expr v k
  pub overflow : (v : Marked) (k : ℕ) → overflows r.scope r.expr (eval b.scope (spelled i) v k) k ≡ overflows b.scope b.expr v k

-- the item is a value of r's scope, and each node's value is known
pub record IsKnownRow (b : Bound) (i : Item) (r : Bound) (v : Marked) (k : ℕ) : Type 0 where
  pub small : k < 2 ^ 64
  pub fit : fits (eval b.scope (spelled i) v k) r.scope ≡ true
  pub known : NodesKnown b.scope b.expr v k

-- r, whose scope may be null at fewer places than the item, is b on such rows, and its dtype is null at no more places
pub record IsOverTighter (b : Bound) (i : Item) (r : Bound) : Type 0 where
  pub dtype : IsTighter (infer r.scope r.expr) (infer b.scope b.expr)
  pub values : (v : Marked) (k : ℕ) → IsKnownRow b i r v k → eval r.scope r.expr (eval b.scope (spelled i) v k) k ≡ eval b.scope b.expr v k
  pub overflow : (v : Marked) (k : ℕ) → IsKnownRow b i r v k → overflows r.scope r.expr (eval b.scope (spelled i) v k) k ≡ overflows b.scope b.expr v k

-- r, on the length of a list, is b, where the list is known, null or lost; where its content is gone too, r overflows only where b does
pub record IsOverLengths (b : Bound) (r : Bound) : Type 0 where
  pub dtype : infer r.scope r.expr ≡ infer b.scope b.expr
  pub values : (v : Marked) (k : ℕ) → IsListRow (nullability_of b.scope) v
      → eval r.scope r.expr (eval b.scope (unary ListLength root) v k) k ≡ eval b.scope b.expr v k
  pub overflow : (v : Marked) (k : ℕ) → IsListRow (nullability_of b.scope) v
      → overflows r.scope r.expr (eval b.scope (unary ListLength root) v k) k ≡ overflows b.scope b.expr v k
  pub damaged : (el : DataType) (n : Nullability) (v : Marked) (k : ℕ) → b.scope ≡ list_type el n
      → fits v b.scope ≡ true → k < 2 ^ 64
      → overflows r.scope r.expr (eval b.scope (unary ListLength root) v k) k ≡ true
      → overflows b.scope b.expr v k ≡ true
