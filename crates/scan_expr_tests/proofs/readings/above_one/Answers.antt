use Rattle.std.proofs.Common.{◌≡◌, ℕ, List, refl, ap, sym, subst, ◌∙◌}
use Rattle.scan_values.specs.DataType.{DataType}
use Rattle.scan_values.specs.Val.{Val}
use Rattle.scan_expr.specs.declared.op.Unary.TheVariants.{GetItem}
use Rattle.scan_expr.specs.declared.op.Binary.TheVariants.{Greater}
use Rattle.scan_expr.specs.Expr.{Expr, root, literal, unary, binary}
use Rattle.scan_partition.specs.declared.item.Item.TheVariants.{Field}
use Rattle.scan_partition.specs.Items.{AtMost, IsExpanded, use_of}
use Rattle.scan_expr_tests.proofs.readings.above_one.Goals as goal

-- a field above a literal
spelled : (e x y : Expr) (n : List ℕ) (d : DataType) (v : Val) → e ≡ binary Greater x y → x ≡ unary (GetItem n) root → y ≡ literal d v → e ≡ binary Greater (unary (GetItem n) root) (literal d v)
spelled e x y n d v h k l = h ∙ (λ i. binary Greater (k i) (l i))

expanded : (e : Expr) (n : List ℕ) (d : DataType) (v : Val) → e ≡ binary Greater (unary (GetItem n) root) (literal d v) → IsExpanded e
expanded e n d v h = subst IsExpanded (sym h) (tt, tt)

alone : (e : Expr) (n : List ℕ) (d : DataType) (v : Val) → e ≡ binary Greater (unary (GetItem n) root) (literal d v) → AtMost (Field n) (use_of e)
alone e n d v h = subst (λ (z : Expr). AtMost (Field n) (use_of z)) (sym h) refl

pub returns-clause-expanded : goal.returns-clause-expanded
returns-clause-expanded c = expanded c.in_ok-above.above c.args.text.now _ _ (spelled c.in_ok-above.above c.in_ok-col.field-0 c.lit_int.result c.args.text.now _ _ c.in_ok-above.ensures c.in_ok-col.ensures c.lit_int.ensures)

pub returns-clause-alone : goal.returns-clause-alone
returns-clause-alone c = alone c.in_ok-above.above c.args.text.now _ _ (spelled c.in_ok-above.above c.in_ok-col.field-0 c.lit_int.result c.args.text.now _ _ c.in_ok-above.ensures c.in_ok-col.ensures c.lit_int.ensures)
