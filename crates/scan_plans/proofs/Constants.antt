-- An expression that reads nothing of its scope has one value on every row.
use Rattle.std.proofs.Common.{◌≡◌, ℕ, Bool, true, false, ◌||◌, refl, ap}
use Rattle.scan_values.specs.DataType.{DataType}
use Rattle.scan_values.specs.Marked.{Marked, struct}
use Rattle.scan_expr.specs.declared.op.Unary.{Unary}
use Rattle.scan_expr.specs.declared.op.Unary.TheVariants.{GetItem, Select, Exclude, Not, IsNull, IsNotNull, ListLength}
use Rattle.scan_expr.specs.Expr.{Expr, root, row_index, literal, unary, binary, pack, Parts, no_parts, part}
use Rattle.scan_expr.specs.Infer.{infer}
use Rattle.scan_expr.specs.Eval.{eval, eval_all, unary_value}
use Rattle.scan_expr.specs.Overflow.{overflows, any_overflows}
use Rattle.scan_plans.specs.Formed.{reads, any_reads, reads_root}

or_left : (a b : Bool) → (a || b) ≡ false → a ≡ false
or_left true b h = h
or_left false b h = refl

or_right : (a b : Bool) → (a || b) ≡ false → b ≡ false
or_right true b h = absurd cc
or_right false b h = h

root_same : (u : Unary) (d : DataType) (v w : Marked) → reads_root u d ≡ false → unary_value u d v ≡ unary_value u d w
root_same (GetItem n) d v w h = absurd cc
root_same (Select ns) d v w h = absurd cc
root_same (Exclude ns) d v w h = absurd cc
root_same Not d v w h = absurd cc
root_same IsNull d v w h = rw h refl
root_same IsNotNull d v w h = rw h refl
root_same ListLength d v w h = absurd cc

mutual
  pub value_alike : (d : DataType) (e : Expr) (v w : Marked) (i : ℕ) → reads d e ≡ false → eval d e v i ≡ eval d e w i
  value_alike d root v w i h = absurd cc
  value_alike d row_index v w i h = refl
  value_alike d (literal t x) v w i h = refl
  value_alike d (unary u root) v w i h = root_same u d v w h
  value_alike d (unary u row_index) v w i h = refl
  value_alike d (unary u (literal t x)) v w i h = refl
  value_alike d (unary u (unary t e)) v w i h = ap (unary_value u (infer d (unary t e))) (value_alike d (unary t e) v w i h)
  value_alike d (unary u (binary b x y)) v w i h = ap (unary_value u (infer d (binary b x y))) (value_alike d (binary b x y) v w i h)
  value_alike d (unary u (pack ps n)) v w i h = ap (unary_value u (infer d (pack ps n))) (value_alike d (pack ps n) v w i h)
  value_alike d (binary b x y) v w i h = rw (value_alike d x v w i (or_left (reads d x) (reads d y) h), value_alike d y v w i (or_right (reads d x) (reads d y) h)) refl
  value_alike d (pack ps n) v w i h = ap struct (values_alike d ps v w i h)

  pub values_alike : (d : DataType) (ps : Parts) (v w : Marked) (i : ℕ) → any_reads d ps ≡ false → eval_all d ps v i ≡ eval_all d ps w i
  values_alike d no_parts v w i h = refl
  values_alike d (part n e ps) v w i h = rw (value_alike d e v w i (or_left (reads d e) (any_reads d ps) h), values_alike d ps v w i (or_right (reads d e) (any_reads d ps) h)) refl

mutual
  pub overflow_alike : (d : DataType) (e : Expr) (v w : Marked) (i : ℕ) → reads d e ≡ false → overflows d e v i ≡ overflows d e w i
  overflow_alike d root v w i h = refl
  overflow_alike d row_index v w i h = refl
  overflow_alike d (literal t x) v w i h = refl
  overflow_alike d (unary u root) v w i h = refl
  overflow_alike d (unary u row_index) v w i h = refl
  overflow_alike d (unary u (literal t x)) v w i h = refl
  overflow_alike d (unary u (unary t e)) v w i h = overflow_alike d (unary t e) v w i h
  overflow_alike d (unary u (binary b x y)) v w i h = overflow_alike d (binary b x y) v w i h
  overflow_alike d (unary u (pack ps n)) v w i h = overflow_alike d (pack ps n) v w i h
  overflow_alike d (binary b x y) v w i h =
      let hx = or_left (reads d x) (reads d y) h in let hy = or_right (reads d x) (reads d y) h in
      rw (overflow_alike d x v w i hx, overflow_alike d y v w i hy, value_alike d x v w i hx, value_alike d y v w i hy) refl
  overflow_alike d (pack ps n) v w i h = overflows_alike d ps v w i h

  pub overflows_alike : (d : DataType) (ps : Parts) (v w : Marked) (i : ℕ) → any_reads d ps ≡ false → any_overflows d ps v i ≡ any_overflows d ps w i
  overflows_alike d no_parts v w i h = refl
  overflows_alike d (part n e ps) v w i h = rw (overflow_alike d e v w i (or_left (reads d e) (any_reads d ps) h), overflows_alike d ps v w i (or_right (reads d e) (any_reads d ps) h)) refl
