-- The sizes of the parts of a pack.
use Rattle.std.proofs.Common.{◌≡◌, ℕ, zero, suc, ◌+◌, ◌<◌, ◌≤◌, List, [], ◌∷◌, length, get_or, refl, ap, arith}
use Rattle.scan_values.specs.DataType.{Name}
use Rattle.scan_expr.specs.Expr.{Expr, expr_size, parts_size, parts_of}
use Rattle.scan_expr.specs.Bound.{Bound, exprs_of}

abbrev pub total_size : List Expr → ℕ
total_size [] = 0
total_size (e ∷ es) = expr_size e + total_size es

pub parts_total : (ns : List Name) (es : List Expr) → parts_size (parts_of ns es) ≡ total_size es
parts_total ns [] = refl
parts_total [] (e ∷ es) = ap (λ k. expr_size e + k) (parts_total [] es)
parts_total (n ∷ ns) (e ∷ es) = ap (λ k. expr_size e + k) (parts_total ns es)

pub part_below : (bs : List Bound) (i : ℕ) (b : Bound) → i < length bs → b ≡ get_or bs i b → expr_size b.expr ≤ total_size (exprs_of bs)
part_below [] i b l h = absurd (omega arith)
part_below (c ∷ bs) zero b l h = let same : expr_size b.expr ≡ expr_size c.expr = ap (λ (d : Bound). expr_size d.expr) h in omega arith
part_below (c ∷ bs) (suc i) b l h = let rest : expr_size b.expr ≤ total_size (exprs_of bs) = part_below bs i b (omega arith) h in omega arith
