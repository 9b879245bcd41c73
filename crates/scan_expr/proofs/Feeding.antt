-- What a bound expression feeds: its operator's, then its parts'.
use Rattle.std.proofs.Math.Numerals.{add-one}
use Rattle.std.proofs.Math.Seq.{drop-cons}
use Rattle.std.proofs.Common.{◌≡◌, ℕ, ◌+◌, ◌<◌, List, [], ◌∷◌, ◌++◌, drop, get_or, length, refl, ap, sym, arith}
use Rattle.std.specs.Hash.{HashWrites}
use Rattle.scan_values.specs.DataType.{Name}
use Rattle.scan_expr.specs.Bound.{Bound, exprs_of}
use Rattle.scan_expr.specs.Expr.{parts_of}
use Rattle.scan_expr.specs.Heads.{op_head}
use Rattle.scan_expr.specs.Hashes.{head_fed, expr_fed, parts_fed}
use Rattle.scan_expr.specs.Ops.{apply_op, HasArity}
use Rattle.scan_expr.specs.declared.bound.Op.{Op}
use Rattle.scan_expr.specs.declared.bound.Op.TheVariants.{Root, RowIdx, Literal, Unary, Binary, Pack}
use Rattle.scan_expr.proofs.Sames.{names-parts_of, length-exprs}

abbrev pub bounds_fed : List Bound → HashWrites
bounds_fed [] = []
bounds_fed (b ∷ bs) = expr_fed b.expr ++ bounds_fed bs

then_nothing : (xs : HashWrites) → xs ≡ xs ++ []
then_nothing [] = refl
then_nothing (x ∷ xs) = ap (λ ys. x ∷ ys) (then_nothing xs)

parts-fed : (ns : List Name) (bs : List Bound) → parts_fed (parts_of ns (exprs_of bs)) ≡ bounds_fed bs
parts-fed ns [] = refl
parts-fed [] (b ∷ bs) = ap (λ ws. expr_fed b.expr ++ ws) (parts-fed [] bs)
parts-fed (n ∷ ns) (b ∷ bs) = ap (λ ws. expr_fed b.expr ++ ws) (parts-fed ns bs)

pub fed-apply : (op : Op) (bs : List Bound) → HasArity op (length bs) → head_fed (op_head op) ++ bounds_fed bs ≡ expr_fed (apply_op op (exprs_of bs))
fed-apply Root [] h = refl
fed-apply Root (b ∷ bs) h = absurd (omega arith)
fed-apply RowIdx [] h = refl
fed-apply RowIdx (b ∷ bs) h = absurd (omega arith)
fed-apply (Literal d v) [] h = sym (then_nothing (head_fed (op_head (Literal d v))))
fed-apply (Literal d v) (b ∷ bs) h = absurd (omega arith)
fed-apply (Unary u) [] h = absurd (omega arith)
fed-apply (Unary u) (b ∷ []) h = ap (λ ws. head_fed (op_head (Unary u)) ++ ws) (sym (then_nothing (expr_fed b.expr)))
fed-apply (Unary u) (b ∷ c ∷ bs) h = absurd (omega arith)
fed-apply (Binary o) [] h = absurd (omega arith)
fed-apply (Binary o) (b ∷ []) h = absurd (omega arith)
fed-apply (Binary o) (b ∷ c ∷ []) h = ap (λ ws. head_fed (op_head (Binary o)) ++ (expr_fed b.expr ++ ws)) (sym (then_nothing (expr_fed c.expr)))
fed-apply (Binary o) (b ∷ c ∷ d ∷ bs) h = absurd (omega arith)
fed-apply (Pack ns n) bs h =
    rw (names-parts_of ns (exprs_of bs) (omega (arith, length-exprs bs)), parts-fed ns bs) refl

pub fed_turn : (bs : List Bound) (i : ℕ) (b : Bound) → i < length bs → b ≡ get_or bs i b → bounds_fed (drop i bs) ≡ expr_fed b.expr ++ bounds_fed (drop (i + 1) bs)
fed_turn bs i b h e = rw (add-one, drop-cons bs i b, ← e) refl
