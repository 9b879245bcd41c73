-- Whether `$` stands in the parts of an expression.
use Rattle.std.proofs.Common.{◌≡◌, ℕ, ◌+◌, ◌<◌, ◌≤◌, zero, suc, Bool, false, ◌||◌, List, [], ◌∷◌, length, drop, get_or, refl, ap, sym, ◌∙◌, arith, add-one}
use Rattle.scan_values.specs.DataType.{Name}
use Rattle.scan_values.specs.declared.ptype.Nullability.{Nullability}
use Rattle.scan_expr.specs.Bound.{Bound, exprs_of}
use Rattle.scan_expr.specs.Expr.{Expr, pack, parts_of}
use Rattle.scan_partition.specs.RowDivided.{uses_root, any_uses_root}

abbrev pub any_root : List Bound → Bool
any_root [] = false
any_root (b ∷ bs) = uses_root b.expr || any_root bs

parts_root : (ns : List Name) (bs : List Bound) → any_uses_root (parts_of ns (exprs_of bs)) ≡ any_root bs
parts_root ns [] = refl
parts_root [] (b ∷ bs) = ap (λ c. uses_root b.expr || c) (parts_root [] bs)
parts_root (n ∷ ns) (b ∷ bs) = ap (λ c. uses_root b.expr || c) (parts_root ns bs)

root_suc : (xs : List Bound) (k : ℕ) (x : Bound) → k < length xs → x ≡ get_or xs k x → any_root (drop k xs) ≡ uses_root x.expr || any_root (drop (suc k) xs)
root_suc [] k x h e = absurd (omega arith)
root_suc (y ∷ ys) zero x h e = ap (λ (z : Bound). uses_root z.expr || any_root ys) (sym e)
root_suc (y ∷ ys) (suc k) x h e = root_suc ys k x (omega arith) e

pub root_step : (xs : List Bound) (k : ℕ) (x : Bound) (b : Bool) → k < length xs → x ≡ get_or xs k x → uses_root x.expr ≡ b → any_root (drop k xs) ≡ b || any_root (drop (k + 1) xs)
root_step xs k x b h e u = rw add-one (root_suc xs k x h e ∙ ap (λ c. c || any_root (drop (suc k) xs)) u)

root_end : (xs : List Bound) (k : ℕ) → length xs ≤ k → any_root (drop k xs) ≡ false
root_end [] zero h = refl
root_end [] (suc k) h = refl
root_end (x ∷ xs) zero h = absurd (omega arith)
root_end (x ∷ xs) (suc k) h = root_end xs k (omega arith)

pub pack_root : (ns : List Name) (xs : List Bound) (n : Nullability) (e : Expr) (k : ℕ) (b : Bool) → pack (parts_of ns (exprs_of xs)) n ≡ e → any_root xs ≡ any_root (drop k xs) → any_root (drop k xs) ≡ b → b ≡ uses_root e
pack_root ns xs n e k b h i d = sym d ∙ sym i ∙ sym (parts_root ns xs) ∙ ap uses_root h

pub pack_rootless : (ns : List Name) (xs : List Bound) (n : Nullability) (e : Expr) (k : ℕ) → pack (parts_of ns (exprs_of xs)) n ≡ e → any_root xs ≡ any_root (drop k xs) → length xs ≤ k → false ≡ uses_root e
pack_rootless ns xs n e k h i l = pack_root ns xs n e k false h i (root_end xs k l)
