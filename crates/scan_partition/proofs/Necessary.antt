-- What the parts of an expression need of a list.
use Rattle.std.proofs.Common.{◌≡◌, ℕ, ◌+◌, ◌<◌, ◌≤◌, zero, suc, List, [], ◌∷◌, length, take, get_or, refl, ap, sym, ◌∙◌, arith, add-one}
use Rattle.scan_values.specs.DataType.{Name}
use Rattle.scan_values.specs.declared.ptype.Nullability.{Nullability}
use Rattle.scan_expr.specs.Bound.{Bound, exprs_of}
use Rattle.scan_expr.specs.Expr.{Expr, pack, parts_of}
use Rattle.scan_partition.specs.declared.list_.ListChildrenNeeded.{ListChildrenNeeded}
use Rattle.scan_partition.specs.declared.list_.ListChildrenNeeded.TheVariants.{Validity, OffsetsAndValidity, All}
use Rattle.scan_partition.specs.Lists.{greater_of, necessary, all_necessary}
use Rattle.scan_partition.proofs.Loops.{take_whole}

-- from left to right
abbrev pub greatest : ListChildrenNeeded → List Expr → ListChildrenNeeded
greatest c [] = c
greatest c (e ∷ es) = greatest (greater_of c (necessary e)) es

pub greater_assoc : (a b c : ListChildrenNeeded) → greater_of (greater_of a b) c ≡ greater_of a (greater_of b c)
greater_assoc Validity b c = refl
greater_assoc OffsetsAndValidity Validity c = refl
greater_assoc OffsetsAndValidity OffsetsAndValidity Validity = refl
greater_assoc OffsetsAndValidity OffsetsAndValidity OffsetsAndValidity = refl
greater_assoc OffsetsAndValidity OffsetsAndValidity All = refl
greater_assoc OffsetsAndValidity All c = refl
greater_assoc All b c = refl

pub greater_none : (a : ListChildrenNeeded) → greater_of a Validity ≡ a
greater_none Validity = refl
greater_none OffsetsAndValidity = refl
greater_none All = refl

greatest_from : (c : ListChildrenNeeded) (es : List Expr) → greatest c es ≡ greater_of c (greatest Validity es)
greatest_from c [] = sym (greater_none c)
greatest_from c (e ∷ es) = greatest_from (greater_of c (necessary e)) es ∙ greater_assoc c (necessary e) (greatest Validity es) ∙ ap (greater_of c) (sym (greatest_from (necessary e) es))

parts_need : (ns : List Name) (es : List Expr) → all_necessary (parts_of ns es) ≡ greatest Validity es
parts_need ns [] = refl
parts_need [] (e ∷ es) = ap (greater_of (necessary e)) (parts_need [] es) ∙ sym (greatest_from (necessary e) es)
parts_need (n ∷ ns) (e ∷ es) = ap (greater_of (necessary e)) (parts_need ns es) ∙ sym (greatest_from (necessary e) es)

pub greatest_step : (c : ListChildrenNeeded) (xs : List Bound) (k : ℕ) (x : Bound) → k < length xs → x ≡ get_or xs k x → greatest c (exprs_of (take (k + 1) xs)) ≡ greater_of (greatest c (exprs_of (take k xs))) (necessary x.expr)
greatest_step c xs k x l e = rw add-one (go c xs k l e)
  where
    go : (c : ListChildrenNeeded) (xs : List Bound) (k : ℕ) → k < length xs → x ≡ get_or xs k x → greatest c (exprs_of (take (suc k) xs)) ≡ greater_of (greatest c (exprs_of (take k xs))) (necessary x.expr)
    go c [] k l e = absurd (omega arith)
    go c (y ∷ ys) zero l e = ap (λ (z : Bound). greater_of c (necessary z.expr)) (sym e)
    go c (y ∷ ys) (suc k) l e = go (greater_of c (necessary y.expr)) ys k (omega arith) e

pub pack_needs : (ns : List Name) (xs : List Bound) (n : Nullability) (e : Expr) (k : ℕ) (c : ListChildrenNeeded) → pack (parts_of ns (exprs_of xs)) n ≡ e → length xs ≤ k → c ≡ greatest Validity (exprs_of (take k xs)) → c ≡ necessary e
pack_needs ns xs n e k c h l f = f ∙ ap (λ ys. greatest Validity (exprs_of ys)) (take_whole xs k l) ∙ sym (parts_need ns (exprs_of xs)) ∙ ap necessary h
