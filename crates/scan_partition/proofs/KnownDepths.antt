-- The depths of a bound expression's nodes, part by part.
use Rattle.std.proofs.Common.{◌≡◌, ℕ, ◌+◌, ◌<◌, ◌≤◌, zero, suc, List, [], ◌∷◌, length, drop, get_or, sym, subst, arith, add-one}
use Rattle.std.specs.List.{All, AllByRecursion}
use Rattle.std.proofs.lemmas.List.Elements.{recursion_from_All}
use Rattle.scan_values.specs.DataType.{DataType, Name, depth_of}
use Rattle.scan_values.specs.declared.ptype.Nullability.{Nullability}
use Rattle.scan_expr.specs.Bound.{Bound, exprs_of}
use Rattle.scan_expr.specs.Expr.{Expr, pack, parts_of}
use Rattle.scan_expr.specs.Infer.{infer}
use Rattle.scan_partition.specs.Shallow.{NodesWithin, AllNodesWithin}

abbrev pub AllKnown : List Bound → Type 0
AllKnown [] = Unit {0}
AllKnown (b ∷ bs) = NodesWithin 66 b.scope b.expr × AllKnown bs

known_suc : (xs : List Bound) (k : ℕ) (x : Bound) → k < length xs → x ≡ get_or xs k x → NodesWithin 66 x.scope x.expr → AllKnown (drop (suc k) xs) → AllKnown (drop k xs)
known_suc [] k x h e n r = absurd (omega arith)
known_suc (y ∷ ys) zero x h e n r = (subst (λ (z : Bound). NodesWithin 66 z.scope z.expr) e n, r)
known_suc (y ∷ ys) (suc k) x h e n r = known_suc ys k x (omega arith) e n r

pub known_step : (xs : List Bound) (k : ℕ) (x : Bound) → k < length xs → x ≡ get_or xs k x → NodesWithin 66 x.scope x.expr → (AllKnown (drop k xs) → AllKnown xs) → AllKnown (drop (k + 1) xs) → AllKnown xs
known_step xs k x h e n f r = f (known_suc xs k x h e n (subst (λ m. AllKnown (drop m xs)) (add-one k) r))

known_end : (xs : List Bound) (k : ℕ) → length xs ≤ k → AllKnown (drop k xs)
known_end [] zero h = tt
known_end [] (suc k) h = tt
known_end (x ∷ xs) zero h = absurd (omega arith)
known_end (x ∷ xs) (suc k) h = known_end xs k (omega arith)

parts_known : (s : DataType) (ns : List Name) (bs : List Bound) → AllByRecursion (λ (b : Bound). b.scope ≡ s) bs → AllKnown bs → AllNodesWithin 66 s (parts_of ns (exprs_of bs))
parts_known s ns [] o a = tt
parts_known s [] (b ∷ bs) o a = (subst (λ (t : DataType). NodesWithin 66 t b.expr) o.0 a.0, parts_known s [] bs o.1 a.1)
parts_known s (n ∷ ns) (b ∷ bs) o a = (subst (λ (t : DataType). NodesWithin 66 t b.expr) o.0 a.0, parts_known s ns bs o.1 a.1)

pub pack_known : (s : DataType) (ns : List Name) (bs : List Bound) (n : Nullability) (e : Expr) (k : ℕ) → pack (parts_of ns (exprs_of bs)) n ≡ e → All (λ (b : Bound). b.scope ≡ s) bs → depth_of (infer s e) ≤ 66
    → length bs ≤ k → (AllKnown (drop k bs) → AllKnown bs) → NodesWithin 66 s e
pack_known s ns bs n e k h o d l f =
    subst (NodesWithin 66 s) h (subst (λ (x : Expr). depth_of (infer s x) ≤ 66) (sym h) d, parts_known s ns bs (recursion_from_All (λ (b : Bound). b.scope ≡ s) bs o) (f (known_end bs k l)))
