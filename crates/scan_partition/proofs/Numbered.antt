-- Parts that are numbered.
use Rattle.std.proofs.Common.{◌≡◌, ℕ, ◌+◌, ◌<◌, ◌≤◌, zero, suc, List, [], ◌∷◌, ◌++◌, length, map, take, get_or, refl, ap, sym, subst, ◌∙◌, arith, add-one, Bor}
use Rattle.std.proofs.lemmas.List.{length-map}
use Rattle.std.specs.Fmt.{decimal}
use Rattle.scan_values.specs.DataType.{DataType, Name}
use Rattle.scan_values.specs.declared.ptype.Nullability.TheVariants.{NonNullable}
use Rattle.scan_expr.specs.Bound.{Bound, bound_of, exprs_of}
use Rattle.scan_expr.specs.Expr.{Expr, pack, parts_of, part}
use Rattle.scan_partition.specs.Partition.{numbered}
use Rattle.scan_partition.specs.Plans.{lent_exprs}
use Rattle.scan_partition.specs.Rewrite.{Rules, rewritten, NodesHold, AllNodesHold}
use Rattle.scan_partition.proofs.Loops.{map_done, exprs_are, take_whole}

-- the names of as many parts
abbrev pub decimals : {A : Type 0} → ℕ → List A → List Name
decimals n [] = []
decimals n (x ∷ xs) = decimal n ∷ decimals (n + 1) xs

decimals_suc : {A : Type 0} (n : ℕ) (xs : List A) (k : ℕ) → k < length xs → decimals n (take k xs) ++ decimal (n + k) ∷ [] ≡ decimals n (take (suc k) xs)
decimals_suc n [] k h = absurd (omega arith)
decimals_suc n (x ∷ xs) zero h = ap (λ m. decimal m ∷ []) (omega arith)
decimals_suc n (x ∷ xs) (suc k) h = ap (λ ys. decimal n ∷ ys) (ap (λ m. decimals (n + 1) (take k xs) ++ decimal m ∷ []) (omega arith) ∙ decimals_suc (n + 1) xs k (omega arith))

pub decimals_step : {A : Type 0} (xs : List A) (k : ℕ) → k < length xs → decimals 0 (take k xs) ++ decimal k ∷ [] ≡ decimals 0 (take (k + 1) xs)
decimals_step xs k h = ap (λ m. decimals 0 (take k xs) ++ decimal m ∷ []) (omega arith) ∙ decimals_suc 0 xs k h ∙ ap (λ m. decimals 0 (take m xs)) (sym (add-one k))

pub length_decimals : {A : Type 0} (n : ℕ) (xs : List A) → length (decimals n xs) ≡ length xs
length_decimals n [] = refl
length_decimals n (x ∷ xs) = ap suc (length_decimals (n + 1) xs)

abbrev pub lent_again : Rules → DataType → Bor Bound → Bound
lent_again r s b = bound_of s (rewritten r b.now.expr)

numbered_are : (f : Expr → Expr) (n : ℕ) (xs : List (Bor Bound)) → parts_of (decimals n xs) (map (λ b. f b.now.expr) xs) ≡ numbered n (map f (lent_exprs xs))
numbered_are f n [] = refl
numbered_are f n (x ∷ xs) = ap (part (decimal n) (f x.now.expr)) (numbered_are f (n + 1) xs)

pub numbered_made : (r : Rules) (s : DataType) (xs : List (Bor Bound)) (names : List Name) (made : List Bound) (k : ℕ) → length xs ≤ k → names ≡ decimals 0 (take k xs) → made ≡ map (lent_again r s) (take k xs)
    → parts_of names (exprs_of made) ≡ numbered 0 (map (rewritten r) (lent_exprs xs))
numbered_made r s xs names made k h n m =
    (λ i. parts_of ((n ∙ ap (decimals 0) (take_whole xs k h)) i) (exprs_of (map_done (lent_again r s) xs made k h m i))) ∙ ap (parts_of (decimals 0 xs)) (exprs_are s (λ (b : Bor Bound). rewritten r b.now.expr) xs) ∙ numbered_are (rewritten r) 0 xs

numbered_fit : (s : DataType) (f : Expr → Expr) (n : ℕ) (xs : List (Bor Bound)) (k : ℕ) (x : Bor Bound) → k < length xs → AllNodesHold s (numbered n (map f (lent_exprs xs))) → NodesHold s (f (get_or xs k x).now.expr)
numbered_fit s f n [] k x h a = absurd (omega arith)
numbered_fit s f n (y ∷ ys) zero x h a = a.0
numbered_fit s f n (y ∷ ys) (suc k) x h a = numbered_fit s f (n + 1) ys k x (omega arith) a.1

pub numbered_fit_at : (s : DataType) (r : Rules) (xs : List (Bor Bound)) (k : ℕ) (x : Bor Bound) → k < length xs → x ≡ get_or xs k x → NodesHold s (pack (numbered 0 (map (rewritten r) (lent_exprs xs))) NonNullable) → NodesHold s (rewritten r x.now.expr)
numbered_fit_at s r xs k x h e a = subst (λ (y : Bor Bound). NodesHold s (rewritten r y.now.expr)) (sym e) (numbered_fit s (rewritten r) 0 xs k x h a.1)

pub even_made : (r : Rules) (s : DataType) (xs : List (Bor Bound)) (names : List Name) (made : List Bound) (k : ℕ) → length xs ≤ k → names ≡ decimals 0 (take k xs) → made ≡ map (lent_again r s) (take k xs) → length made ≡ length names
even_made r s xs names made k h n m = ap length m ∙ length-map (take k xs) (lent_again r s) ∙ sym (length_decimals 0 (take k xs)) ∙ sym (ap length n)
