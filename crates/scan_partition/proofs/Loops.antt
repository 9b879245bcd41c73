-- Loops that make a list, one element for each of another's.
use Rattle.std.proofs.Common.{◌≡◌, ℕ, ◌+◌, ◌<◌, ◌≤◌, zero, suc, List, [], ◌∷◌, ◌++◌, length, map, get_or, take, refl, ap, sym, ◌∙◌, arith, add-one}
use Rattle.std.specs.Prelude.{Result, Ok, Err, IfOk}
use Rattle.std.specs.List.{All, AllByRecursion}
use Rattle.std.proofs.lemmas.List.Elements.{All-from_recursion}
use Rattle.scan_values.specs.DataType.{DataType}
use Rattle.scan_expr.specs.Bound.{Bound, bound_of, exprs_of}
use Rattle.scan_expr.specs.Expr.{Expr}

pub take_whole : {A : Type 0} (xs : List A) (k : ℕ) → length xs ≤ k → take k xs ≡ xs
take_whole [] zero h = refl
take_whole [] (suc k) h = refl
take_whole (x ∷ xs) zero h = absurd (omega arith)
take_whole (x ∷ xs) (suc k) h = ap (λ ys. x ∷ ys) (take_whole xs k (omega arith))

map_suc : {A B : Type 0} (f : A → B) (xs : List A) (k : ℕ) (x : A) → k < length xs → map f (take k xs) ++ f (get_or xs k x) ∷ [] ≡ map f (take (suc k) xs)
map_suc f [] k x h = absurd (omega arith)
map_suc f (y ∷ ys) zero x h = refl
map_suc f (y ∷ ys) (suc k) x h = ap (λ zs. f y ∷ zs) (map_suc f ys k x (omega arith))

-- one more element
pub map_step : {A B : Type 0} (f : A → B) (xs : List A) (k : ℕ) (x : A) → k < length xs → x ≡ get_or xs k x → map f (take k xs) ++ f x ∷ [] ≡ map f (take (k + 1) xs)
map_step f xs k x h e = ap (λ y. map f (take k xs) ++ f y ∷ []) e ∙ map_suc f xs k x h ∙ ap (λ n. map f (take n xs)) (sym (add-one k))

-- after the last
pub map_done : {A B : Type 0} (f : A → B) (xs : List A) (ys : List B) (k : ℕ) → length xs ≤ k → ys ≡ map f (take k xs) → ys ≡ map f xs
map_done f xs ys k h e = e ∙ ap (map f) (take_whole xs k h)

pub if_ok : {A E : Type 0} (P Q : A → Type 0) (r : Result A E) → ((x : A) → P x → Q x) → IfOk r P → IfOk r Q
if_ok P Q (Ok x) f h = f x h
if_ok P Q (Err e) f h = tt

-- ---- bound expressions over one scope
by_recursion : {A : Type 0} (s : DataType) (f : A → Expr) (xs : List A) → AllByRecursion (λ (b : Bound). b.scope ≡ s) (map (λ x. bound_of s (f x)) xs)
by_recursion s f [] = tt
by_recursion s f (x ∷ xs) = (refl, by_recursion s f xs)

pub scopes_of : {A : Type 0} (s : DataType) (f : A → Expr) (xs : List A) → All (λ (b : Bound). b.scope ≡ s) (map (λ x. bound_of s (f x)) xs)
scopes_of s f xs = All-from_recursion (λ (b : Bound). b.scope ≡ s) (map (λ x. bound_of s (f x)) xs) (by_recursion s f xs)

pub exprs_are : {A : Type 0} (s : DataType) (f : A → Expr) (xs : List A) → exprs_of (map (λ x. bound_of s (f x)) xs) ≡ map f xs
exprs_are s f [] = refl
exprs_are s f (x ∷ xs) = ap (λ es. f x ∷ es) (exprs_are s f xs)

pub if_ok_both : {A E : Type 0} (P Q R : A → Type 0) (r : Result A E) → ((x : A) → P x → Q x → R x) → IfOk r P → IfOk r Q → IfOk r R
if_ok_both P Q R (Ok x) f h g = f x h g
if_ok_both P Q R (Err e) f h g = tt
