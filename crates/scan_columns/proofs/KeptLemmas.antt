-- Typed cells: one at a place, others after none, and cells that are all there.
use Rattle.std.proofs.Common.{◌≡◌, ℕ, zero, suc, Bool, true, false, map, cond, List, [], ◌∷◌, ◌++◌, length, ◌==◌, refl, get_or, slice_get, Some, arith}
use Rattle.std.specs.List.{list_all}
use Rattle.std.proofs.lemmas.Bool.{eqb-true}
use Rattle.scan_values.specs.Arrays.{ArrayData, of_parts}
use Rattle.scan_values.specs.Val.{Val, null_val}
use Rattle.scan_columns.specs.Typed.{typed}

pub typed_at : {A : Type 0} (f : A → Val) (xs : List A) (bs : List Bool) (k : ℕ) (x : A) → Some x ≡ slice_get xs k → length bs ≡ length xs → Some (cond (get_or bs k false) (f x) null_val) ≡ slice_get (typed f xs bs) k
typed_at f [] bs k x e h = absurd cc
typed_at f (y ∷ xs) [] k x e h = absurd (omega (arith, h))
typed_at f (y ∷ xs) (b ∷ bs) zero x e h = let same : x ≡ y = cc in λ i. Some (cond b (f (same i)) null_val)
typed_at f (y ∷ xs) (b ∷ bs) (suc k) x e h = typed_at f xs bs k x e (omega (arith, h))

pub none_before : (xs ys : List Val) → length xs ≡ 0 → ys ≡ xs ++ ys
none_before [] ys h = refl
none_before (x ∷ xs) ys h = absurd (omega (arith, h))

pub typed_all : {A : Type 0} (f : A → Val) (xs : List A) (bs : List Bool) → length bs ≡ length xs → list_all (λ b. b) bs ≡ true → map f xs ≡ typed f xs bs
typed_all f [] bs h e = refl
typed_all f (x ∷ xs) [] h e = absurd (omega (arith, h))
typed_all f (x ∷ xs) (true ∷ bs) h e = λ i. f x ∷ typed_all f xs bs (omega (arith, h)) e i
typed_all f (x ∷ xs) (false ∷ bs) h e = absurd cc

pub joined_none : (a b : ArrayData) → b.dtype ≡ a.dtype → (length a.items == 0) ≡ true → b ≡ of_parts a.dtype (a.items ++ b.items)
joined_none a b e k = λ i. of_parts (e i) (none_before a.items b.items (eqb-true (length a.items) 0 k) i)
