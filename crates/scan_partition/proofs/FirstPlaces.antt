-- The places of names, found from the last on.
use Rattle.std.proofs.Common.{◌≡◌, ℕ, ◌+◌, ◌<◌, zero, suc, Bool, true, false, cond, ◌||◌, is_some, Option, Some, None, List, [], ◌∷◌, length, drop, get_or, refl, ap, sym, subst, ◌∙◌, bytes_eq, arith, add-one}
use Rattle.std.specs.List.{position_from}
use Rattle.std.proofs.lemmas.Slice.Eq.{bytes_eq-Decides}
use Rattle.scan_values.specs.DataType.{Name}
use Rattle.scan_values.specs.NameFaults.{has_name}
use Rattle.scan_partition.specs.Places.{first_place}
use Rattle.scan_partition.proofs.Names.{false_if, bytes_eq-refl}

either_way : (n m : Name) → bytes_eq n m ≡ bytes_eq m n
either_way n m = go (bytes_eq m n) refl
  where
    clash : true ≡ false → ⊥
    clash q = cc

    go : (b : Bool) → bytes_eq m n ≡ b → bytes_eq n m ≡ b
    go true h = subst (λ x. bytes_eq x m ≡ true) ((bytes_eq-Decides m n).0 h) (bytes_eq-refl m)
    go false h = false_if (bytes_eq n m) (λ e. clash (sym (subst (λ x. bytes_eq x n ≡ true) ((bytes_eq-Decides n m).0 e) (bytes_eq-refl n)) ∙ h))

-- from place i on
pub from : ℕ → List Name → Name → Option ℕ
from i ns n = position_from (λ m. bytes_eq m n) i (drop i ns)

from_suc : (j i : ℕ) (ns : List Name) (x n : Name) → i < length ns → x ≡ get_or ns i x → position_from (λ m. bytes_eq m n) j (drop i ns) ≡ cond (bytes_eq x n) (Some j) (position_from (λ m. bytes_eq m n) (j + 1) (drop (suc i) ns))
from_suc j i [] x n l e = absurd (omega arith)
from_suc j zero (m ∷ ms) x n l e = ap (λ y. cond (bytes_eq y n) (Some j) (position_from (λ m. bytes_eq m n) (j + 1) ms)) (sym e)
from_suc j (suc i) (m ∷ ms) x n l e = from_suc j i ms x n (omega arith) e

pub from_step : (ns : List Name) (i : ℕ) (x n : Name) → i < length ns → x ≡ get_or ns i x → from i ns n ≡ cond (bytes_eq x n) (Some i) (from (i + 1) ns n)
unfolding from
from_step ns i x n l e = from_suc i i ns x n l e ∙ ap (λ k. cond (bytes_eq x n) (Some i) (position_from (λ m. bytes_eq m n) (i + 1) (drop k ns))) (sym (add-one i))

pub from_first : (ns : List Name) (n : Name) → from 0 ns n ≡ first_place n ns
unfolding from
from_first [] n = refl
from_first (m ∷ ms) n = refl

pub from_end : (ns : List Name) (n : Name) → from (length ns) ns n ≡ None
unfolding from
from_end ns n = ap (position_from (λ m. bytes_eq m n) (length ns)) (dropped ns)
  where
    dropped : (xs : List Name) → drop (length xs) xs ≡ []
    dropped [] = refl
    dropped (x ∷ xs) = dropped xs

-- whether there is one
some_from : (i : ℕ) (ns : List Name) (n : Name) → is_some (position_from (λ m. bytes_eq m n) i ns) ≡ has_name n ns
some_from i [] n = refl
some_from i (m ∷ ms) n = subst (λ b. is_some (cond b (Some i) (position_from (λ m. bytes_eq m n) (i + 1) ms)) ≡ has_name n (m ∷ ms)) (either_way n m) (go (bytes_eq n m) refl (some_from (i + 1) ms n))
  where
    go : (b : Bool) → bytes_eq n m ≡ b → is_some (position_from (λ m. bytes_eq m n) (i + 1) ms) ≡ has_name n ms → is_some (cond b (Some i) (position_from (λ m. bytes_eq m n) (i + 1) ms)) ≡ has_name n (m ∷ ms)
    go true h r = ap (λ b. b || has_name n ms) (sym h)
    go false h r = r ∙ ap (λ b. b || has_name n ms) (sym h)

pub has_place : (ns : List Name) (n : Name) → is_some (first_place n ns) ≡ has_name n ns
has_place ns n = some_from 0 ns n
