-- Lists of values one after the other, and the first of them.
use Rattle.std.proofs.Common.{◌≡◌, ◌≤◌, ◌-◌, min, ℕ, zero, suc, List, [], ◌∷◌, ◌++◌, length, map, take, refl, sym, ap, ◌∙◌, append-nil, arith}
use Rattle.std.proofs.lemmas.List.Concat.{flat_map-append}
use Rattle.scan_values.specs.Arrays.{ArrayData}
use Rattle.scan_values.specs.Marked.{Marked}
use Rattle.scan_values.specs.Val.{marked}
use Rattle.scan_streams.specs.Splits.{one_part}
use Rattle.scan_collect.specs.Reads.{joined, values_given}

joined_one : (xs : List Marked) → joined (one_part xs) ≡ xs
joined_one [] = refl
joined_one (x ∷ xs) = append-nil (x ∷ xs)

-- with one list more
pub joined_more : (got : List (List Marked)) (xs : List Marked) → joined (got ++ one_part xs) ≡ joined got ++ xs
joined_more got xs = flat_map-append (λ (ys : List Marked). ys) got (one_part xs) ∙ ap (λ (ys : List Marked). joined got ++ ys) (joined_one xs)

pub joined_both : (ls bs : List (List Marked)) → joined (ls ++ bs) ≡ joined ls ++ joined bs
joined_both ls bs = flat_map-append (λ (ys : List Marked). ys) ls bs

-- with one array more
pub given_more : (ls : List ArrayData) (a : ArrayData) → values_given (ls ++ a ∷ []) ≡ values_given ls ++ map marked a.items
given_more ls a = flat_map-append (λ (b : ArrayData). map marked b.items) ls (a ∷ []) ∙ ap (λ (ys : List Marked). values_given ls ++ ys) (append-nil (map marked a.items))

module _ {A : Type 0} where
  pub take_none : (n : ℕ) → take {A = A} n [] ≡ []
  take_none zero = refl
  take_none (suc n) = refl

  -- the first of two lists
  pub take_both : (n : ℕ) (xs ys : List A) → take n (xs ++ ys) ≡ take n xs ++ take (n - length xs) ys
  take_both zero [] ys = refl
  take_both (suc n) [] ys = let e : suc n ≡ suc n - 0 = omega arith in ap (λ k. take k ys) e
  take_both zero (x ∷ xs) ys = let e : 0 ≡ 0 - length (x ∷ xs) = omega arith in ap (λ k. take k ys) e
  take_both (suc n) (x ∷ xs) ys =
      let e : n - length xs ≡ suc n - length (x ∷ xs) = omega arith in
      ap (λ (zs : List A). x ∷ zs) (take_both n xs ys ∙ ap (λ k. take n xs ++ take k ys) e)

  -- no more than there are
  pub take_up : (k : ℕ) (xs : List A) → take (min (length xs) k) xs ≡ take k xs
  take_up k [] = take_none (min 0 k) ∙ sym (take_none k)
  take_up zero (x ∷ xs) = let e : min (length (x ∷ xs)) 0 ≡ 0 = omega arith in ap (λ n. take n (x ∷ xs)) e
  take_up (suc k) (x ∷ xs) =
      let e : min (length (x ∷ xs)) (suc k) ≡ suc (min (length xs) k) = omega arith in
      ap (λ n. take n (x ∷ xs)) e ∙ ap (λ (zs : List A). x ∷ zs) (take_up k xs)

  pub take_whole : (xs : List A) → take (length xs) xs ≡ xs
  take_whole [] = refl
  take_whole (x ∷ xs) = ap (λ (zs : List A). x ∷ zs) (take_whole xs)

  pub length_first : (k : ℕ) (xs : List A) → length (take k xs) ≡ min k (length xs)
  length_first k [] = ap length (take_none k) ∙ (let e : 0 ≡ min k 0 = omega arith in e)
  length_first zero (x ∷ xs) = let e : 0 ≡ min 0 (length (x ∷ xs)) = omega arith in e
  length_first (suc k) (x ∷ xs) = ap suc (length_first k xs) ∙ (let e : suc (min k (length xs)) ≡ min (suc k) (length (x ∷ xs)) = omega arith in e)

  -- what comes behind does not matter where there are enough
  pub take_enough : (k : ℕ) (xs ys : List A) → k ≤ length xs → take k xs ≡ take k (xs ++ ys)
  take_enough k xs ys l =
      let e : k - length xs ≡ 0 = omega arith in
      sym (take_both k xs ys ∙ ap (λ n. take k xs ++ take n ys) e ∙ append-nil (take k xs))
