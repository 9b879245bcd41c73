-- Groups that are cut at a limit.
use Rattle.std.proofs.Common.{◌≡◌, ℕ, suc, zero, ◌-◌, List, [], ◌∷◌, ◌++◌, length, take, refl, sym, ap, ◌∙◌, arith, append-nil}
use Rattle.std.specs.List.{take-map}
use Rattle.scan_drive.specs.Files.{Group, grouped, cut, placed, flattened}
use Rattle.scan_drive.proofs.Resting.{flat_map-append}

take_both : {T : Type 0} (n : ℕ) (xs ys : List T) → take n (xs ++ ys) ≡ take n xs ++ take (n - length xs) ys
take_both zero xs ys = let z : 0 - length xs ≡ 0 = omega arith in sym (ap (λ k. take k ys) z)
take_both (suc n) [] ys = let z : suc n - 0 ≡ suc n = omega arith in sym (ap (λ k. take k ys) z)
take_both (suc n) (x ∷ xs) ys =
    let z : suc n - suc (length xs) ≡ n - length xs = omega arith in
    ap (λ zs. x ∷ zs) (take_both n xs ys) ∙ sym (ap (λ k. x ∷ (take n xs ++ take k ys)) z)

module _ {I : Type 0} where
  placed_length : (file : ℕ) (xs : List I) → length (placed (file, xs)) ≡ length xs
  placed_length file [] = refl
  placed_length file (x ∷ xs) = ap suc (placed_length file xs)

  flattened_grouped : (file : ℕ) (xs : List I) → flattened (grouped file xs) ≡ placed (file, xs)
  flattened_grouped file [] = refl
  flattened_grouped file (x ∷ xs) = append-nil (placed (file, x ∷ xs))

  pub first_rows : (n : ℕ) (gs : List (Group I)) → flattened (cut n gs) ≡ take n (flattened gs)
  first_rows zero [] = refl
  first_rows (suc n) [] = refl
  first_rows n (g ∷ gs) =
      flat_map-append placed (grouped g.0 (take n g.1)) (cut (n - length g.1) gs)
      ∙ ap (λ xs. xs ++ flattened (cut (n - length g.1) gs)) (flattened_grouped g.0 (take n g.1) ∙ sym (take-map (λ x. (g.0, x)) n g.1))
      ∙ ap (λ xs. take n (placed g) ++ xs) (first_rows (n - length g.1) gs)
      ∙ ap (λ k. take n (placed g) ++ take (n - k) (flattened gs)) (sym (placed_length g.0 g.1))
      ∙ sym (take_both n (placed g) (flattened gs))
