-- Rows with their values.
use Rattle.std.proofs.Common.{◌≡◌, ◌-◌, ◌≤◌, ℕ, zero, suc, List, [], ◌∷◌, length, map, take, refl, sym, ap, ◌∙◌, arith}
use Rattle.std.specs.Prelude.{zip}
use Rattle.std.specs.List.{slice_range, take-map}
use Rattle.scan_values.specs.Arrays.{ArrayData}
use Rattle.scan_values.specs.DataType.{DataType}
use Rattle.scan_values.specs.Marked.{Marked}
use Rattle.scan_values.specs.Val.{Val, marked}
use Rattle.scan_file.specs.FileRows.{AreEven, RowsData, row_items, rows_data}

zip_even : {A B C : Type 0} (f : B → C) (xs : List A) (ys : List B) → length xs ≡ length ys → length (zip xs (map f ys)) ≡ length ys
zip_even f [] [] e = refl
zip_even f [] (y ∷ ys) e = absurd (let z : 0 ≡ suc (length ys) = e in omega (arith, z))
zip_even f (x ∷ xs) [] e = absurd (let z : suc (length xs) ≡ 0 = e in omega (arith, z))
zip_even f (x ∷ xs) (y ∷ ys) e = let z : suc (length xs) ≡ suc (length ys) = e in ap suc (zip_even f xs ys (omega (arith, z)))

pub rows_long : (r : RowsData) → AreEven r → length (row_items r) ≡ length (r.values).items
rows_long r e = zip_even (λ v. ((r.values).dtype, marked v)) r.numbers (r.values).items e

zip_take : {A B : Type 0} (n : ℕ) (xs : List A) (ys : List B) → zip (take n xs) (take n ys) ≡ take n (zip xs ys)
zip_take zero xs ys = refl
zip_take (suc n) [] ys = refl
zip_take (suc n) (x ∷ xs) [] = refl
zip_take (suc n) (x ∷ xs) (y ∷ ys) = ap (λ zs. (x, y) ∷ zs) (zip_take n xs ys)

sliced : {T : Type 0} (xs : List T) (n : ℕ) → slice_range xs 0 n ≡ take n xs
sliced xs n = let z : n - 0 ≡ n = omega arith in ap (λ k. take k xs) z

pub first_rows : (r : RowsData) (n : ℕ) (is : List ℕ) (a : ArrayData) → is ≡ take n r.numbers → a.dtype ≡ (r.values).dtype → a.items ≡ slice_range (r.values).items 0 n → row_items (rows_data is a) ≡ take n (row_items r)
first_rows r n is a e d f =
    let typed : Val → DataType × Marked = λ v. ((r.values).dtype, marked v) in
    (λ i. zip (e i) (map (λ v. (d i, marked v)) ((f ∙ sliced (r.values).items n) i)))
    ∙ ap (zip (take n r.numbers)) (sym (take-map typed n (r.values).items))
    ∙ zip_take n r.numbers (map typed (r.values).items)

take_all : {A : Type 0} (n : ℕ) (xs : List A) → length xs ≤ n → xs ≡ take n xs
take_all zero [] h = refl
take_all zero (x ∷ xs) h = absurd (omega (arith, h))
take_all (suc n) [] h = refl
take_all (suc n) (x ∷ xs) h = ap (λ ys. x ∷ ys) (take_all n xs (omega (arith, h)))

pub all_rows : (r : RowsData) (n : ℕ) → AreEven r → length (r.values).items ≤ n → row_items r ≡ take n (row_items r)
all_rows r n e h = let long = rows_long r e in take_all n (row_items r) (omega (arith, long, h))
