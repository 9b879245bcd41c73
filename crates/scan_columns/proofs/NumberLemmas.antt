-- Numbers one after another, of which a mask takes some.
use Rattle.std.proofs.Common.{◌≡◌, ℕ, zero, suc, ◌+◌, ◌<◌, ◌≤◌, ◌^◌, pos, ltb, Bool, true, false, ◌&&◌, List, [], ◌∷◌, ◌++◌, length, drop, get_or, refl, sym, ◌∙◌, arith, append_assoc}
use Rattle.std.specs.List.{items_where_true}
use Rattle.std.proofs.lemmas.Bool.Decides.{nat_tests}
use Rattle.scan_values.specs.DataType.{int_type}
use Rattle.scan_values.specs.declared.ptype.PType.TheVariants.{U64}
use Rattle.scan_values.specs.declared.ptype.Nullability.TheVariants.{NonNullable}
use Rattle.scan_values.specs.Val.{Val, int_val, marked_all, vals_of}
use Rattle.scan_values.specs.Fits.{fits_all}
use Rattle.scan_values.proofs.Fitting.{fit-where_true}
use Rattle.scan_columns.specs.Numbers.{numbers_from}
use Rattle.scan_columns.proofs.LeafLemmas.{next_bit}

and_true : (a b : Bool) → a ≡ true → b ≡ true → (a && b) ≡ true
and_true true b h k = k
and_true false b h k = h

one_fits : (k : ℕ) → k < 2 ^ 64 → ltb k (2 ^ 64) ≡ true
one_fits k h = grind (arith, nat_tests)

numbers_fit : (k n : ℕ) → k + n ≤ 2 ^ 64 → fits_all (marked_all (vals_of (numbers_from k n))) (int_type U64 NonNullable) ≡ true
numbers_fit k zero h = refl
numbers_fit k (suc n) h =
    and_true (ltb k (2 ^ 64)) (fits_all (marked_all (vals_of (numbers_from (suc k) n))) (int_type U64 NonNullable))
    (one_fits k (omega (arith, h))) (numbers_fit (suc k) n (omega (arith, h)))

pub taken_fit : (bs : List Bool) (k n : ℕ) → k + n ≤ 2 ^ 64 → fits_all (marked_all (vals_of (items_where_true bs (numbers_from k n)))) (int_type U64 NonNullable) ≡ true
taken_fit bs k n h = fit-where_true bs (numbers_from k n) (int_type U64 NonNullable) (numbers_fit k n h)

one_where : (b : Bool) (bs : List Bool) (v : Val) (vs : List Val) → items_where_true (b ∷ bs) (v ∷ vs) ≡ items_where_true (b ∷ []) (v ∷ []) ++ items_where_true bs vs
one_where true bs v vs = refl
one_where false bs v vs = refl

pub number_step : (bs : List Bool) (k i : ℕ) (made next whole : List Val) → i < length bs
    → next ≡ made ++ items_where_true (get_or bs i false ∷ []) (int_val (pos (k + i)) ∷ [])
    → made ++ items_where_true (drop i bs) (numbers_from (k + i) (length (drop i bs))) ≡ whole
    → next ++ items_where_true (drop (i + 1) bs) (numbers_from (k + (i + 1)) (length (drop (i + 1) bs))) ≡ whole
number_step bs k i made next whole l n inv =
    let b = get_or bs i false in
    let bits : drop i bs ≡ b ∷ drop (i + 1) bs = next_bit bs i (i + 1) b l refl refl in
    let up : suc (k + i) ≡ k + (i + 1) = omega arith in
    let rest = items_where_true (drop (i + 1) bs) (numbers_from (k + (i + 1)) (length (drop (i + 1) bs))) in
    let taken = items_where_true (b ∷ []) (int_val (pos (k + i)) ∷ []) in
    let split : items_where_true (drop i bs) (numbers_from (k + i) (length (drop i bs))) ≡ taken ++ rest =
    (λ j. items_where_true (bits j) (numbers_from (k + i) (length (bits j))))
    ∙ one_where b (drop (i + 1) bs) (int_val (pos (k + i))) (numbers_from (suc (k + i)) (length (drop (i + 1) bs)))
    ∙ (λ j. taken ++ items_where_true (drop (i + 1) bs) (numbers_from (up j) (length (drop (i + 1) bs)))) in
    (λ j. n j ++ rest) ∙ append_assoc made taken rest ∙ (λ j. made ++ sym split j) ∙ inv
