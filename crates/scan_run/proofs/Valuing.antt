-- The values of generated rows, written and read again.
use Rattle.std.proofs.Common.{◌≡◌, ℕ, zero, suc, ◌+◌, ◌-◌, ◌*◌, ◌<◌, ◌≤◌, ◌%◌, ◌==◌, min, pos, List, [], ◌∷◌, ◌++◌, map, take, drop, length, refl, sym, ap, ◌∙◌, subst, arith, Bool, true, false, cond}
use Rattle.std.specs.Prelude.{Some, All, slice_range, if◌then◌else◌}
use Rattle.std.proofs.lemmas.List.Elements.{All-cons, All-nil, All-map}
use Rattle.std.proofs.lemmas.List.{take-map, drop-map}
use Rattle.std.specs.List.{range_with_len}
use Rattle.scan_values.specs.Fits.{fits, fits_all}
use Rattle.scan_values.specs.Selections.{numbers}
use Rattle.scan_values.specs.Val.{Val, null_val, int_val, marked, marked_all, vals_of}
use Rattle.scan_spelling.specs.declared.spelling.Spelling.{Spelling}
use Rattle.scan_spelling.specs.declared.spelling.Spelling.TheVariants.{One, Two}
use Rattle.scan_spelling.specs.Spelling.{decode, are_bytes}
use Rattle.scan_spelling.specs.Written.{slots, flags, spelled, TextFits, IsText}
use Rattle.scan_spelling.proofs.Encoding.{again}
use Rattle.scan_run.specs.Generated.{value_of, value_type, values, piece_at, pieces, spelled_piece}
use Rattle.scan_run.specs.GeneratedBytes.{signs}
use Rattle.scan_run.proofs.Numbers.{count_numbers}

-- what holds of a null and of each digit holds of the value of a row
by_value : (P : Val → Type 0) → P null_val → ((m : ℕ) → m < 10 → P (int_val (pos m))) → (g : ℕ) → P (value_of g)
by_value P h k g = go (g % 5 == 4)
  where
    go : (b : Bool) → P (if b then null_val else int_val (pos (g % 10)))
    go true = h
    go false = k (g % 10) (omega arith)

digit_fits : (m : ℕ) → m < 10 → fits (marked (int_val (pos m))) value_type ≡ true
digit_fits zero h = refl
digit_fits (suc zero) h = refl
digit_fits (suc (suc zero)) h = refl
digit_fits (suc (suc (suc zero))) h = refl
digit_fits (suc (suc (suc (suc zero)))) h = refl
digit_fits (suc (suc (suc (suc (suc zero))))) h = refl
digit_fits (suc (suc (suc (suc (suc (suc zero)))))) h = refl
digit_fits (suc (suc (suc (suc (suc (suc (suc zero))))))) h = refl
digit_fits (suc (suc (suc (suc (suc (suc (suc (suc zero)))))))) h = refl
digit_fits (suc (suc (suc (suc (suc (suc (suc (suc (suc zero))))))))) h = refl
digit_fits (suc (suc (suc (suc (suc (suc (suc (suc (suc (suc m)))))))))) h = absurd (omega arith)

value_fits : (g : ℕ) → fits (marked (value_of g)) value_type ≡ true
value_fits g = by_value (λ v. fits (marked v) value_type ≡ true) refl digit_fits g

pub values_fit : (ns : List ℕ) → fits_all (marked_all (vals_of (map value_of ns))) value_type ≡ true
values_fit [] = refl
values_fit (n ∷ ns) = rw (value_fits n) (values_fit ns)

value_short : (g : ℕ) → TextFits (value_of g)
value_short g = by_value TextFits tt (λ m h. tt) g

value_text : (g : ℕ) → IsText (value_of g)
value_text g = by_value IsText tt (λ m h. tt) g

all_values : (P : Val → Type 0) → ((g : ℕ) → P (value_of g)) → (ns : List ℕ) → All P (map value_of ns)
all_values P h [] = All-nil P
all_values P h (n ∷ ns) = All-cons P (value_of n) (map value_of ns) (h n) (all_values P h ns)

pub value_again : (first n : ℕ) (bytes : List ℕ) → are_bytes bytes ≡ true → bytes ≡ flags (values first n) ++ slots signs (values first n) → decode One value_type n bytes ≡ Some (values first n)
value_again first n bytes small e =
    let P : ℕ → Type 0 = λ m. decode One value_type m bytes ≡ Some (values first n) in
    subst P (count_numbers value_of first n)
    (again One value_type (values first n) bytes refl (values_fit (numbers first (first + n))) (all_values TextFits value_short (numbers first (first + n))) (all_values IsText value_text (numbers first (first + n))) small e)

-- ---- a part of numbers is numbers

drop_numbers : (a n i : ℕ) → i ≤ n → drop i (range_with_len a n) ≡ range_with_len (a + i) (n - i)
drop_numbers a n zero h = let e : a ≡ a + 0 = omega arith in let f : n ≡ n - 0 = omega arith in ap (λ k. range_with_len k n) e ∙ ap (range_with_len (a + 0)) f
drop_numbers a zero (suc i) h = absurd (omega arith)
drop_numbers a (suc n) (suc i) h =
    let e : a + 1 + i ≡ a + suc i = omega arith in
    let f : n - i ≡ suc n - suc i = omega arith in
    drop_numbers (a + 1) n i (omega arith) ∙ (ap (λ k. range_with_len k (n - i)) e ∙ ap (range_with_len (a + suc i)) f)

take_numbers : (a n i : ℕ) → i ≤ n → take i (range_with_len a n) ≡ range_with_len a i
take_numbers a n zero h = refl
take_numbers a zero (suc i) h = absurd (omega arith)
take_numbers a (suc n) (suc i) h = ap (λ ns. a ∷ ns) (take_numbers (a + 1) n i (omega arith))

-- the rows of a file from one to another
pub part_of_rows : {A : Type 0} (f : ℕ → A) (first n lo hi : ℕ) → lo ≤ hi → hi ≤ n → slice_range (map f (numbers first (first + n))) lo hi ≡ map f (numbers (first + lo) (first + lo + (hi - lo)))
part_of_rows f first n lo hi h k =
    let c : first + n - first ≡ n = omega arith in
    let d : first + lo + (hi - lo) - (first + lo) ≡ hi - lo = omega arith in
    ap (λ m. take (hi - lo) (drop lo (map f (range_with_len first m)))) c
    ∙ (ap (take (hi - lo)) (drop-map f lo (range_with_len first n) ∙ ap (map f) (drop_numbers first n lo (omega arith)))
    ∙ (take-map f (hi - lo) (range_with_len (first + lo) (n - lo)) ∙ (ap (map f) (take_numbers (first + lo) (n - lo) (hi - lo) (omega arith)) ∙ ap (λ m. map f (range_with_len (first + lo) m)) (sym d))))
