-- The totals with rows of which the numbers are known.
use Rattle.std.proofs.Common.{◌≡◌, ℕ, zero, suc, ◌+◌, ◌≤◌, ℤ, ◌+ℤ◌, List, [], ◌∷◌, length, map, drop, get_or, refl, sym, ap, ◌∙◌, arith, Some}
use Rattle.std.specs.Prelude.{slice_get}
use Rattle.scan_values.specs.Val.{Val, int_val, struct_val, vals_of}
use Rattle.scan_columns.specs.declared.cells.Cells.{Cells}
use Rattle.scan_columns.specs.Cells.{vals_in}
use Rattle.scan_columns.specs.Nested.{Deep, struct_of, heads, rows_of, AreLong}
use Rattle.scan_columns.specs.Access.{AreFieldsIn}
use Rattle.scan_run.specs.declared.generate.totals.Totals.{Totals}
use Rattle.scan_run.specs.Totals.{HaveNumbers, added, id_in, length_in, with_row, with_values}

totals_same : (a b : Totals) → a.rows ≡ b.rows → a.ids ≡ b.ids → a.lengths ≡ b.lengths → a ≡ b
totals_same a b p q r = λ i. record { rows = p i; ids = q i; lengths = r i }

values_added : (t : Totals) (vs : List Val) → record { rows = t.rows + length vs; ids = added t.ids (map id_in vs); lengths = added t.lengths (map length_in vs) } ≡ with_values t vs
values_added t [] = let e : t.rows + 0 ≡ t.rows = omega arith in totals_same _ t e refl refl
values_added t (v ∷ vs) =
    let e : t.rows + length (v ∷ vs) ≡ t.rows + 1 + length vs = omega arith in
    (λ i. record { rows = e i; ids = added (t.ids +ℤ id_in v) (map id_in vs); lengths = added (t.lengths +ℤ length_in v) (map length_in vs) }) ∙ values_added (with_row t v) vs

ids_many : (vs : List Val) → length (map id_in vs) ≡ length vs
ids_many [] = refl
ids_many (v ∷ vs) = λ i. suc (ids_many vs i)

pub numbers_added : (t : Totals) (ids lengths : List ℤ) (rows : ℕ) (a b : ℤ) (vs : List Val) → HaveNumbers ids lengths vs → rows ≡ t.rows + length ids → a ≡ added t.ids ids → b ≡ added t.lengths lengths
    → record { rows = rows; ids = a; lengths = b } ≡ with_values t vs
numbers_added t ids lengths rows a b vs have er ea eb =
    let n : length ids ≡ length vs = ap length (sym have.first) ∙ ids_many vs in
    (λ i. record { rows = (er ∙ ap (λ k. t.rows + k) n) i; ids = (ea ∙ ap (added t.ids) (sym have.first)) i; lengths = (eb ∙ ap (added t.lengths) (sym have.second)) i }) ∙ values_added t vs

-- the integers in the first fields, and in the second
first_numbers : (n : ℕ) (xs : List ℤ) (cs : List (List Val)) → length xs ≡ n → map id_in (map struct_of (rows_of n (map int_val xs ∷ cs))) ≡ xs
first_numbers zero [] cs e = refl
first_numbers zero (x ∷ xs) cs e = absurd (omega (arith, e))
first_numbers (suc n) [] cs e = absurd (omega (arith, e))
first_numbers (suc n) (x ∷ xs) cs e = λ i. x ∷ first_numbers n xs (map (drop 1) cs) (omega (arith, e)) i

second_numbers : (n : ℕ) (c : List Val) (xs : List ℤ) (cs : List (List Val)) → length c ≡ n → length xs ≡ n → map length_in (map struct_of (rows_of n (c ∷ map int_val xs ∷ cs))) ≡ xs
second_numbers zero c [] cs k e = refl
second_numbers zero c (x ∷ xs) cs k e = absurd (omega (arith, e))
second_numbers (suc n) c [] cs k e = absurd (omega (arith, e))
second_numbers (suc n) [] (x ∷ xs) cs k e = absurd (omega (arith, k))
second_numbers (suc n) (v ∷ c) (x ∷ xs) cs k e = λ i. x ∷ second_numbers n c xs (map (drop 1) cs) (omega (arith, k)) (omega (arith, e)) i

int_many : (xs : List ℤ) → length (map int_val xs) ≡ length xs
int_many [] = refl
int_many (x ∷ xs) = λ i. suc (int_many xs i)

pub fields_numbers : (d : Deep) (values : List Val) (c e : Cells) (cs : List Cells) (ids lengths : List ℤ) → values ≡ d.items → AreFieldsIn d (c ∷ e ∷ cs) → map int_val ids ≡ vals_in c → map int_val lengths ≡ vals_in e
    → HaveNumbers ids lengths values
fields_numbers d values c e cs ids lengths is at a b =
    let n = length d.items in
    let long = at.long in
    let la : length ids ≡ n = sym (int_many ids) ∙ ap length a ∙ long.0 in
    let lb : length lengths ≡ n = sym (int_many lengths) ∙ ap length b ∙ long.1.0 in
    record {
      first = (λ i. map id_in (is i)) ∙ ap (map id_in) at.rows ∙ (λ i. map id_in (map struct_of (rows_of n (sym a i ∷ vals_in e ∷ map vals_in cs)))) ∙ first_numbers n ids (vals_in e ∷ map vals_in cs) la;
      second = (λ i. map length_in (is i)) ∙ ap (map length_in) at.rows ∙ (λ i. map length_in (map struct_of (rows_of n (vals_in c ∷ sym b i ∷ map vals_in cs))))
          ∙ second_numbers n (vals_in c) lengths (map vals_in cs) long.0 lb;
    }

pub two_fields : (d : Deep) (values : List Val) (fs : List Cells) (c e : Cells) (ids lengths : List ℤ) → 2 ≤ length fs → c ≡ get_or fs 0 c → e ≡ get_or fs 1 e → values ≡ d.items → AreFieldsIn d fs
    → map int_val ids ≡ vals_in c → map int_val lengths ≡ vals_in e → HaveNumbers ids lengths values
two_fields d values [] c e ids lengths n p q is at a b = absurd (omega (arith, n))
two_fields d values (x ∷ []) c e ids lengths n p q is at a b = absurd (omega (arith, n))
two_fields d values (x ∷ y ∷ cs) c e ids lengths n p q is at a b = fields_numbers d values x y cs ids lengths is at (a ∙ ap vals_in p) (b ∙ ap vals_in q)

-- ---- one value more
pub value_more : (t now : Totals) (vs : List Val) (i : ℕ) (v : Val) (whole : Totals) → Some v ≡ slice_get vs i → with_values now (drop i vs) ≡ whole → with_values (with_row now v) (drop (i + 1) vs) ≡ whole
value_more t now [] i v whole at e = absurd cc
value_more t now (x ∷ vs) zero v whole at e = let same : v ≡ x = cc in (λ j. with_values (with_row now (same j)) vs) ∙ e
value_more t now (x ∷ vs) (suc i) v whole at e = let n : suc i + 1 ≡ suc (i + 1) = omega arith in rw n (value_more t now vs i v whole at e)

pub values_over : (now : Totals) (vs : List Val) (i : ℕ) (whole : Totals) → i ≡ length vs → with_values now (drop i vs) ≡ whole → now ≡ whole
values_over now vs i whole n e = ap (with_values now) (sym (gone vs i n)) ∙ e
  where
    gone : (vs : List Val) (i : ℕ) → i ≡ length vs → drop i vs ≡ []
    gone [] zero n = refl
    gone [] (suc i) n = absurd (omega (arith, n))
    gone (x ∷ vs) zero n = absurd (omega (arith, n))
    gone (x ∷ vs) (suc i) n = gone vs i (omega (arith, n))
