-- The span of the true rows of a mask.
use Rattle.std.proofs.Common.{◌≡◌, ℕ, zero, suc, ◌+◌, ◌-◌, ◌<◌, ◌≤◌, Bool, true, false, List, [], ◌∷◌, ◌++◌, take, drop, length, get_or, Option, Some, None, refl, ap, ◌∙◌, sym, arith, length-take, length-drop}
use Rattle.std.specs.Prelude.{slice_range}
use Rattle.std.specs.List.{position, position_or_len}
use Rattle.std.proofs.lemmas.List.{append-nil}
use Rattle.std.proofs.lemmas.List.Quantifiers.{position-Some}
use Rattle.std.proofs.lemmas.List.Sums.{fails_before_first}
use Rattle.std.proofs.lemmas.Bool.{eq-eqb}
use Rattle.std.proofs.lemmas.Bool.Decides.{nat_tests}
use Rattle.scan_values.specs.Masks.{last_true, later}
use Rattle.scan_plans.specs.Lists.{rows_on, least_row, greatest_row, offset_count, offset_rows, elements_from, span_elements, IsSpan}
use Rattle.scan_plans.specs.Meaning.{true_rows}
use Rattle.scan_plans.proofs.RowLemmas.{split_rows, drop_twice}
use Rattle.scan_plans.proofs.Spans.{bounded}

-- ---- the last row
pub none_last : (k : ℕ) (bits : List Bool) → last_true bits ≡ None → true_rows k bits ≡ []
none_last k [] h = refl
none_last k (b ∷ bs) h = by b (last_true bs) refl h (λ e. none_last (k + 1) bs e)
  where
    by : (c : Bool) (o : Option ℕ) → last_true bs ≡ o → later c o ≡ None → (last_true bs ≡ None → true_rows (k + 1) bs ≡ []) → true_rows k (c ∷ bs) ≡ []
    by c (Some n) e w rest = absurd cc
    by true None e w rest = absurd cc
    by false None e w rest = rest e

abbrev Ends : ℕ → List Bool → ℕ → Type 0
Ends k bits l = (i : ℕ) × (is : List ℕ) × (true_rows k bits ≡ i ∷ is) × (greatest_row i is ≡ k + l) × (l < length bits) × ((j : ℕ) → true_rows j (drop (l + 1) bits) ≡ [])

rows_last : (k : ℕ) (bits : List Bool) (l : ℕ) → last_true bits ≡ Some l → Ends k bits l
rows_last k [] l h = absurd cc
rows_last k (b ∷ bs) l h = by b (last_true bs) refl h (λ n e. rows_last (k + 1) bs n e)
  where
    moved : (n : ℕ) → l ≡ suc n → l + 1 ≡ suc (n + 1)
    moved n z = omega (arith, z)

    by : (c : Bool) (o : Option ℕ) → last_true bs ≡ o → later c o ≡ Some l → ((n : ℕ) → last_true bs ≡ Some n → Ends (k + 1) bs n) → Ends k (c ∷ bs) l
    by true None e w rest = let z : l ≡ 0 = cc in let none = none_last (k + 1) bs e in
        (k, true_rows (k + 1) bs, refl, rw (none, z) (omega arith), omega (arith, z), λ j. rw z (none_last j bs e))
    by false None e w rest = absurd cc
    by true (Some n) e w rest =
        let z : l ≡ suc n = cc in let r = rest n e in
        (k, true_rows (k + 1) bs, refl, ap (greatest_row k) r.2 ∙ omega (arith, r.3, z), omega (arith, r.4, z), λ j. ap (λ m. true_rows j (drop m (true ∷ bs))) (moved n z) ∙ r.5 j)
    by false (Some n) e w rest =
        let z : l ≡ suc n = cc in let r = rest n e in
        (r.0, r.1, r.2, omega (arith, r.3, z), omega (arith, r.4, z), λ j. ap (λ m. true_rows j (drop m (false ∷ bs))) (moved n z) ∙ r.5 j)

-- ---- the first row
skip : (f k : ℕ) (bits : List Bool) → f < length bits → get_or bits f false ≡ true → ((j : ℕ) → j < f → get_or bits j false ≡ false) → (true_rows k bits ≡ true_rows (k + f) (drop f bits)) × (drop f bits ≡ true ∷ drop (f + 1) bits)
skip f k [] h g before = absurd (omega (arith, h))
skip zero k (b ∷ bits) h g before = let z : k ≡ k + 0 = omega arith in let t : b ≡ true = g in (ap (λ n. true_rows n (b ∷ bits)) z, ap (λ c. c ∷ bits) t)
skip (suc f) k (b ∷ bits) h g before =
    let none : b ≡ false = before 0 (omega arith) in
    let r = skip f (k + 1) bits (omega (arith, h)) g (λ j low. later_false j (before (suc j) (omega (arith, low)))) in
    let z : k + 1 + f ≡ k + suc f = omega arith in
    let y : suc (f + 1) ≡ suc f + 1 = omega arith in
    (rw none (r.0 ∙ ap (λ n. true_rows n (drop f bits)) z), r.1 ∙ ap (λ n. true ∷ drop n (b ∷ bits)) y)
  where
    later_false : (j : ℕ) → get_or (b ∷ bits) (suc j) false ≡ false → get_or bits j false ≡ false
    later_false j e = e

head_least : (k : ℕ) (bits : List Bool) (i : ℕ) (is : List ℕ) → true_rows k bits ≡ i ∷ is → (k ≤ i) × (least_row i is ≡ i)
head_least k [] i is h = absurd cc
head_least k (true ∷ bs) i is h = let e : k ≡ i = cc in let f : true_rows (k + 1) bs ≡ is = cc in by is e f (λ j ks g. head_least (k + 1) bs j ks g)
  where
    by : (js : List ℕ) → k ≡ i → true_rows (k + 1) bs ≡ js → ((j : ℕ) (ks : List ℕ) → true_rows (k + 1) bs ≡ j ∷ ks → (k + 1 ≤ j) × (least_row j ks ≡ j)) → (k ≤ i) × (least_row i js ≡ i)
    by [] e f rest = (omega (arith, e), refl)
    by (j ∷ js) e f rest = let z = rest j js f in (omega (arith, e), omega (arith, e, z.0, z.1))
head_least k (false ∷ bs) i is h = let z = head_least (k + 1) bs i is h in (omega (arith, z.0), z.1)

heads_same : (i j : ℕ) (is js : List ℕ) → i ∷ is ≡ j ∷ js → i ≡ j
heads_same i j is js e = cc

head_among : (i : ℕ) (is : List ℕ) → i ≤ greatest_row i is
head_among i is = (bounded i i is (rw (eq-eqb i i refl) refl)).1

pub span_some : (k : ℕ) (bits : List Bool) (f l : ℕ) (part : List Bool) → position (λ b. b) bits ≡ Some f → last_true bits ≡ Some l → part ≡ slice_range bits f (l + 1)
    → IsSpan (true_rows k bits) (k + f) part × (k + f + length part ≤ k + length bits)
span_some k bits f l part p q e =
    let first = position-Some (λ b. b) bits f false p in
    let s = skip f k bits first.0 first.1 first.2 in
    let r = rows_last k bits l q in
    let i = r.0 in
    let is = r.1 in
    let rows : true_rows k bits ≡ i ∷ is = r.2 in
    let top : greatest_row i is ≡ k + l = r.3 in
    let inside : l < length bits = r.4 in
    let past = r.5 in
    let own : true_rows k bits ≡ (k + f) ∷ true_rows (k + f + 1) (drop (f + 1) bits) = s.0 ∙ ap (true_rows (k + f)) s.1 in
    let head : i ≡ k + f = heads_same i (k + f) is (true_rows (k + f + 1) (drop (f + 1) bits)) (sym rows ∙ own) in
    let least = head_least k bits i is rows in
    let order = head_among i is in
    let after : drop (l + 1 - f) (drop f bits) ≡ drop (l + 1) bits = drop_twice f (l + 1 - f) bits ∙ ap (λ n. drop n bits) (omega (arith, head, order, top)) in
    let cut : true_rows (k + f) (drop f bits) ≡ true_rows (k + f) (take (l + 1 - f) (drop f bits)) =
    split_rows (l + 1 - f) (k + f) (drop f bits) ∙ ap (λ xs. true_rows (k + f) (take (l + 1 - f) (drop f bits)) ++ xs) (ap (true_rows (k + f + (l + 1 - f))) after ∙ past (k + f + (l + 1 - f))) ∙ append-nil (true_rows (k + f) (take (l + 1 - f) (drop f bits))) in
    let long : length part ≡ l + 1 - f = ap length e ∙ (let a = length-take (l + 1 - f) (drop f bits) in let b = length-drop f bits in omega (arith, a, b, inside)) in
    let count : offset_count i is ≡ length part + 1 = omega (arith, long, least.1, head, order, top) in
    let low : least_row i is ≡ k + f = least.1 ∙ head in (
      record {
        rows = s.0 ∙ cut ∙ ap (true_rows (k + f)) (sym e);
        offsets = ap offset_rows rows ∙ ap (λ n. rows_on n (offset_count i is)) low ∙ ap (rows_on (k + f)) count;
        elements = λ o store. ap (span_elements o store) rows ∙ ap (λ n. elements_from o store n (offset_count i is)) low ∙ ap (elements_from o store (k + f)) count;
      },
      omega (arith, long, inside),
    )

-- ---- no row
all_false : (k : ℕ) (bits : List Bool) → ((j : ℕ) → j < length bits → get_or bits j false ≡ false) → true_rows k bits ≡ []
all_false k [] h = refl
all_false k (b ∷ bs) h = let z : b ≡ false = h 0 (omega arith) in rw z (all_false (k + 1) bs (λ j low. later_false j (h (suc j) (omega (arith, low)))))
  where
    later_false : (j : ℕ) → get_or (b ∷ bs) (suc j) false ≡ false → get_or bs j false ≡ false
    later_false j e = e

no_place : (bits : List Bool) → position (λ b. b) bits ≡ None → length bits ≤ position_or_len (λ b. b) bits
no_place bits h = grind (arith, nat_tests, h)

pub none_first : (k : ℕ) (bits : List Bool) → position (λ b. b) bits ≡ None → true_rows k bits ≡ []
none_first k bits h = let z = no_place bits h in all_false k bits (λ j low. fails_before_first (λ b. b) bits j false (omega (arith, z, low)))

pub last_inside : (bits : List Bool) (l : ℕ) → last_true bits ≡ Some l → l < length bits
last_inside bits l q = (rows_last 0 bits l q).4

pub span_order : (bits : List Bool) (f l : ℕ) → position (λ b. b) bits ≡ Some f → last_true bits ≡ Some l → f ≤ l
span_order bits f l p q =
    let first = position-Some (λ b. b) bits f false p in
    let s = skip f 0 bits first.0 first.1 first.2 in
    let r = rows_last 0 bits l q in
    let own : true_rows 0 bits ≡ (0 + f) ∷ true_rows (0 + f + 1) (drop (f + 1) bits) = s.0 ∙ ap (true_rows (0 + f)) s.1 in
    let head : r.0 ≡ 0 + f = heads_same r.0 (0 + f) r.1 (true_rows (0 + f + 1) (drop (f + 1) bits)) (sym r.2 ∙ own) in
    let order = head_among r.0 r.1 in omega (arith, head, order, r.3)
