-- The rows of offsets and of elements that rows of lists need.
use Rattle.std.proofs.Common.{◌≡◌, ℕ, zero, suc, ◌+◌, ◌-◌, ◌<◌, ◌≤◌, ◌==◌, Bool, true, false, ◌||◌, List, [], ◌∷◌, min, max, Option, Some, None, ℤ, pos, negsuc, refl, ap, ◌∙◌, arith}
use Rattle.std.specs.Prelude.{nat_le, if◌then◌else◌}
use Rattle.std.specs.List.{list_any}
use Rattle.std.proofs.lemmas.Bool.{eqb-true}
use Rattle.std.proofs.lemmas.Bool.Decides.{nat_tests}
use Rattle.scan_values.specs.Marked.{Marked, list}
use Rattle.scan_segments.specs.Source.{Store}
use Rattle.scan_layout.specs.RowValue.{elements_between, values_from, offset_of}
use Rattle.scan_layout.specs.Touched.{least_offset, greatest_offset, lesser, greater}
use Rattle.scan_plans.specs.OffsetsData.{OffsetsData, offset_at, offset_marked}
use Rattle.scan_plans.specs.Lists.{rows_on, least_row, greatest_row, offset_count, offset_rows, span_elements, is_whole, element_rows}

-- row i is one of the rows
abbrev pub among : ℕ → List ℕ → Bool
among i is = list_any (λ j. j == i) is

pub on_rows : (a n j : ℕ) → a ≤ j → j < a + n → among j (rows_on a n) ≡ true
on_rows a zero j low high = absurd (omega (arith, low, high))
on_rows a (suc n) j low high = first (a == j) refl (λ h. on_rows (a + 1) n j h (omega (arith, high)))
  where
    first : (b : Bool) → (a == j) ≡ b → (a + 1 ≤ j → among j (rows_on (a + 1) n) ≡ true) → (b || among j (rows_on (a + 1) n)) ≡ true
    first true e later = refl
    first false e later = let past : a + 1 ≤ j = grind (arith, nat_tests, e, low) in later past

-- rows lie between the least and the greatest
pub bounded : (j i : ℕ) (is : List ℕ) → among j (i ∷ is) ≡ true → (least_row i is ≤ j) × (j ≤ greatest_row i is)
bounded j i [] h = one (i == j) refl h
  where
    one : (b : Bool) → (i == j) ≡ b → (b || false) ≡ true → (i ≤ j) × (j ≤ i)
    one true e w = let z = eqb-true i j e in (omega (arith, z), omega (arith, z))
    one false e w = absurd cc
bounded j i (k ∷ ks) h = by (i == j) refl h (λ w. bounded j k ks w)
  where
    by : (b : Bool) → (i == j) ≡ b → (b || among j (k ∷ ks)) ≡ true → (among j (k ∷ ks) ≡ true → (least_row k ks ≤ j) × (j ≤ greatest_row k ks)) → (min i (least_row k ks) ≤ j) × (j ≤ max i (greatest_row k ks))
    by true e w later = let z = eqb-true i j e in (omega (arith, z), omega (arith, z))
    by false e w later = let z = later w in (omega (arith, z.0), omega (arith, z.1))

pub own_offset : (i : ℕ) (is : List ℕ) → among i is ≡ true → among i (offset_rows is) ≡ true
own_offset i [] h = absurd cc
own_offset i (j ∷ js) h = let z = bounded i j js h in on_rows (least_row j js) (offset_count j js) i z.0 (omega (arith, z.0, z.1))

pub next_offset : (i : ℕ) (is : List ℕ) → among i is ≡ true → among (i + 1) (offset_rows is) ≡ true
next_offset i [] h = absurd cc
next_offset i (j ∷ js) h = let z = bounded i j js h in on_rows (least_row j js) (offset_count j js) (i + 1) (omega (arith, z.0)) (omega (arith, z.0, z.1))

-- ---- elements
lesser_some : (o : Option ℤ) (a n : ℕ) → o ≡ Some (pos a) → lesser o n ≤ a
lesser_some None a n e = absurd cc
lesser_some (Some (pos b)) a n e = let z : b ≡ a = cc in omega (arith, z)
lesser_some (Some (negsuc b)) a n e = absurd cc

lesser_rest : (o : Option ℤ) (n : ℕ) → lesser o n ≤ n
lesser_rest None n = omega arith
lesser_rest (Some (pos b)) n = omega arith
lesser_rest (Some (negsuc b)) n = omega arith

greater_some : (o : Option ℤ) (a n : ℕ) → o ≡ Some (pos a) → a ≤ greater o n
greater_some None a n e = absurd cc
greater_some (Some (pos b)) a n e = let z : b ≡ a = cc in omega (arith, z)
greater_some (Some (negsuc b)) a n e = absurd cc

greater_rest : (o : Option ℤ) (n : ℕ) → n ≤ greater o n
greater_rest None n = omega arith
greater_rest (Some (pos b)) n = omega arith
greater_rest (Some (negsuc b)) n = omega arith

pub least_below : (most : ℕ) (f : ℕ → Marked) (k n i a : ℕ) → k ≤ i → i < k + n → offset_of (f i) ≡ Some (pos a) → least_offset most f k n ≤ a
least_below most f k zero i a low high e = absurd (omega (arith, low, high))
least_below most f k (suc n) i a low high e = by (k == i) refl (λ past. least_below most f (k + 1) n i a past (omega (arith, high)) e)
  where
    by : (b : Bool) → (k == i) ≡ b → (k + 1 ≤ i → least_offset most f (k + 1) n ≤ a) → lesser (offset_of (f k)) (least_offset most f (k + 1) n) ≤ a
    by true w later = lesser_some (offset_of (f k)) a (least_offset most f (k + 1) n) (ap (λ j. offset_of (f j)) (eqb-true k i w) ∙ e)
    by false w later =
        let past : k + 1 ≤ i = grind (arith, nat_tests, w, low) in
        let z = later past in
        let y = lesser_rest (offset_of (f k)) (least_offset most f (k + 1) n) in omega (arith, y, z)

pub greatest_above : (f : ℕ → Marked) (k n i a : ℕ) → k ≤ i → i < k + n → offset_of (f i) ≡ Some (pos a) → a ≤ greatest_offset f k n
greatest_above f k zero i a low high e = absurd (omega (arith, low, high))
greatest_above f k (suc n) i a low high e = by (k == i) refl (λ past. greatest_above f (k + 1) n i a past (omega (arith, high)) e)
  where
    by : (b : Bool) → (k == i) ≡ b → (k + 1 ≤ i → a ≤ greatest_offset f (k + 1) n) → a ≤ greater (offset_of (f k)) (greatest_offset f (k + 1) n)
    by true w later = greater_some (offset_of (f k)) a (greatest_offset f (k + 1) n) (ap (λ j. offset_of (f j)) (eqb-true k i w) ∙ e)
    by false w later =
        let past : k + 1 ≤ i = grind (arith, nat_tests, w, low) in
        let z = later past in
        let y = greater_rest (offset_of (f k)) (greatest_offset f (k + 1) n) in omega (arith, y, z)

span_element : (o : OffsetsData) (store : Store) (i : ℕ) (is : List ℕ) (a b j : ℕ) → among i is ≡ true → offset_at o store i ≡ Some (pos a) → offset_at o store (i + 1) ≡ Some (pos b) → b ≤ o.elements → a ≤ j → j < b → among j (span_elements o store is) ≡ true
span_element o store i [] a b j h x y m low high = absurd cc
span_element o store i (k ∷ ks) a b j h x y m low high =
    let z = bounded i k ks h in
    let at : ℕ → Marked = offset_marked o store in
    let l = least_below o.elements at (least_row k ks) (offset_count k ks) i a z.0 (omega (arith, z.0, z.1)) x in
    let g = greatest_above at (least_row k ks) (offset_count k ks) (i + 1) b (omega (arith, z.0)) (omega (arith, z.0, z.1)) y in
    on_rows (least_offset o.elements (offset_marked o store) (least_row k ks) (offset_count k ks)) (min o.elements (greatest_offset (offset_marked o store) (least_row k ks) (offset_count k ks)) - least_offset o.elements (offset_marked o store) (least_row k ks) (offset_count k ks)) j
    (omega (arith, l, low)) (omega (arith, l, g, m, low, high))

pub own_element : (o : OffsetsData) (store : Store) (i : ℕ) (is : List ℕ) (a b j : ℕ) → among i is ≡ true → offset_at o store i ≡ Some (pos a) → offset_at o store (i + 1) ≡ Some (pos b) → b ≤ o.elements → a ≤ j → j < b → among j (element_rows o store is) ≡ true
own_element o store i is a b j h x y m low high = by (is_whole o is)
  where
    by : (w : Bool) → among j (if w then rows_on 0 o.elements else span_elements o store is) ≡ true
    by true = on_rows 0 o.elements j (omega arith) (omega (arith, m, high))
    by false = span_element o store i is a b j h x y m low high

pub values_alike : (n a : ℕ) (f g : ℕ → Marked) → ((j : ℕ) → a ≤ j → j < a + n → f j ≡ g j) → values_from f a n ≡ values_from g a n
values_alike zero a f g h = refl
values_alike (suc n) a f g h = rw (h a (omega arith) (omega arith), values_alike n (a + 1) f g (λ j low high. h j (omega (arith, low)) (omega (arith, high)))) refl

pub elements_alike : (most : ℕ) (x y : Option ℤ) (f g : ℕ → Marked) → ((a b j : ℕ) → x ≡ Some (pos a) → y ≡ Some (pos b) → b ≤ most → a ≤ j → j < b → f j ≡ g j) → elements_between most x y f ≡ elements_between most x y g
elements_alike most None y f g h = refl
elements_alike most (Some (negsuc a)) y f g h = refl
elements_alike most (Some (pos a)) None f g h = refl
elements_alike most (Some (pos a)) (Some (negsuc b)) f g h = refl
elements_alike most (Some (pos a)) (Some (pos b)) f g h = by (nat_le a b) (nat_le b most) refl refl
  where
    by : (c d : Bool) → nat_le a b ≡ c → nat_le b most ≡ d → elements_between most (Some (pos a)) (Some (pos b)) f ≡ elements_between most (Some (pos a)) (Some (pos b)) g
    by true true u v = let up : a ≤ b = grind (arith, nat_tests, u) in let low_most : b ≤ most = grind (arith, nat_tests, v) in
        rw (u, v) (ap list (values_alike (b - a) a f g (λ j low high. h a b j refl refl low_most low (omega (arith, up, high)))))
    by true false u v = rw (u, v) refl
    by false d u v = rw u refl
