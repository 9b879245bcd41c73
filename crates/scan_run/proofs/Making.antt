-- The bytes of columns that are made by runs.
use Rattle.std.proofs.Common.{◌≡◌, ℕ, zero, suc, ◌+◌, ◌-◌, ◌*◌, ◌/◌, ◌%◌, ◌<◌, ◌≤◌, pos, List, [], ◌∷◌, ◌++◌, map, length, refl, sym, ap, ◌∙◌, append_assoc, length-append, arith, rules}
use Rattle.std.proofs.lemmas.List.FromFn.{length-map-range_with_len}
use Rattle.std.specs.List.{range_with_len, flat_map}
use Rattle.std.specs.Int.{w8, cast_unsigned}
use Rattle.scan_values.specs.declared.dtype.DTypeKind.{DTypeKind}
use Rattle.scan_values.specs.Selections.{numbers}
use Rattle.scan_values.specs.Val.{Val, int_val}
use Rattle.scan_spelling.specs.Written.{slots, slot_bytes, flags, flag_of}
use Rattle.scan_run.specs.Generated.{id_of, element_of, elements_of, elements, offsets, offsets_from}
use Rattle.scan_run.specs.GeneratedBytes.{longs, bytes_only}
use Rattle.scan_run.proofs.Numbers.{slots_append}

-- the slots of values that are made of numbers, each slot for itself
pub slots_joined : (k : DTypeKind) (f : ℕ → Val) (ns : List ℕ) → flat_map (λ x. x) (map (λ n. slot_bytes k (f n)) ns) ≡ slots k (map f ns)
slots_joined k f [] = refl
slots_joined k f (n ∷ ns) = ap (λ bs. slot_bytes k (f n) ++ bs) (slots_joined k f ns)

pub flags_each : (f : ℕ → Val) (ns : List ℕ) → map (λ n. flag_of (f n)) ns ≡ flags (map f ns)
flags_each f [] = refl
flags_each f (n ∷ ns) = ap (λ bs. flag_of (f n) ∷ bs) (flags_each f ns)

-- how many elements the rows before one have, and the byte of the element at a place among those of all rows
abbrev pub places : ℕ → ℕ
places g = g / 2 + g / 4 * 2 + (g + 1) / 4 * 2

abbrev pub byte_at : ℕ → ℕ
byte_at k = (k - k / 3 + 1) % 256

pub places_step : (g : ℕ) → places (g + 1) ≡ places g + g % 4
places_step g = omega arith

places_up : (g n : ℕ) → places g ≤ places (g + n)
places_up g n = omega arith

element_here : (g j : ℕ) → j < g % 4 → byte_at (places g + j) ≡ (g + j) % 256
element_here g j h = let e : places g + j - (places g + j) / 3 + 1 ≡ g + j = omega arith in ap (λ m. m % 256) e

byte_slot : (m : ℕ) → m < 256 → slot_bytes bytes_only (int_val (pos m)) ≡ m ∷ []
byte_slot m h = search rules

-- the elements of a row, from one of them on
row_bytes : (g j n : ℕ) → j + n ≤ g % 4 → slots bytes_only (map (element_of g) (range_with_len j n)) ≡ map byte_at (range_with_len (places g + j) n)
row_bytes g j zero h = refl
row_bytes g j (suc n) h =
    let e : places g + (j + 1) ≡ places g + j + 1 = omega arith in
    ap (λ bs. bs ++ slots bytes_only (map (element_of g) (range_with_len (j + 1) n))) (byte_slot ((g + j) % 256) (omega arith))
    ∙ ap (λ bs. (g + j) % 256 ∷ bs) (row_bytes g (j + 1) n (omega (arith, h)))
    ∙ ap (λ k. (g + j) % 256 ∷ map byte_at (range_with_len k n)) e
    ∙ ap (λ b. b ∷ map byte_at (range_with_len (places g + j + 1) n)) (sym (element_here g j (omega (arith, h))))

two_runs : {A : Type 0} (f : ℕ → A) (a m n : ℕ) → map f (range_with_len a (m + n)) ≡ map f (range_with_len a m) ++ map f (range_with_len (a + m) n)
two_runs f a zero n =
    let z : 0 + n ≡ n = omega arith in
    let e : a ≡ a + 0 = omega arith in
    ap (λ k. map f (range_with_len a k)) z ∙ ap (λ k. map f (range_with_len k n)) e
two_runs f a (suc m) n =
    let s : suc m + n ≡ suc (m + n) = omega arith in
    let e : a + 1 + m ≡ a + suc m = omega arith in
    ap (λ k. map f (range_with_len a k)) s ∙ ap (λ xs. f a ∷ xs) (two_runs f (a + 1) m n) ∙ ap (λ k. f a ∷ (map f (range_with_len (a + 1) m) ++ map f (range_with_len k n))) e

-- the elements of rows that follow each other
rows_bytes : (g n : ℕ) → slots bytes_only (flat_map elements_of (range_with_len g n)) ≡ map byte_at (range_with_len (places g) (places (g + n) - places g))
rows_bytes g zero = let e : places (g + 0) - places g ≡ 0 = omega arith in ap (λ m. map byte_at (range_with_len (places g) m)) (sym e)
rows_bytes g (suc n) =
    let step = places_step g in
    let up = places_up (g + 1) n in
    let none : places g + 0 ≡ places g = omega arith in
    let here : g % 4 - 0 ≡ g % 4 = omega arith in
    let whole : g % 4 + (places (g + 1 + n) - places (g + 1)) ≡ places (g + suc n) - places g = omega (arith, step, up) in
    slots_append bytes_only (elements_of g) (flat_map elements_of (range_with_len (g + 1) n))
    ∙ ap (λ m. slots bytes_only (map (element_of g) (range_with_len 0 m)) ++ slots bytes_only (flat_map elements_of (range_with_len (g + 1) n))) here
    ∙ ap (λ bs. bs ++ slots bytes_only (flat_map elements_of (range_with_len (g + 1) n))) (row_bytes g 0 (g % 4) (omega arith))
    ∙ ap (λ k. map byte_at (range_with_len k (g % 4)) ++ slots bytes_only (flat_map elements_of (range_with_len (g + 1) n))) none
    ∙ ap (λ bs. map byte_at (range_with_len (places g) (g % 4)) ++ bs) (rows_bytes (g + 1) n)
    ∙ ap (λ k. map byte_at (range_with_len (places g) (g % 4)) ++ map byte_at (range_with_len k (places (g + 1 + n) - places (g + 1)))) step
    ∙ sym (two_runs byte_at (places g) (g % 4) (places (g + 1 + n) - places (g + 1)))
    ∙ ap (λ m. map byte_at (range_with_len (places g) m)) whole

few : (g n : ℕ) → length (flat_map elements_of (range_with_len g n)) ≡ places (g + n) - places g
few g zero = omega arith
few g (suc n) =
    let step = places_step g in
    let up = places_up (g + 1) n in
    let rest = few (g + 1) n in
    let row : length (elements_of g) ≡ g % 4 - 0 = length-map-range_with_len (element_of g) 0 (g % 4 - 0) in
    let both : length (elements_of g ++ flat_map elements_of (range_with_len (g + 1) n)) ≡ length (elements_of g) + length (flat_map elements_of (range_with_len (g + 1) n)) = length-append (elements_of g) (flat_map elements_of (range_with_len (g + 1) n)) in
    let whole : g % 4 + (places (g + 1 + n) - places (g + 1)) ≡ places (g + suc n) - places g = omega (arith, step, up) in
    omega (arith, rest, row, both, whole)

-- the rows before one have so many elements
pub before_is : (g : ℕ) → length (elements 0 g) ≡ places g
before_is g =
    let e : 0 + g - 0 ≡ g = omega arith in
    let p : places (0 + g) - places 0 ≡ places g = omega arith in
    ap (λ n. length (flat_map elements_of (range_with_len 0 n))) e ∙ (few 0 g ∙ p)

pub elements_made : (first n a b : ℕ) → a ≡ length (elements 0 first) → b ≡ length (elements 0 (first + n)) → map byte_at (range_with_len a (b - a)) ≡ slots bytes_only (elements first n)
elements_made first n a b p q =
    let c : first + n - first ≡ n = omega arith in
    (λ i. map byte_at (range_with_len ((p ∙ before_is first) i) ((q ∙ before_is (first + n)) i - (p ∙ before_is first) i)))
    ∙ sym (rows_bytes first n)
    ∙ ap (λ m. slots bytes_only (flat_map elements_of (range_with_len first m))) (sym c)

-- lists begin where those of the rows before end
offsets_made : (g n start here : ℕ) → here ≡ places g - start → start ≤ places g
    → map (λ h. id_of (length (elements 0 h) - start)) (range_with_len g (n + 1)) ≡ map id_of (offsets_from here (map (λ h. h % 4) (range_with_len g n)))
offsets_made g zero start here e le = ap (λ k. id_of k ∷ []) (ap (λ k. k - start) (before_is g) ∙ sym e)
offsets_made g (suc n) start here e le =
    let step = places_step g in
    let s : suc n + 1 ≡ suc (n + 1) = omega arith in
    ap (λ m. map (λ h. id_of (length (elements 0 h) - start)) (range_with_len g m)) s
    ∙ ap (λ k. id_of k ∷ map (λ h. id_of (length (elements 0 h) - start)) (range_with_len (g + 1) (n + 1))) (ap (λ k. k - start) (before_is g) ∙ sym e)
    ∙ ap (λ xs. id_of here ∷ xs) (offsets_made (g + 1) n start (here + g % 4) (omega (arith, step, e, le)) (omega (arith, step, le)))

pub offsets_joined : (first n start : ℕ) → start ≡ length (elements 0 first)
    → map (λ h. id_of (length (elements 0 h) - start)) (numbers first (first + n + 1)) ≡ offsets first n
offsets_joined first n start p =
    let c : first + n - first ≡ n = omega arith in
    let d : first + n + 1 - first ≡ n + 1 = omega arith in
    let s = p ∙ before_is first in
    ap (λ m. map (λ h. id_of (length (elements 0 h) - start)) (range_with_len first m)) d
    ∙ offsets_made first n start 0 (omega (arith, s)) (omega (arith, s))
    ∙ ap (λ m. map id_of (offsets_from 0 (map (λ h. h % 4) (range_with_len first m)))) (sym c)

-- no list begins before the first one
pub behind_start : (first g start : ℕ) → start ≡ length (elements 0 first) → first ≤ g → start ≤ length (elements 0 g)
behind_start first g start p le =
    let a = before_is first in
    let b = before_is g in
    omega (arith, a, b, p, le)
