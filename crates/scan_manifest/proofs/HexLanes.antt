-- Vectors of digits, lane by lane. What a lane comes to is computed for each of the 256 bytes.
use Rattle.std.proofs.Common.{◌≡◌, ℕ, zero, suc, ◌+◌, ◌-◌, ◌*◌, ◌%◌, ◌^◌, ◌<◌, ◌≤◌, Bool, true, false, ◌&&◌, cond, eqb, ltb, leb, T, List, [], ◌∷◌, ◌++◌, map}
use Rattle.std.proofs.Common.{length, get_or, replicate, bit_and, Option, Some, None, Ok, refl, sym, ap, ◌∙◌, subst, inl, inr, arith, w8, Fits, eq-zero-or-pos, eqb→eq, eqb-true, leb-false, lt-ltb, ltb-true, ltb-false}
use Rattle.std.proofs.lemmas.List.{get_or-map, get_or_append_left, length-map}
use Rattle.std.proofs.lemmas.Simd.{get_or-zip2, length-zip2, map-map, mask_l-mod, splat_is_map, zip2-map, zip2_of_maps}
use lib.Ieee.Fits.{and_l, and_r}
use lib.Lanes.{zip2, sel_l, mask_l, pick_l, top, Each1}
use Rattle.hex.specs.Hex.{hex_digit_value, pair_value}
use Rattle.scan_manifest.proofs.HexPairs.{pair_is}

-- ---- tests of each number below one

abbrev all_below : (ℕ → Bool) → ℕ → Bool
all_below p zero = true
all_below p (suc n) = p n && all_below p n

every_below : (p : ℕ → Bool) (n : ℕ) → T (all_below p n) → (i : ℕ) → i < n → T (p i)
every_below p zero h i l = absurd (omega arith)
every_below p (suc n) h i l =
    elim (eq-zero-or-pos (n - i)) [
      | inl z ↦ let e : n ≡ i = omega arith in subst (λ x. T (p x)) e (and_l _ _ h)
      | inr g ↦ every_below p n (and_r (p n) _ h) i (omega arith)
    ]

lane_fits : (v : List ℕ) (i : ℕ) → Each1 (Fits w8) v → get_or v i 0 < 256
lane_fits [] i h = omega arith
lane_fits (x ∷ xs) zero h = h.0.fits
lane_fits (x ∷ xs) (suc i) h = lane_fits xs i h.1

-- ---- what operations leave of one lane, or of two

abbrev pub add : ℕ → ℕ → ℕ
add a b = (a + b) % 2 ^ 8

abbrev pub sub : ℕ → ℕ → ℕ
sub a b = (a + (2 ^ 8 - b)) % 2 ^ 8

abbrev pub times : ℕ → ℕ → ℕ
times a b = a * b % 2 ^ 8

abbrev pub below : ℕ → ℕ → ℕ
below a b = cond (ltb a b) 255 0

abbrev pub at_least : ℕ → ℕ → ℕ
at_least a b = cond (leb a b) 255 0

-- lanes of the one or the other, by which is less
abbrev pub chosen : List ℕ → List ℕ → List ℕ → List ℕ → List ℕ
chosen ms ns xs ys = sel_l (map (top 7) (zip2 below ms ns)) xs ys

abbrev choose : ℕ → ℕ → ℕ → ℕ → ℕ
choose a b x y = cond (top 7 (below a b)) x y

map-id : (v : List ℕ) → v ≡ map (λ x. x) v
map-id [] = refl
map-id (x ∷ xs) = ap (λ l. x ∷ l) (map-id xs)

sel_map : (t : ℕ → Bool) (p q : ℕ → ℕ) (v : List ℕ) → sel_l (map t v) (map p v) (map q v) ≡ map (λ x. cond (t x) (p x) (q x)) v
sel_map t p q [] = refl
sel_map t p q (x ∷ xs) = ap (λ l. cond (t x) (p x) (q x) ∷ l) (sel_map t p q xs)

chosen_of_maps : (f g p q : ℕ → ℕ) (v : List ℕ) {ms ns xs ys : List ℕ} → ms ≡ map f v → ns ≡ map g v → xs ≡ map p v → ys ≡ map q v
    → chosen ms ns xs ys ≡ map (λ x. choose (f x) (g x) (p x) (q x)) v
chosen_of_maps f g p q v a b c d =
    (λ i. chosen (a i) (b i) (c i) (d i))
    ∙ ap (λ bs. sel_l bs (map p v) (map q v)) (ap (map (top 7)) (zip2-map below f g v) ∙ map-map (top 7) (λ x. below (f x) (g x)) v)
    ∙ sel_map (λ x. top 7 (below (f x) (g x))) p q v

-- ---- what a digit stands for

abbrev moved : ℕ → ℕ
moved x = add x 198

abbrev number : ℕ → ℕ
number x = add (sub (choose (moved x) 6 6 (moved x)) 6) 16

abbrev upper : ℕ → ℕ
upper x = add (bit_and x 223) 191

abbrev letter : ℕ → ℕ
letter x = add (choose (upper x) 245 (upper x) 245) 10

abbrev value : ℕ → ℕ
value x = choose (number x) (letter x) (number x) (letter x)

abbrev says : ℕ → Option ℕ → Bool
says n None = false
says n (Some m) = eqb n m

says_is : (n : ℕ) (o : Option ℕ) → T (says n o) → o ≡ Some n
says_is n None h = absurd h
says_is n (Some m) h = ap Some (sym (eqb→eq n m h))

abbrev is_right : ℕ → Bool
is_right x = cond (ltb (value x) 16) (says (value x) (hex_digit_value x)) true

right_value : (x : ℕ) → x < 256 → value x < 16 → hex_digit_value x ≡ Some (value x)
right_value x within small =
    let e : ltb (value x) 16 ≡ true = lt-ltb _ _ small in
    says_is _ _ (subst (λ b. T (cond b (says (value x) (hex_digit_value x)) true)) e (every_below is_right 256 tt x within))

abbrev pub splat : ℕ → List ℕ
splat y = replicate 32 y

-- the numbers of digits, and their letters, as vectors
abbrev pub numbers : List ℕ → List ℕ
numbers v = let m = zip2 add v (splat 198) in zip2 add (zip2 sub (chosen m (splat 6) (splat 6) m) (splat 6)) (splat 16)

abbrev pub letters : List ℕ → List ℕ
letters v = let u = zip2 add (zip2 bit_and v (splat 223)) (splat 191) in zip2 add (chosen u (splat 245) u (splat 245)) (splat 10)

module _ (v : List ℕ) (long : length v ≡ 32) where
  same : (y : ℕ) → splat y ≡ map (λ _. y) v
  same y = splat_is_map v 32 y long

  numbers_are : numbers v ≡ map number v
  numbers_are =
      let m = zip2_of_maps add (λ x. x) (λ _. 198) v (map-id v) (same 198) in
      zip2_of_maps add _ (λ _. 16) v
      (zip2_of_maps sub _ (λ _. 6) v (chosen_of_maps moved (λ _. 6) (λ _. 6) moved v m (same 6) (same 6) m) (same 6)) (same 16)

  letters_are : letters v ≡ map letter v
  letters_are =
      let a = zip2_of_maps bit_and (λ x. x) (λ _. 223) v (map-id v) (same 223) in
      let u = zip2_of_maps add _ (λ _. 191) v a (same 191) in
      zip2_of_maps add _ (λ _. 10) v (chosen_of_maps upper (λ _. 245) upper (λ _. 245) v u (same 245) u (same 245)) (same 10)

  values_are : chosen (numbers v) (letters v) (numbers v) (letters v) ≡ map value v
  values_are = chosen_of_maps number letter number letter v numbers_are letters_are numbers_are letters_are

pub long_values : (v : List ℕ) → length v ≡ 32 → length (chosen (numbers v) (letters v) (numbers v) (letters v)) ≡ 32
long_values v long = ap length (values_are v long) ∙ length-map v value ∙ long

pub read_values : (v : List ℕ) → (length v ≡ 32) × Each1 (Fits w8) v → (k : ℕ) → k < 32
    → get_or (chosen (numbers v) (letters v) (numbers v) (letters v)) k 0 < 16
    → hex_digit_value (get_or v k 0) ≡ Some (get_or (chosen (numbers v) (letters v) (numbers v) (letters v)) k 0)
read_values v fits k h small =
    let e : get_or (chosen (numbers v) (letters v) (numbers v) (letters v)) k 0 ≡ value (get_or v k 0) =
    ap (λ l. get_or l k 0) (values_are v fits.0) ∙ get_or-map value v k 0 0 (omega (arith, fits.0)) in
    right_value (get_or v k 0) (lane_fits v k fits.1) (subst (λ n. n < 16) e small) ∙ ap Some (sym e)

-- ---- a test of all lanes

none_large : (xs : List ℕ) → mask_l (map (top 7) (zip2 at_least (replicate (length xs) 16) xs)) ≡ 0 → (i : ℕ) → get_or xs i 0 < 16
none_large [] e i = omega arith
none_large (x ∷ xs) e zero = go (leb 16 x) refl (omega arith)
  where
    go : (t : Bool) → leb 16 x ≡ t → ◌≡◌ {A = ℕ} (cond (top 7 (cond t 255 0)) 1 0) 0 → x < 16
    go true p q = absurd (omega arith)
    go false p q = leb-false _ _ p
none_large (x ∷ xs) e (suc i) = none_large xs (omega arith) i

pub small_by_mask : (xs : List ℕ) → length xs ≡ 32 → eqb (mask_l (map (top 7) (zip2 at_least (splat 16) xs)) % 2 ^ 64) 0 ≡ true
    → (i : ℕ) → get_or xs i 0 < 16
small_by_mask xs long e =
    let short = mask_l-mod (map (top 7) (zip2 at_least (splat 16) xs)) 64 (omega (arith, length-map (zip2 at_least (splat 16) xs) (top 7), length-zip2 at_least (splat 16) xs (sym long))) in
    none_large xs (ap (λ n. mask_l (map (top 7) (zip2 at_least (replicate n 16) xs))) long ∙ sym short ∙ eqb-true _ _ e)

-- ---- the bytes of digits

-- every second lane, from one on
abbrev pub seconds : ℕ → ℕ → List ℕ
seconds a zero = []
seconds a (suc n) = a ∷ seconds (2 + a) n

abbrev is_second : ℕ → ℕ → Bool
is_second a k = eqb (get_or (seconds a 32) k 0) (2 * k + a)

pub second_at : (a : ℕ) → a < 2 → T (all_below (is_second a) 32) → (v : List ℕ) → length v ≡ 64 → (k : ℕ) → k < 32
    → get_or (pick_l 0 (v ++ v) (seconds a 32)) k 0 ≡ get_or v (2 * k + a) 0
second_at a small all v long k h =
    let e : get_or (seconds a 32) k 0 ≡ 2 * k + a = eqb→eq _ _ (every_below (is_second a) 32 all k h) in
    get_or-map (λ p. get_or (v ++ v) p 0) (seconds a 32) k 0 0 h ∙ ap (λ p. get_or (v ++ v) p 0) e
    ∙ get_or_append_left v v 0 (2 * k + a) (omega (arith, long))

-- the greater of two lanes
greater_lane : (xs ys : List ℕ) → length xs ≡ length ys → (k : ℕ) → k < length xs
    → get_or (chosen xs ys ys xs) k 0 ≡ choose (get_or xs k 0) (get_or ys k 0) (get_or ys k 0) (get_or xs k 0)
greater_lane [] ys e k h = absurd (omega arith)
greater_lane (x ∷ xs) [] e k h = absurd (omega arith)
greater_lane (x ∷ xs) (y ∷ ys) e zero h = refl
greater_lane (x ∷ xs) (y ∷ ys) e (suc k) h = greater_lane xs ys (omega arith) k (omega arith)

both_small : (a b : ℕ) → choose a b b a < 16 → (a < 16) × (b < 16)
both_small a b h = go (ltb a b) refl h
  where
    go : (t : Bool) → ltb a b ≡ t → cond (top 7 (cond t 255 0)) b a < 16 → (a < 16) × (b < 16)
    go true p q = (omega (arith, ltb-true _ _ p), q)
    go false p q = (q, omega (arith, ltb-false _ _ p))

-- what a digit is, where it is one
abbrev pub Reads : List ℕ → List ℕ → Type 0
Reads digits found = (k : ℕ) → k < 32 → get_or found k 0 < 16 → hex_digit_value (get_or digits k 0) ≡ Some (get_or found k 0)

abbrev pub seconds_of : ℕ → List ℕ → List ℕ
seconds_of a v = pick_l 0 (v ++ v) (seconds a 32)

abbrev pub joined : List ℕ → List ℕ → List ℕ
joined high low = zip2 add (zip2 times high (splat 16)) low

module _ (v high low : List ℕ) (long : length v ≡ 64) (highs : length high ≡ 32) (lows : length low ≡ 32) where
  joined_at : (k : ℕ) → k < 32 → get_or high k 0 < 16 → get_or low k 0 < 16 → get_or (joined high low) k 0 ≡ get_or high k 0 * 16 + get_or low k 0
  joined_at k h a b =
      let t = get_or-zip2 times high (splat 16) k 0 0 0 (omega (arith, highs)) h in
      let n = length-zip2 times high (splat 16) highs in
      get_or-zip2 add (zip2 times high (splat 16)) low k 0 0 0 (omega (arith, n, highs)) (omega (arith, lows))
      ∙ ap (λ x. add x (get_or low k 0)) t
      ∙ ap (λ y. add (times (get_or high k 0) y) (get_or low k 0)) (sixteen k h)
      ∙ fits (get_or high k 0) (get_or low k 0) a b
    where
      sixteen : (j : ℕ) → j < 32 → get_or (splat 16) j 0 ≡ 16
      sixteen j lt = eqb→eq _ _ (every_below (λ p. eqb (get_or (splat 16) p 0) 16) 32 tt j lt)

      fits : (x y : ℕ) → x < 16 → y < 16 → add (times x 16) y ≡ x * 16 + y
      fits x y p q = omega arith

  pub long_joined : length (joined high low) ≡ 32
  long_joined =
      let n = length-zip2 times high (splat 16) highs in
      length-zip2 add (zip2 times high (splat 16)) low (n ∙ highs ∙ sym lows) ∙ n ∙ highs

  pub bytes_at : Reads (seconds_of 0 v) high → Reads (seconds_of 1 v) low → ((k : ℕ) → k < 32 → get_or (chosen high low low high) k 0 < 16)
      → (k : ℕ) → k < 32 → (i : ℕ) → pair_value (get_or v (2 * k) 0) (get_or v (2 * k + 1) 0) i ≡ Ok (get_or (joined high low) k 0)
  bytes_at first second small k h i =
      let both : (get_or high k 0 < 16) × (get_or low k 0 < 16) = both_small (get_or high k 0) (get_or low k 0) (subst (λ n. n < 16) (greater_lane high low (highs ∙ sym lows) k (omega (arith, highs))) (small k h)) in
      let even : 2 * k + 0 ≡ 2 * k = omega arith in
      let a = ap hex_digit_value (ap (λ n. get_or v n 0) (sym even) ∙ sym (second_at 0 (omega arith) tt v long k h)) ∙ first k h both.0 in
      let b = ap hex_digit_value (sym (second_at 1 (omega arith) tt v long k h)) ∙ second k h both.1 in
      pair_is (get_or v (2 * k) 0) (get_or v (2 * k + 1) 0) (get_or high k 0) (get_or low k 0) i a b ∙ ap Ok (sym (joined_at k h both.0 both.1))
