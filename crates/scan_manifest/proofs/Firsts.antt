-- Files of one id, each compared with the first of that id.
use Rattle.std.proofs.Common.{◌≡◌, ◌≢◌, ℕ, length, nat_eq, arith, List, [], ◌∷◌, Bool, true, false, cond, Option, None, Some, refl, sym, ap, ◌∙◌, bytes_eq, Bor, ◌⊎◌, inl, inr, ◌<◌, ◌+◌, drop, get_or}
use Rattle.std.proofs.lemmas.Bool.Decides.{nat_tests}
use Rattle.std.specs.Prelude.{◌&&◌, not, ◌||◌, option_map}
use Rattle.std.specs.List.{list_all}
use Rattle.std.specs.Map.{lookup, update}
use Rattle.std.specs.Map.Iter.{TakesFirst, deref_pair}
use Rattle.std.proofs.lemmas.List.{drop_more}
use Rattle.std.proofs.lemmas.Slice.Eq.{bytes_eq-Decides}
use Rattle.std.specs.Ordering.{nat_cmp, is_eq}
use Rattle.std.specs.Cmp.Lexicographic.{slice_cmp}
use Rattle.std.specs.BTreeMap.{BTreeMap, get_by, is_at}
use Rattle.scan_manifest.specs.declared.manifest.FileSpec.{FileSpec}
use Rattle.scan_manifest.specs.Manifest.{same_segments, agree, all_agree}

-- segments by their ids
abbrev pub Stored : Type 0
Stored = List (ℕ × List ℕ)

-- the segments of the first file of each id
abbrev pub looked_up : BTreeMap (Bor (List ℕ)) (Bor Stored) → List ℕ → Option Stored
looked_up firsts id = option_map (λ b. b.now) (get_by (λ k. slice_cmp nat_cmp id k.now) firsts)

abbrev pub fits_first : Option Stored → Stored → Bool
fits_first None ts = true
fits_first (Some ss) ts = same_segments ss ts

-- a file has the segments of the first of its id
abbrev pub fits : (List ℕ → Option Stored) → FileSpec → Bool
fits first f = fits_first (first f.id) f.segments

-- files agree with the first of each id, and with each other
abbrev pub settled : (List ℕ → Option Stored) → List FileSpec → Bool
settled first fs = list_all (fits first) fs && all_agree fs

all_both : {T : Type 0} (p q r : T → Bool) → ((x : T) → r x ≡ (p x && q x)) → (xs : List T) → list_all r xs ≡ (list_all p xs && list_all q xs)
all_both p q r h [] = refl
all_both p q r h (x ∷ xs) = ap (λ b. b && list_all r xs) (h x) ∙ ap (λ b. (p x && q x) && b) (all_both p q r h xs) ∙ crossed (p x) (q x) (list_all p xs) (list_all q xs)
  where
    crossed : (a b c d : Bool) → ((a && b) && (c && d)) ≡ ((a && c) && (b && d))
    crossed true true c d = refl
    crossed true false true d = refl
    crossed true false false d = refl
    crossed false b c d = refl

module _ (first : List ℕ → Option Stored) (f : FileSpec) where
  -- a file whose id has no first, or the same segments as its first
  pub one_more : (next : List ℕ → Option Stored) (fs : List FileSpec) → fits first f ≡ true → ((g : FileSpec) → fits next g ≡ (fits first g && agree f g)) → settled first (f ∷ fs) ≡ settled next fs
  one_more next fs h step =
      ap (λ b. (b && list_all (fits first) fs) && (list_all (agree f) fs && all_agree fs)) h
      ∙ regrouped (list_all (fits first) fs) (list_all (agree f) fs) (all_agree fs)
      ∙ ap (λ b. b && all_agree fs) (sym (all_both (fits first) (agree f) (fits next) step fs))
    where
      regrouped : (a b c : Bool) → (a && (b && c)) ≡ ((a && b) && c)
      regrouped true b c = refl
      regrouped false b c = refl

  -- a file that differs from the first of its id
  pub differs : (fs : List FileSpec) → fits first f ≡ false → settled first (f ∷ fs) ≡ false
  differs fs h = ap (λ b. (b && list_all (fits first) fs) && (list_all (agree f) fs && all_agree fs)) h

-- ---- segments, id by id
same_number : (m n : ℕ) → is_eq (nat_cmp m n) ≡ nat_eq m n
same_number m n = grind (arith, nat_tests)

no_more : (a b : Bool) → (a && (b && false)) ≡ false
no_more true true = refl
no_more true false = refl
no_more false b = refl

pub not_true : (b c : Bool) → b ≡ not c → b ≡ true → c ≡ false
not_true b true e h = sym h ∙ e
not_true b false e h = refl

pub not_false : (b c : Bool) → b ≡ not c → b ≡ false → c ≡ true
not_false b true e h = refl
not_false b false e h = sym h ∙ e

-- more of the one than of the other
pub uneven : (ss ts : Stored) → length ss ≢ length ts → same_segments ss ts ≡ false
uneven [] [] h = absurd (h refl)
uneven [] (t ∷ ts) h = refl
uneven (s ∷ ss) [] h = refl
uneven (s ∷ ss) (t ∷ ts) h =
    ap (λ b. is_eq (nat_cmp s.0 t.0) && (bytes_eq s.1 t.1 && b)) (uneven ss ts (λ e. h (omega (arith, e))))
    ∙ no_more (is_eq (nat_cmp s.0 t.0)) (bytes_eq s.1 t.1)

-- one of two lists of one length has ended
pub both_end : (ss ts : Stored) → length ss ≡ length ts → (ss ≡ []) ⊎ (ts ≡ []) → same_segments ss ts ≡ true
both_end [] [] h e = refl
both_end [] (t ∷ ts) h e = absurd (omega arith)
both_end (s ∷ ss) [] h e = absurd (omega arith)
both_end (s ∷ ss) (t ∷ ts) h (inl e) = cc
both_end (s ∷ ss) (t ∷ ts) h (inr e) = cc

pub ended : (ss ts : Stored) → ((u : Stored) × TakesFirst (deref_pair {K = ℕ} {X = List ℕ}) ss None u) ⊎ ((u : Stored) × TakesFirst (deref_pair {K = ℕ} {X = List ℕ}) ts None u) → (ss ≡ []) ⊎ (ts ≡ [])
ended ss ts (inl h) = inl h.1.0
ended ss ts (inr h) = inr h.1.0

-- the next of each
module _ (ss ts ss' ts' : Stored) (m n : ℕ) (xs ys : List ℕ) (es : ss ≡ (m, xs) ∷ ss') (et : ts ≡ (n, ys) ∷ ts') where
  here : same_segments ss ts ≡ (is_eq (nat_cmp m n) && (bytes_eq xs ys && same_segments ss' ts'))
  here = ap (λ us. same_segments us ts) es ∙ ap (same_segments ((m, xs) ∷ ss')) et

  pub other_id : nat_eq m n ≡ false → same_segments ss ts ≡ false
  other_id h = here ∙ ap (λ b. b && (bytes_eq xs ys && same_segments ss' ts')) (same_number m n ∙ h)

  pub other_bytes : bytes_eq xs ys ≡ false → same_segments ss ts ≡ false
  other_bytes h = here ∙ ap (λ b. is_eq (nat_cmp m n) && (b && same_segments ss' ts')) h ∙ last (is_eq (nat_cmp m n))
    where
      last : (b : Bool) → (b && false) ≡ false
      last true = refl
      last false = refl

  pub same_here : nat_eq m n ≡ true → bytes_eq xs ys ≡ true → same_segments ss ts ≡ same_segments ss' ts'
  same_here h k =
      here ∙ ap (λ b. b && (bytes_eq xs ys && same_segments ss' ts')) (same_number m n ∙ h) ∙ ap (λ b. b && same_segments ss' ts') k

  pub even_here : length ss ≡ length ts → length ss' ≡ length ts'
  even_here h = let a : length ss ≡ length ((m, xs) ∷ ss') = ap length es in let b : length ts ≡ length ((n, ys) ∷ ts') = ap length et in omega (arith, h, a, b)

number_is : (m n : ℕ) → is_eq (nat_cmp m n) ≡ true → m ≡ n
number_is m n h = grind (arith, nat_tests)

pub first_true : (a b : Bool) → (a && b) ≡ true → a ≡ true
first_true true b h = refl
first_true false b h = h

pub then_true : (a b : Bool) → (a && b) ≡ true → b ≡ true
then_true true b h = h
then_true false b h = cc

pub same_is : (ss ts : Stored) → same_segments ss ts ≡ true → ss ≡ ts
same_is [] [] h = refl
same_is [] (t ∷ ts) h = cc
same_is (s ∷ ss) [] h = cc
same_is (s ∷ ss) (t ∷ ts) h =
    let later : (bytes_eq s.1 t.1 && same_segments ss ts) ≡ true = then_true (is_eq (nat_cmp s.0 t.0)) (bytes_eq s.1 t.1 && same_segments ss ts) h in
    ap (λ m. (m, s.1) ∷ ss) (number_is s.0 t.0 (first_true (is_eq (nat_cmp s.0 t.0)) (bytes_eq s.1 t.1 && same_segments ss ts) h))
    ∙ ap (λ xs. (t.0, xs) ∷ ss) ((bytes_eq-Decides s.1 t.1).0 (first_true (bytes_eq s.1 t.1) (same_segments ss ts) later))
    ∙ ap (λ us. t ∷ us) (same_is ss ts (then_true (bytes_eq s.1 t.1) (same_segments ss ts) later))

-- ---- what each next file is compared with
twice : (a b : Bool) → a ≡ b → a ≡ (a && b)
twice true b h = h
twice false b h = refl

and_yes : (a b : Bool) → b ≡ true → a ≡ (a && b)
and_yes true b h = sym h
and_yes false b h = refl

module _ (first : List ℕ → Option Stored) (f : FileSpec) where
  others : (g : FileSpec) → bytes_eq f.id g.id ≡ false → agree f g ≡ true
  others g e = ap (λ b. not b || same_segments f.segments g.segments) e

  alike : (g : FileSpec) → bytes_eq f.id g.id ≡ true → agree f g ≡ same_segments f.segments g.segments
  alike g e = ap (λ b. not b || same_segments f.segments g.segments) e

  -- the file is as the first of its id
  keeps : (ss : Stored) → first f.id ≡ Some ss → same_segments ss f.segments ≡ true → (g : FileSpec) → fits first g ≡ (fits first g && agree f g)
  keeps ss h k g = by (bytes_eq f.id g.id) refl
    where
      by : (b : Bool) → bytes_eq f.id g.id ≡ b → fits first g ≡ (fits first g && agree f g)
      by true e =
          let id : f.id ≡ g.id = (bytes_eq-Decides f.id g.id).0 e in
          twice (fits first g) (agree f g) (ap (λ n. fits_first (first n) g.segments) (sym id) ∙ ap (λ o. fits_first o g.segments) h ∙ ap (λ us. same_segments us g.segments) (same_is ss f.segments k) ∙ sym (alike g e))
      by false e = and_yes (fits first g) (agree f g) (others g e)

  -- the file is the first of its id
  adds : (next : List ℕ → Option Stored) → first f.id ≡ None → ((n : List ℕ) → next n ≡ cond (bytes_eq f.id n) (Some f.segments) (first n)) → (g : FileSpec) → fits next g ≡ (fits first g && agree f g)
  adds next h k g = by (bytes_eq f.id g.id) refl
    where
      by : (b : Bool) → bytes_eq f.id g.id ≡ b → fits next g ≡ (fits first g && agree f g)
      by true e =
          let id : f.id ≡ g.id = (bytes_eq-Decides f.id g.id).0 e in
          let now : fits next g ≡ same_segments f.segments g.segments = ap (λ o. fits_first o g.segments) (k g.id ∙ ap (λ b. cond b (Some f.segments) (first g.id)) e) in
          let was : fits first g ≡ true = ap (λ n. fits_first (first n) g.segments) (sym id) ∙ ap (λ o. fits_first o g.segments) h in
          now ∙ sym (alike g e) ∙ ap (λ b. b && agree f g) (sym was)
      by false e =
          ap (λ o. fits_first o g.segments) (k g.id ∙ ap (λ b. cond b (Some f.segments) (first g.id)) e)
          ∙ and_yes (fits first g) (agree f g) (others g e)

-- before any file
pub none_yet : (firsts : BTreeMap (Bor (List ℕ)) (Bor Stored)) (fs : List FileSpec) → firsts.entries ≡ [] → all_agree fs ≡ settled (looked_up firsts) fs
none_yet firsts fs h = ap (λ b. b && all_agree fs) (sym (all_fit fs))
  where
    nothing : (id : List ℕ) → looked_up firsts id ≡ None
    nothing id = ap (λ es. option_map (λ b. b.now) (lookup (is_at (λ k. slice_cmp nat_cmp id k.now)) es)) h

    all_fit : (gs : List FileSpec) → list_all (fits (looked_up firsts)) gs ≡ true
    all_fit [] = refl
    all_fit (g ∷ gs) = ap (λ o. fits_first o g.segments && list_all (fits (looked_up firsts)) gs) (nothing g.id) ∙ all_fit gs

module _ (fs : List FileSpec) (i : ℕ) (f : FileSpec) (lt : i < length fs) (at : f ≡ get_or fs i f) (firsts : BTreeMap (Bor (List ℕ)) (Bor Stored))
    (inv : all_agree fs ≡ settled (looked_up firsts) (drop i fs)) (id : List ℕ) (named : id ≡ f.id) where
  turn : all_agree fs ≡ settled (looked_up firsts) (f ∷ drop (i + 1) fs)
  turn = inv ∙ ap (settled (looked_up firsts)) (drop_more fs i f lt ∙ ap (λ g. g ∷ drop (i + 1) fs) (sym at))

  found : (o : Option (Bor Stored)) → o ≡ get_by (λ k. slice_cmp nat_cmp id k.now) firsts → looked_up firsts f.id ≡ option_map (λ b. b.now) o
  found o h = ap (looked_up firsts) (sym named) ∙ ap (option_map (λ b. b.now)) (sym h)

  pub stops : (b : Bor Stored) → Some b ≡ get_by (λ k. slice_cmp nat_cmp id k.now) firsts → same_segments b.now f.segments ≡ false → false ≡ all_agree fs
  stops b h k = sym (turn ∙ differs (looked_up firsts) f (drop (i + 1) fs) (ap (λ o. fits_first o f.segments) (found (Some b) h) ∙ k))

  pub stays : (b : Bor Stored) → Some b ≡ get_by (λ k. slice_cmp nat_cmp id k.now) firsts → same_segments b.now f.segments ≡ true → all_agree fs ≡ settled (looked_up firsts) (drop (i + 1) fs)
  stays b h k =
      turn ∙ one_more (looked_up firsts) f (looked_up firsts) (drop (i + 1) fs) (ap (λ o. fits_first o f.segments) (found (Some b) h) ∙ k)
      (keeps (looked_up firsts) f b.now (found (Some b) h) k)

  pub joins : (after : BTreeMap (Bor (List ℕ)) (Bor Stored)) (w : Bor Stored) → None ≡ get_by (λ k. slice_cmp nat_cmp id k.now) firsts → w.now ≡ f.segments
      → ((n : List ℕ) → get_by (λ k. slice_cmp nat_cmp n k.now) after ≡ update bytes_eq (λ ds. get_by (λ k. slice_cmp nat_cmp ds k.now) firsts) id (Some w) n)
      → all_agree fs ≡ settled (looked_up after) (drop (i + 1) fs)
  joins after w h is k =
      turn ∙ one_more (looked_up firsts) f (looked_up after) (drop (i + 1) fs) (ap (λ o. fits_first o f.segments) (found None h))
      (adds (looked_up firsts) f (looked_up after) (found None h)
      (λ n. ap (option_map (λ b. b.now)) (k n) ∙ either (bytes_eq id n) (get_by (λ k. slice_cmp nat_cmp n k.now) firsts)
      ∙ ap (λ m. cond (bytes_eq m n) (Some f.segments) (looked_up firsts n)) named))
    where
      either : (b : Bool) (o : Option (Bor Stored)) → option_map (λ b. b.now) (cond b (Some w) o) ≡ cond b (Some f.segments) (option_map (λ b. b.now) o)
      either true o = ap Some is
      either false o = refl
