-- Numbers that pass a test, before others.
use Rattle.std.proofs.Common.{◌≡◌, ◌+◌, ◌||◌, ◌&&◌, ℕ, zero, suc, Bool, true, false, List, [], ◌∷◌, ◌++◌, take, Some, refl, sym, ap, ◌∙◌, arith}
use Rattle.std.specs.List.{list_all, list_any, remove, slice_get}
use Rattle.scan_multi_sources.specs.Children.{ChildData, deferred, is_open, opened}
use Rattle.scan_multi_sources.specs.Files.{SlotData, StageData, slot_data}
use Rattle.scan_multi_sources.specs.Starts.{first_places, places_of}
use Rattle.scan_polls.specs.Due.{StandFirst, places_begun}

pub both_false : (a b : Bool) → a ≡ false → b ≡ false → (a || b) ≡ false
both_false true b h k = absurd cc
both_false false b h k = k

pub or_false : (a b : Bool) → (a || b) ≡ false → (a ≡ false) × (b ≡ false)
or_false true b h = absurd cc
or_false false b h = (refl, h)

pub both_true : (a b : Bool) → a ≡ true → b ≡ true → (a && b) ≡ true
both_true true b h k = k
both_true false b h k = absurd cc

pub and_true : (a b : Bool) → (a && b) ≡ true → (a ≡ true) × (b ≡ true)
and_true true b h = (refl, h)
and_true false b h = absurd cc

pub any_same : (p q : ℕ → Bool) → ((k : ℕ) → p k ≡ q k) → (ks : List ℕ) → list_any p ks ≡ list_any q ks
any_same p q h [] = refl
any_same p q h (k ∷ ks) = ap (λ b. b || list_any p ks) (h k) ∙ ap (λ b. q k || b) (any_same p q h ks)

-- the same test
pub first_same : (p q : ℕ → Bool) → ((k : ℕ) → p k ≡ q k) → (ks : List ℕ) → StandFirst q ks → StandFirst p ks
first_same p q h [] f = tt
first_same p q h (k ∷ ks) f = (λ closed. any_same p q h ks ∙ f.0 (sym (h k) ∙ closed), first_same p q h ks f.1)

-- ---- without a file that was begun
module _ (p : ℕ → Bool) where
  fewer : (ws : List SlotData) (i : ℕ) (ks : List ℕ) → list_any p (places_begun ws ++ ks) ≡ false → list_any p (places_begun (remove ws i) ++ ks) ≡ false
  fewer [] zero ks h = h
  fewer [] (suc i) ks h = h
  fewer (w ∷ ws) zero ks h = (or_false (p w.place) (list_any p (places_begun ws ++ ks)) h).1
  fewer (w ∷ ws) (suc i) ks h =
      let both = or_false (p w.place) (list_any p (places_begun ws ++ ks)) h in
      both_false (p w.place) (list_any p (places_begun (remove ws i) ++ ks)) both.0 (fewer ws i ks both.1)

  pub first_removed : (ws : List SlotData) (i : ℕ) (ks : List ℕ) → StandFirst p (places_begun ws ++ ks) → StandFirst p (places_begun (remove ws i) ++ ks)
  first_removed [] zero ks h = h
  first_removed [] (suc i) ks h = h
  first_removed (w ∷ ws) zero ks h = h.1
  first_removed (w ∷ ws) (suc i) ks h = (λ closed. fewer ws i ks (h.0 closed), first_removed ws i ks h.1)

  -- none is left behind one that does not pass, where none stands before it
  pub none_left : (ws : List SlotData) (i k : ℕ) (st : StageData) (ks : List ℕ) → slice_get ws i ≡ Some (slot_data k st) → p k ≡ false → list_any (λ (w : SlotData). p w.place) (take i ws) ≡ false
      → StandFirst p (places_begun ws ++ ks) → list_any p (places_begun (remove ws i) ++ ks) ≡ false
  none_left [] i k st ks g closed b h = absurd cc
  none_left (w ∷ ws) zero k st ks g closed b h = let is : w ≡ slot_data k st = cc in h.0 (ap (λ (z : SlotData). p z.place) is ∙ closed)
  none_left (w ∷ ws) (suc i) k st ks g closed b h =
      let both = or_false (p w.place) (list_any (λ (v : SlotData). p v.place) (take i ws)) b in
      both_false (p w.place) (list_any p (places_begun (remove ws i) ++ ks)) both.0 (none_left ws i k st ks g closed both.1 h.1)

-- ---- the order in which files come
module _ {O : Type 0} (q : ℕ → Bool) where
  -- the test of files from a number on
  abbrev Tests : List (ChildData O) → ℕ → Type 0
  Tests cs n = (j : ℕ) → q (n + j) ≡ is_open cs j

  later : (c : ChildData O) (cs : List (ChildData O)) (n : ℕ) → Tests (c ∷ cs) n → Tests cs (suc n)
  later c cs n h j = let e : suc n + j ≡ n + suc j = omega arith in ap q e ∙ h (suc j)

  here : (c : ChildData O) (cs : List (ChildData O)) (n : ℕ) (b : Bool) → Tests (c ∷ cs) n → is_open (c ∷ cs) 0 ≡ b → q n ≡ b
  here c cs n b h is = let e : n ≡ n + 0 = omega arith in ap q e ∙ h 0 ∙ is

  closed_none : (cs : List (ChildData O)) (n : ℕ) → Tests cs n → list_any q (places_of false cs n) ≡ false
  closed_none [] n h = refl
  closed_none (opened l b ∷ cs) n h = closed_none cs (suc n) (later (opened l b) cs n h)
  closed_none (deferred o b ∷ cs) n h = both_false (q n) (list_any q (places_of false cs (suc n))) (here (deferred o b) cs n false h refl) (closed_none cs (suc n) (later (deferred o b) cs n h))

  opened_all : (cs : List (ChildData O)) (n : ℕ) → Tests cs n → list_all q (places_of true cs n) ≡ true
  opened_all [] n h = refl
  opened_all (opened l b ∷ cs) n h = both_true (q n) (list_all q (places_of true cs (suc n))) (here (opened l b) cs n true h refl) (opened_all cs (suc n) (later (opened l b) cs n h))
  opened_all (deferred o b ∷ cs) n h = opened_all cs (suc n) (later (deferred o b) cs n h)

  closed_first : (cs : List (ChildData O)) (n : ℕ) → Tests cs n → StandFirst q (places_of false cs n)
  closed_first [] n h = tt
  closed_first (opened l b ∷ cs) n h = closed_first cs (suc n) (later (opened l b) cs n h)
  closed_first (deferred o b ∷ cs) n h = (λ closed. closed_none cs (suc n) (later (deferred o b) cs n h), closed_first cs (suc n) (later (deferred o b) cs n h))

  opened_first : (cs : List (ChildData O)) (n : ℕ) (ks : List ℕ) → Tests cs n → StandFirst q ks → StandFirst q (places_of true cs n ++ ks)
  opened_first [] n ks h f = f
  opened_first (opened l b ∷ cs) n ks h f =
      let yes : q n ≡ true = here (opened l b) cs n true h refl in
      (λ closed. let bad : true ≡ false = sym yes ∙ closed in absurd cc, opened_first cs (suc n) ks (later (opened l b) cs n h) f)
  opened_first (deferred o b ∷ cs) n ks h f = opened_first cs (suc n) ks (later (deferred o b) cs n h) f

-- the test of all files
from_start : {O : Type 0} (cs : List (ChildData O)) (j : ℕ) → is_open cs (0 + j) ≡ is_open cs j
from_start cs j = let e : 0 + j ≡ j = omega arith in ap (λ k. is_open cs k) e

pub places_first : {O : Type 0} (cs : List (ChildData O)) → StandFirst (is_open cs) (first_places cs)
places_first cs = opened_first (is_open cs) cs 0 (places_of false cs 0) (from_start cs) (closed_first (is_open cs) cs 0 (from_start cs))

-- the places of files that were handed in opened are theirs, and none of the others is
pub places_opened : {O : Type 0} (cs : List (ChildData O)) → list_all (is_open cs) (places_of true cs 0) ≡ true
places_opened cs = opened_all (is_open cs) cs 0 (from_start cs)

pub places_closed : {O : Type 0} (cs : List (ChildData O)) → list_any (is_open cs) (places_of false cs 0) ≡ false
places_closed cs = closed_none (is_open cs) cs 0 (from_start cs)
