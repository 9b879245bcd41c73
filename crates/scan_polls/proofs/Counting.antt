-- How often numbers stand in lists.
use Rattle.std.proofs.Common.{◌≡◌, ◌≤◌, ◌<◌, ◌+◌, ◌==◌, ℕ, zero, suc, Bool, true, false, List, [], ◌∷◌, ◌++◌, length, Some, refl, sym, ap, ◌∙◌, arith}
use Rattle.std.specs.Prelude.{if◌then◌else◌}
use Rattle.std.proofs.lemmas.Bool.Decides.{nat_tests}
use Rattle.std.specs.List.{remove, slice_get, slice_set}
use Rattle.scan_multi_sources.specs.Children.{ChildData, deferred, is_opened, opened}
use Rattle.scan_multi_sources.specs.Files.{SlotData, StageData, slot_data}
use Rattle.scan_multi_sources.specs.Starts.{first_places, places_of}
use Rattle.scan_polls.specs.Due.{places_begun, times}

pub times_append : (k : ℕ) (xs ys : List ℕ) → times k (xs ++ ys) ≡ times k xs + times k ys
times_append k [] ys = omega arith
times_append k (x ∷ xs) ys = go (x == k) (times_append k xs ys)
  where
    go : (b : Bool) → times k (xs ++ ys) ≡ times k xs + times k ys → (if b then suc (times k (xs ++ ys)) else times k (xs ++ ys)) ≡ (if b then suc (times k xs) else times k xs) + times k ys
    go true h = omega (arith, h)
    go false h = h

-- a place before others
pub times_first : (k x : ℕ) (xs : List ℕ) → times k (x ∷ xs) ≡ times k (x ∷ []) + times k xs
times_first k x xs = go (x == k)
  where
    go : (b : Bool) → (if b then suc (times k xs) else times k xs) ≡ (if b then suc 0 else 0) + times k xs
    go true = omega arith
    go false = omega arith

-- without a file that was begun
pub times_removed : (k : ℕ) (ws : List SlotData) (i p : ℕ) (stage : StageData) → slice_get ws i ≡ Some (slot_data p stage) → times k (places_begun ws) ≡ times k (p ∷ []) + times k (places_begun (remove ws i))
times_removed k [] i p stage h = absurd cc
times_removed k (w ∷ ws) zero p stage h = let same : w.place ≡ p = place_is w p stage h in ap (λ (q : ℕ). times k (q ∷ places_begun ws)) same ∙ times_first k p (places_begun ws)
  where
    place_is : (v : SlotData) (q : ℕ) (t : StageData) → Some v ≡ Some (slot_data q t) → v.place ≡ q
    place_is v q t e = let inner : v ≡ slot_data q t = cc in ap (λ (z : SlotData). z.place) inner
times_removed k (w ∷ ws) (suc i) p stage h =
    let rest = times_removed k ws i p stage h in
    let before = times_first k w.place (places_begun ws) in
    let after = times_first k w.place (places_begun (remove ws i)) in
    omega (arith, rest, before, after)

-- a file that is kept stands where it stood
pub places_kept : (ws : List SlotData) (i p : ℕ) (stage next : StageData) → slice_get ws i ≡ Some (slot_data p stage) → places_begun (slice_set ws i (slot_data p next)) ≡ places_begun ws
places_kept [] i p stage next h = absurd cc
places_kept (w ∷ ws) zero p stage next h = let inner : w ≡ slot_data p stage = cc in let same : p ≡ w.place = sym (ap (λ (z : SlotData). z.place) inner) in ap (λ (q : ℕ). q ∷ places_begun ws) same
places_kept (w ∷ ws) (suc i) p stage next h = ap (λ (qs : List ℕ). w.place ∷ qs) (places_kept ws i p stage next h)

-- ---- one place more
pub single : (n k : ℕ) → (n ≡ k → times k (n ∷ []) ≡ 1) × ((n ≡ k → ⊥) → times k (n ∷ []) ≡ 0)
single n k = go (n == k) refl
  where
    go : (d : Bool) → (n == k) ≡ d → (n ≡ k → times k (n ∷ []) ≡ 1) × ((n ≡ k → ⊥) → times k (n ∷ []) ≡ 0)
    go true e = (λ h. rw e refl, λ h. absurd (h (grind (arith, nat_tests, e))))
    go false e = (λ h. absurd (grind (arith, nat_tests, e, h)), λ h. rw e refl)

-- a place more, in front of one of two lists
one_more : (n k : ℕ) (ls bs : List ℕ) (len : ℕ) → (k < suc n → (times k ls ≡ 0) × (times k bs ≡ 0)) → (suc n ≤ k → k < suc n + len → times k ls + times k bs ≡ 1) × (suc n + len ≤ k → times k ls + times k bs ≡ 0)
    → (n ≤ k → k < n + suc len → times k (n ∷ ls) + times k bs ≡ 1) × (n + suc len ≤ k → times k (n ∷ ls) + times k bs ≡ 0)
one_more n k ls bs len low rest = (inside, past)
  where
    inside : n ≤ k → k < n + suc len → times k (n ∷ ls) + times k bs ≡ 1
    inside l m = go (n == k) refl
      where
        go : (d : Bool) → (n == k) ≡ d → times k (n ∷ ls) + times k bs ≡ 1
        go true e =
            let same : n ≡ k = grind (arith, nat_tests, e) in
            let zeros = low (omega (arith, same)) in
            let one = (single n k).0 same in
            let all = times_first k n ls in
            let a = zeros.0 in
            let b = zeros.1 in
            omega (arith, one, all, a, b)
        go false e =
            let apart : n ≡ k → ⊥ = λ same. absurd (grind (arith, nat_tests, e, same)) in
            let none = (single n k).1 apart in
            let all = times_first k n ls in
            let high : suc n ≤ k = grind (arith, nat_tests, e, l) in
            let one = (rest.0) high (omega (arith, m)) in
            omega (arith, none, all, one)

    past : n + suc len ≤ k → times k (n ∷ ls) + times k bs ≡ 0
    past l =
        let apart : n ≡ k → ⊥ = λ same. absurd (omega (arith, l, same)) in
        let none = (single n k).1 apart in
        let all = times_first k n ls in
        let zero_rest = (rest.1) (omega (arith, l)) in
        omega (arith, none, all, zero_rest)

-- ---- the places of files that are opened, or of those that are not
module _ {O : Type 0} where
  places_above : (want : Bool) (cs : List (ChildData O)) (n k : ℕ) → k < n → times k (places_of want cs n) ≡ 0
  places_above want [] n k l = refl
  places_above want (c ∷ cs) n k l = go (is_opened want c) (n == k) refl (places_above want cs (suc n) k (omega (arith, l)))
    where
      go : (b d : Bool) → (n == k) ≡ d → times k (places_of want cs (suc n)) ≡ 0 → times k (if b then n ∷ places_of want cs (suc n) else places_of want cs (suc n)) ≡ 0
      go true true e h = absurd (grind (arith, nat_tests, e, l))
      go true false e h = rw e h
      go false d e h = h

  -- each place of files stands once in the places of those that are opened and of those that are not
  once_from : (cs : List (ChildData O)) (n k : ℕ) → (n ≤ k → k < n + length cs → times k (places_of true cs n) + times k (places_of false cs n) ≡ 1) × (n + length cs ≤ k → times k (places_of true cs n) + times k (places_of false cs n) ≡ 0)
  once_from [] n k = (λ l m. absurd (omega (arith, l, m)), λ l. omega arith)
  once_from (opened m b ∷ cs) n k =
      one_more n k (places_of true cs (suc n)) (places_of false cs (suc n)) (length cs) (λ l. (places_above true cs (suc n) k l, places_above false cs (suc n) k l)) (once_from cs (suc n) k)
  once_from (deferred o b ∷ cs) n k =
      let rest = once_from cs (suc n) k in
      let ts = places_of true cs (suc n) in
      let fs = places_of false cs (suc n) in
      let all = one_more n k fs ts (length cs) (λ l. (places_above false cs (suc n) k l, places_above true cs (suc n) k l)) (λ l m. let e = (rest.0) l m in omega (arith, e), λ l. let e = (rest.1) l in omega (arith, e)) in
      (λ l m. let one = (all.0) l m in omega (arith, one), λ l. let none = (all.1) l in omega (arith, none))

pub stand_once : {O : Type 0} (cs : List (ChildData O)) (k : ℕ) → (k < length cs → times k (first_places cs) ≡ 1) × (length cs ≤ k → times k (first_places cs) ≡ 0)
stand_once cs k =
    let all = once_from cs 0 k in
    let both = times_append k (places_of true cs 0) (places_of false cs 0) in
    (λ l. let one = (all.0) (omega arith) (omega (arith, l)) in omega (arith, one, both), λ l. let none = (all.1) (omega (arith, l)) in omega (arith, none, both))
