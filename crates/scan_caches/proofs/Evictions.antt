-- Which pairs go for their use counts.
use Rattle.std.proofs.Common.{◌≡◌, ◌⊎◌, ℕ, zero, suc, ◌+◌, ◌<◌, ◌≤◌, List, [], ◌∷◌, length, Bool, true, false, cond, ◌&&◌, nat_le, nat_eq, Option, Some, None, refl, sym, ap, subst, ◌∙◌, inl, inr, arith}
use Rattle.std.specs.List.{AllByRecursion, IsDistinct}
use Rattle.std.proofs.lemmas.Map.Keys.{IsDistinct-head, IsDistinct-tail}
use Rattle.std.proofs.lemmas.Slice.Eq.{slice_eq-Decides}
use Rattle.std.specs.Option.{option_map_or}
use Rattle.std.specs.Cmp.Lexicographic.{pointwise}
use Rattle.std.proofs.lemmas.Bool.Decides.{nat_tests, Decides-eqb}
use Rattle.std.specs.Map.{keys_of, lookup, lookup_entry, remove_entry}
use Rattle.scan_segments.specs.declared.segment.SegmentKey.{SegmentKey}
use Rattle.scan_segments.specs.Keys.{same_key}
use Rattle.scan_caches.specs.Bounded.{Pair, Uses, weight, least, least_used, fits, without, evicted, trimmed}
use Rattle.scan_caches.proofs.Weights.{key_same, lookup_is, weight-remove, length-remove}

-- all that fit stay
pub evicted-all : (us : Uses) (c n m : ℕ) (es : List Pair) → weight es ≤ c → length es ≤ n → evicted us c n m es ≡ es
evicted-all us c n zero es w l = refl
evicted-all us c n (suc m) [] w l = refl
evicted-all us c n (suc m) (e ∷ es) w l = let a : nat_le (weight (e ∷ es)) c ≡ true = grind (arith, nat_tests) in let b : nat_le (length (e ∷ es)) n ≡ true = grind (arith, nat_tests) in rw (a, b) refl

pub key_refl : (k : SegmentKey) → same_key k k ≡ true
key_refl k =
    let a : pointwise nat_eq k.source_id k.source_id ≡ true = (slice_eq-Decides {E = nat_eq} (λ a b. Decides-eqb a b) k.source_id k.source_id (pointwise nat_eq k.source_id k.source_id) refl).1 refl in
    let b : nat_eq k.segment k.segment ≡ true = (Decides-eqb k.segment k.segment).1 refl in
    rw (a, b) refl

without_all : (k : SegmentKey) (es : List Pair) → AllByRecursion (λ y. same_key k y ≡ false) (keys_of es) → without k es ≡ es
without_all k [] d = refl
without_all k (e ∷ es) d = let ih = without_all k es d.1 in rw d.0 (ap (λ xs. e ∷ xs) ih)

removed_step : (b : Bool) (k : SegmentKey) (e : Pair) (es : List Pair) → same_key k e.0 ≡ b → AllByRecursion (λ y. same_key e.0 y ≡ false) (keys_of es) → remove_entry (same_key k) es ≡ without k es → remove_entry (same_key k) (e ∷ es) ≡ without k (e ∷ es)
removed_step true k e es eq d ih = let apart = subst (λ q. AllByRecursion (λ y. same_key q y ≡ false) (keys_of es)) (sym (key_same k e.0 eq)) d in rw eq (sym (without_all k es apart))
removed_step false k e es eq d ih = rw eq (ap (λ xs. e ∷ xs) ih)

-- of distinct keys one alone goes
pub removed-without : (k : SegmentKey) (es : List Pair) → IsDistinct same_key (keys_of es) → remove_entry (same_key k) es ≡ without k es
removed-without k [] d = refl
removed-without k (e ∷ es) d = removed_step (same_key k e.0) k e es refl (IsDistinct-head same_key e.0 (keys_of es) d) (removed-without k es (IsDistinct-tail same_key e.0 (keys_of es) d))

-- what goes with the pair that is found
pub found-goes : (test : SegmentKey → Bool) (es : List Pair) (b : List ℕ) → lookup test es ≡ Some b → (length b + weight (remove_entry test es) ≡ weight es) × (suc (length (remove_entry test es)) ≡ length es)
found-goes test es b is = go (lookup_entry test es) refl
  where
    go : (o : Option Pair) → lookup_entry test es ≡ o → (length b + weight (remove_entry test es) ≡ weight es) × (suc (length (remove_entry test es)) ≡ length es)
    go None eq = let f : None ≡ Some b = sym (lookup_is test es ∙ ap (λ o. option_map_or (λ p. Some p.1) o None) eq) ∙ is in absurd (cc)
    go (Some e) eq =
        let f : Some e.1 ≡ Some b = sym (lookup_is test es ∙ ap (λ o. option_map_or (λ p. Some p.1) o None) eq) ∙ is in
        let same : e.1 ≡ b = cc in
        (subst (λ x. length x + weight (remove_entry test es) ≡ weight es) same (weight-remove test es e eq), length-remove test es e eq)

and_false : (a : Bool) → (a && false) ≡ false
and_false true = refl
and_false false = refl

not_fits : (c n : ℕ) (es : List Pair) → (c < weight es) ⊎ (n < length es) → fits c n es ≡ false
not_fits c n es (inl heavy) = let no : nat_le (weight es) c ≡ false = grind (arith, nat_tests) in rw no refl
not_fits c n es (inr long) = let no : nat_le (length es) n ≡ false = grind (arith, nat_tests) in rw no (and_false (nat_le (weight es) c))

-- where the pairs do not fit, the one of the least count goes first
pub trimmed-goes : (us : Uses) (c n : ℕ) (es : List Pair) (k : SegmentKey) (b : List ℕ) → IsDistinct same_key (keys_of es) → (c < weight es) ⊎ (n < length es) → least_used us es ≡ Some k → lookup (same_key k) es ≡ Some b → trimmed us c n (remove_entry (same_key k) es) ≡ trimmed us c n es
trimmed-goes us c n [] k b d over is there = absurd (cc)
trimmed-goes us c n (e ∷ es) k b d over is there =
    let same : least us e.0 es ≡ k = cc in
    let no = not_fits c n (e ∷ es) over in
    let q = (found-goes (same_key k) (e ∷ es) b there).1 in
    let m : length (remove_entry (same_key k) (e ∷ es)) ≡ length es = omega arith in
    ap (λ j. evicted us c n j (remove_entry (same_key k) (e ∷ es))) m
    ∙ ap (evicted us c n (length es)) (removed-without k (e ∷ es) d ∙ ap (λ j. without j (e ∷ es)) (sym same))
    ∙ sym (ap (λ t. cond t (e ∷ es) (evicted us c n (length es) (without (least us e.0 es) (e ∷ es)))) no)

pub trimmed-all : (us : Uses) (c n : ℕ) (es : List Pair) → weight es ≤ c → length es ≤ n → trimmed us c n es ≡ es
trimmed-all us c n es w l = evicted-all us c n (length es) es w l

absent_cons : (test : SegmentKey → Bool) (e : Pair) (es : List Pair) → test e.0 ≡ false → lookup_entry test es ≡ None → lookup_entry test (e ∷ es) ≡ None
absent_cons test e es apart none = rw apart none

gone_step : (b : Bool) (k : SegmentKey) (e : Pair) (es : List Pair) → same_key k e.0 ≡ b → lookup_entry (same_key k) (without k es) ≡ None → lookup_entry (same_key k) (without k (e ∷ es)) ≡ None
gone_step true k e es eq ih = rw eq ih
gone_step false k e es eq ih = rw eq (absent_cons (same_key k) e (without k es) eq ih)

-- a key that is taken out is not there
pub absent-without : (k : SegmentKey) (es : List Pair) → lookup_entry (same_key k) (without k es) ≡ None
absent-without k [] = refl
absent-without k (e ∷ es) = gone_step (same_key k e.0) k e es refl (absent-without k es)
