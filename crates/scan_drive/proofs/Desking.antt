-- The live requests stay those of the desk.
use Rattle.std.proofs.Common.{◌≡◌, ℕ, List, [], ◌∷◌, ◌++◌, Bool, true, false, ◌||◌, cond, eqb, Option, Some, is_some, Result, Ok, Err, OnErr, refl, sym, ap, ◌∙◌, subst, arith}
use Rattle.std.proofs.lemmas.Bool.Decides.{nat_tests}
use Rattle.scan_segments.specs.Source.{none_live}
use Rattle.scan_segments.proofs.LiveSets.{at-id}
use Rattle.scan_values.specs.Selections.{is_among}
use Rattle.scan_splits.specs.Wanted.{no_repeats, is_any}
use Rattle.scan_splits.proofs.Wanting.{distinct-push}
use Rattle.scan_drive.specs.Desks.{Waiters, waiters_at, Agree, Stay, Moves}

pub moved : (id : ℕ) (x : Option (List ℕ)) (d e : Waiters) → Moves id x d e → (q : ℕ) → waiters_at e q ≡ cond (eqb q id) x (waiters_at d q)
moved id x d e m q = m q ∙ ap (λ b. cond b x (waiters_at d q)) (at-id id q)

-- an id whose places are as they were
pub unwritten : (id : ℕ) (places : List ℕ) (d e : Waiters) → waiters_at d id ≡ Some places → Moves id (Some places) d e → Stay d e
unwritten id places d e there m q = moved id (Some places) d e m q ∙ go (eqb q id) refl
  where
    go : (b : Bool) → eqb q id ≡ b → cond b (Some places) (waiters_at d q) ≡ waiters_at d q
    go true k = let same : q ≡ id = grind (arith, nat_tests) in sym there ∙ sym (ap (waiters_at d) same)
    go false k = refl

pub among_snoc : (xs : List ℕ) (y n : ℕ) → is_among (xs ++ y ∷ []) n ≡ (is_among xs n || eqb y n)
among_snoc [] y n = go (eqb y n)
  where
    go : (b : Bool) → (b || false) ≡ b
    go true = refl
    go false = refl
among_snoc (x ∷ xs) y n = rw (among_snoc xs y n) (go (eqb x n) (is_among xs n) (eqb y n))
  where
    go : (a b c : Bool) → (a || (b || c)) ≡ ((a || b) || c)
    go true b c = refl
    go false b c = refl

pub any_snoc : (xs : List ℕ) (y : ℕ) → is_any (xs ++ y ∷ []) ≡ true
any_snoc [] y = refl
any_snoc (x ∷ xs) y = refl

pub no_ids : (d : Waiters) (live : ℕ → Bool) → Agree live d → d ≡ [] → live ≡ none_live
no_ids d live h e i k = (h k ∙ ap (λ x. is_some (waiters_at x k)) e) i

-- one more place
pub pushed : (self ps qs rs : List ℕ) (place : ℕ) → ps ≡ self → qs ≡ ps → rs ≡ qs ++ place ∷ [] → no_repeats ps ≡ true → is_among self place ≡ false → record { distinct : no_repeats rs ≡ true; any : is_any rs ≡ true }
pushed self ps qs rs place v r p d n =
    let e : rs ≡ ps ++ place ∷ [] = p ∙ ap (λ (xs : List ℕ). xs ++ place ∷ []) r in
    let apart : is_among ps place ≡ false = ap (λ (xs : List ℕ). is_among xs place) v ∙ n in
    record { distinct = ap no_repeats e ∙ distinct-push ps place d apart; any = ap is_any e ∙ any_snoc ps place }

module _ {U N : Type 0} where
  -- places that were not added to
  pub kept : (r : Result U N) (id : ℕ) (p q : List ℕ) (d e : Waiters) → waiters_at d id ≡ Some p → OnErr r (q ≡ p) → Moves id (Some q) d e → OnErr r (Stay d e)
  kept (Ok x) id p q d e there is m = tt
  kept (Err x) id p q d e there is m = unwritten id p d e there (subst (λ (y : List ℕ). Moves id (Some y) d e) is m)
