-- How many numbers are not below one: it never rises, and falls past a number that is among them.
use Rattle.std.proofs.Common.{◌≡◌, ℕ, ◌+◌, ◌-◌, ◌^◌, ◌<◌, ◌≤◌, List, [], ◌∷◌, Bool, true, false, nat_le, nat_lt, arith, refl, inl, inr, cond}
use Rattle.std.specs.List.{list_any}
use Rattle.std.specs.Prelude.{◌==◌, ◌||◌, ◌⊎◌, Option, None, Some, if◌then◌else◌}
use Rattle.std.proofs.lemmas.Bool.Decides.{nat_tests}
use Rattle.scan_segments.specs.Outcomes.{outcome_of}
use Rattle.scan_segments.specs.declared.script.Outcome.TheVariants.{Goes, Waits, Fails}
use Rattle.scan_segments.specs.Script.{ScriptState, not_below, left_from, number_after}

pub count_from-later : (k : ℕ) (ps : List ℕ) → not_below (k + 1) ps ≤ not_below k ps
count_from-later k [] = omega arith
count_from-later k (p ∷ ps) = step (nat_le (k + 1) p) (nat_le k p) _ _ (later k p) (count_from-later k ps) where
  later : (k p : ℕ) → nat_le (k + 1) p ≡ true → nat_le k p ≡ true
  later k p h = grind (arith, nat_tests)

  step : (a b : Bool) (m n : ℕ) → (a ≡ true → b ≡ true) → m ≤ n → cond a 1 0 + m ≤ cond b 1 0 + n
  step a b m n f h = grind arith

or-cases : (a b : Bool) → a || b ≡ true → (a ≡ true) ⊎ (b ≡ true)
or-cases true b h = inl refl
or-cases false b h = inr h

pub count_from-past : (k : ℕ) (ps : List ℕ) → list_any (λ y. y == k) ps ≡ true → not_below (k + 1) ps < not_below k ps
count_from-past k [] h = cc
count_from-past k (p ∷ ps) h = elim (or-cases (p == k) _ h) [
  | inl e ↦ here (nat_le (k + 1) p) (nat_le k p) _ _ (past k p e) (at k p e) (count_from-later k ps)
  | inr e ↦ there (nat_le (k + 1) p) (nat_le k p) _ _ (later k p) (count_from-past k ps e)
] where
  past : (k p : ℕ) → (p == k) ≡ true → nat_le (k + 1) p ≡ false
  past k p h = grind (arith, nat_tests)

  at : (k p : ℕ) → (p == k) ≡ true → nat_le k p ≡ true
  at k p h = grind (arith, nat_tests)

  later : (k p : ℕ) → nat_le (k + 1) p ≡ true → nat_le k p ≡ true
  later k p h = grind (arith, nat_tests)

  here : (a b : Bool) (m n : ℕ) → a ≡ false → b ≡ true → m ≤ n → cond a 1 0 + m < cond b 1 0 + n
  here a b m n f g h = grind arith

  there : (a b : Bool) (m n : ℕ) → (a ≡ true → b ≡ true) → m < n → cond a 1 0 + m < cond b 1 0 + n
  there a b m n f h = grind arith

pub left_from-later : (number : Option ℕ) (ps : List ℕ) → left_from (number_after number) ps ≤ left_from number ps
left_from-later None ps = omega arith
left_from-later (Some k) ps = elim (nat_lt k (2 ^ 64 - 1)) as (λ b. left_from (if b then Some (k + 1) else None) ps ≤ not_below k ps) [
  | true ↦ count_from-later k ps
  | false ↦ omega arith
]

pub left_from-past : (k : ℕ) (ps : List ℕ) → list_any (λ y. y == k) ps ≡ true → left_from (number_after (Some k)) ps < left_from (Some k) ps
left_from-past k ps h = elim (nat_lt k (2 ^ 64 - 1)) as (λ b. left_from (if b then Some (k + 1) else None) ps < not_below k ps) [
  | true ↦ count_from-past k ps h
  | false ↦ let e = count_from-past k ps h in omega (arith, e)
]

pub outcome-fails : (s : ScriptState) (k : ℕ) (b : Bool) → s.next ≡ Some k → b ≡ list_any (λ y. y == k) s.failing → b ≡ true → outcome_of s ≡ Fails
outcome-fails s k b e f h = rw (e, ← f, h) refl

pub outcome-waits : (s : ScriptState) (k : ℕ) (b d : Bool) → s.next ≡ Some k → b ≡ list_any (λ y. y == k) s.failing → b ≡ false → d ≡ list_any (λ y. y == k) s.pending → d ≡ true → outcome_of s ≡ Waits
outcome-waits s k b d e f h g i = rw (e, ← f, h, ← g, i) refl

pub outcome-goes : (s : ScriptState) (k : ℕ) (b d : Bool) → s.next ≡ Some k → b ≡ list_any (λ y. y == k) s.failing → b ≡ false → d ≡ list_any (λ y. y == k) s.pending → d ≡ false → outcome_of s ≡ Goes
outcome-goes s k b d e f h g i = rw (e, ← f, h, ← g, i) refl

pub ruleset left_steps = (left_from-later, left_from-past)
