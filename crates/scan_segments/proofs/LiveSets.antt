-- The live ids of a source in memory, as a test.
use Rattle.std.proofs.Common.{◌≡◌, ℕ, List, Bool, true, false, cond, eqb, nat_eq, nat_lt, refl, sym, ap, ◌∙◌, arith, suc, [], ◌∷◌}
use Rattle.std.specs.Ordering.{nat_cmp, is_eq}
use Rattle.std.specs.declared.cmp.Ordering.TheVariants.{Less, Equal, Greater}
use Rattle.std.specs.BTreeMap.{is_at}
use Rattle.std.specs.List.{list_any, Contains}
use Rattle.std.proofs.lemmas.Bool.Decides.{nat_tests}
use Rattle.scan_segments.specs.Source.{has}

pub at-id : (id k : ℕ) → is_at (nat_cmp id) k ≡ eqb k id
at-id id k = go (nat_lt id k) (eqb id k) refl refl
  where
    go : (a b : Bool) → nat_lt id k ≡ a → eqb id k ≡ b → is_eq (cond (nat_lt id k) Less (cond (eqb id k) Equal Greater)) ≡ eqb k id
    go true b p q = let no : eqb k id ≡ false = grind (arith, nat_tests) in rw (p, no) refl
    go false true p q = let yes : eqb k id ≡ true = grind (arith, nat_tests) in rw (p, q, yes) refl
    go false false p q = let no : eqb k id ≡ false = grind (arith, nat_tests) in rw (p, q, no) refl

-- an id that a set has, by either test
pub has-any : (id : ℕ) (ks : List ℕ) → list_any (is_at (nat_cmp id)) ks ≡ has id ks
has-any id ks = ap (λ (f : ℕ → Bool). list_any f ks) (λ i k. at-id id k i)

-- the ids of a set after one was set or taken out
pub set-live : (id : ℕ) (b : Bool) (ks ls : List ℕ) → ((q : ℕ) → list_any (is_at (nat_cmp q)) ls ≡ cond (is_at (nat_cmp id) q) b (list_any (is_at (nat_cmp q)) ks)) → ◌≡◌ {A = ℕ → Bool} (λ q. has q ls) (λ q. cond (nat_eq q id) b (has q ks))
set-live id b ks ls h = λ i q. (sym (has-any q ls) ∙ h q ∙ ap (λ t. cond t b (list_any (is_at (nat_cmp q)) ks)) (at-id id q) ∙ ap (cond (nat_eq q id) b) (has-any q ks)) i

contains_step : (b : Bool) (n x : ℕ) (xs : List ℕ) → eqb x n ≡ b → (has n xs ≡ true → Contains xs n) → has n (x ∷ xs) ≡ true → Contains (x ∷ xs) n
contains_step true n x xs eq ih h = (0, omega arith, grind (arith, nat_tests))
contains_step false n x xs eq ih h = let r = ih (rw eq at h) in let lt = r.1 in (suc r.0, omega arith, r.2)

-- a number that is found is in the list
pub contains : (n : ℕ) (xs : List ℕ) → has n xs ≡ true → Contains xs n
contains n [] h = absurd (cc)
contains n (x ∷ xs) h = contains_step (eqb x n) n x xs refl (λ k. contains n xs k) h
