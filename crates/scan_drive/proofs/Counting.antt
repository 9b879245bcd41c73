-- How many ids of a list pass a test, each id counted once.
use Rattle.std.proofs.Common.{◌≡◌, ℕ, ◌+◌, ◌≤◌, List, [], ◌∷◌, Bool, true, false, ◌||◌, cond, eqb, refl, sym, ap, ◌∙◌, arith}
use Rattle.std.proofs.lemmas.Bool.Decides.{nat_tests}
use Rattle.scan_values.specs.Selections.{is_among}
use Rattle.scan_drive.specs.Measures.{distinct}

-- a test, off at one id more
abbrev pub off_at : ℕ → (ℕ → Bool) → ℕ → Bool
off_at id p k = cond (eqb id k) false (p k)

or_right : (a b : Bool) → b ≡ true → (a || b) ≡ true
or_right true b e = refl
or_right false b e = e

pub among_later : (x id : ℕ) (xs : List ℕ) → is_among xs id ≡ true → is_among (x ∷ xs) id ≡ true
among_later x id xs h = or_right (eqb x id) (is_among xs id) h

pub among_head : (x : ℕ) (xs : List ℕ) → is_among (x ∷ xs) x ≡ true
among_head x xs = let is : eqb x x ≡ true = grind (arith, nat_tests) in rw is refl

same : (p : ℕ → Bool) (id : ℕ) (xs : List ℕ) → is_among xs id ≡ false → distinct (off_at id p) xs ≡ distinct p xs
same p id [] n = refl
same p id (x ∷ xs) n = go (same p id xs) (eqb x id) refl (is_among xs id) refl
  where
    go : (is_among xs id ≡ false → distinct (off_at id p) xs ≡ distinct p xs) → (b : Bool) → eqb x id ≡ b → (c : Bool) → is_among xs id ≡ c → distinct (off_at id p) (x ∷ xs) ≡ distinct p (x ∷ xs)
    go ih true e c f = let bad : true ≡ false = rw e at n in absurd cc
    go ih false e true f = let bad : true ≡ false = rw (e, f) at n in absurd cc
    go ih false e false f =
        let off : eqb id x ≡ false = grind (arith, nat_tests) in
        let is : off_at id p x ≡ p x = ap (λ b. cond b false (p x)) off in
        rw (is, ih f) refl

-- it passes one id less
pub one_less : (p : ℕ → Bool) (id : ℕ) (xs : List ℕ) → is_among xs id ≡ true → p id ≡ true → distinct (off_at id p) xs + 1 ≡ distinct p xs
one_less p id [] n on = absurd cc
one_less p id (x ∷ xs) n on = go (λ h. one_less p id xs h on) (eqb x id) refl (is_among xs id) refl
  where
    go : (is_among xs id ≡ true → distinct (off_at id p) xs + 1 ≡ distinct p xs) → (b : Bool) → eqb x id ≡ b → (c : Bool) → is_among xs id ≡ c → distinct (off_at id p) (x ∷ xs) + 1 ≡ distinct p (x ∷ xs)
    go ih true e true f =
        let is : x ≡ id = grind (arith, nat_tests) in
        let at : is_among xs x ≡ true = ap (is_among xs) is ∙ f in
        let step = ih f in
        let here : eqb id x ≡ true = grind (arith, nat_tests) in
        let off : off_at id p x ≡ false = ap (λ b. cond b false (p x)) here in
        let pass : p x ≡ true = ap p is ∙ on in
        rw (off, pass, at) (omega arith)
    go ih true e false f =
        let is : x ≡ id = grind (arith, nat_tests) in
        let at : is_among xs x ≡ false = ap (is_among xs) is ∙ f in
        let rest = same p id xs f in
        let here : eqb id x ≡ true = grind (arith, nat_tests) in
        let off : off_at id p x ≡ false = ap (λ b. cond b false (p x)) here in
        let pass : p x ≡ true = ap p is ∙ on in
        rw (off, pass, at, rest) (omega arith)
    go ih false e c f =
        let there : eqb id x ≡ false = grind (arith, nat_tests) in
        let is : off_at id p x ≡ p x = ap (λ b. cond b false (p x)) there in
        let among : is_among xs id ≡ true = rw e at n in
        let step = ih among in
        rw is (omega arith)

-- where each id that passes the first is among the others and passes the second, no more pass the first
pub no_more : (p q : ℕ → Bool) (xs ys : List ℕ) → ((id : ℕ) → is_among xs id ≡ true → p id ≡ true → (is_among ys id ≡ true) × (q id ≡ true)) → distinct p xs ≤ distinct q ys
no_more p q [] ys h = omega arith
no_more p q (x ∷ xs) ys h = go (λ r k. no_more p r xs ys k) (p x) refl (is_among xs x) refl
  where
    go : ((r : ℕ → Bool) → ((id : ℕ) → is_among xs id ≡ true → p id ≡ true → (is_among ys id ≡ true) × (r id ≡ true)) → distinct p xs ≤ distinct r ys) → (b : Bool) → p x ≡ b → (c : Bool) → is_among xs x ≡ c → distinct p (x ∷ xs) ≤ distinct q ys
    go ih false e c f = let rest = ih q (λ id n m. h id (among_later x id xs n) m) in rw e (omega arith)
    go ih true e true f = let rest = ih q (λ id n m. h id (among_later x id xs n) m) in rw (e, f) (omega arith)
    go ih true e false f =
        let here = h x (among_head x xs) e in
        let less = one_less q x ys here.0 here.1 in
        let rest = ih (off_at x q) (λ id n m. apart id n (h id (among_later x id xs n) m)) in
        rw (e, f) (omega arith)
      where
        apart : (id : ℕ) → is_among xs id ≡ true → (is_among ys id ≡ true) × (q id ≡ true) → (is_among ys id ≡ true) × (off_at x q id ≡ true)
        apart id n k = (k.0, cases (eqb x id) refl)
          where
            cases : (b : Bool) → eqb x id ≡ b → off_at x q id ≡ true
            cases true g = let is : x ≡ id = grind (arith, nat_tests) in let bad = sym (ap (is_among xs) is ∙ n) ∙ f in absurd cc
            cases false g = ap (λ b. cond b false (q id)) g ∙ k.1

-- and fewer, where another id passes the second alone
pub fewer : (p q : ℕ → Bool) (xs ys : List ℕ) (k : ℕ) → ((id : ℕ) → is_among xs id ≡ true → p id ≡ true → (is_among ys id ≡ true) × (q id ≡ true)) → is_among ys k ≡ true → q k ≡ true → p k ≡ false → distinct p xs + 1 ≤ distinct q ys
fewer p q xs ys k h n on off =
    let less = one_less q k ys n on in
    let rest = no_more p (off_at k q) xs ys (λ id m e. apart id e (h id m e)) in
    omega arith
  where
    apart : (id : ℕ) → p id ≡ true → (is_among ys id ≡ true) × (q id ≡ true) → (is_among ys id ≡ true) × (off_at k q id ≡ true)
    apart id e h' = (h'.0, cases (eqb k id) refl)
      where
        cases : (b : Bool) → eqb k id ≡ b → off_at k q id ≡ true
        cases true g = let is : k ≡ id = grind (arith, nat_tests) in let bad = sym (ap p is ∙ e) ∙ off in absurd cc
        cases false g = ap (λ b. cond b false (q id)) g ∙ h'.1
