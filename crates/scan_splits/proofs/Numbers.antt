-- The numbers of a list, under the functions of lists.
use Rattle.std.proofs.Common.{◌≡◌, ℕ, zero, suc, ◌+◌, ◌<◌, List, [], ◌∷◌, map, length, get_or, filter, Bool, true, false, cond, Option, Some, None, ◌⊎◌, inl, inr, refl, sym, ap, ◌∙◌, subst, arith}
use Rattle.std.specs.List.{Contains, filter_map, cons_option}
use Rattle.std.proofs.lemmas.List.Elements.{Contains-append_right}
use Rattle.scan_splits.specs.RowLists.{SameNumbers, shifted}

pub here : (x : ℕ) (xs : List ℕ) → Contains (x ∷ xs) x
here x xs = (0, omega arith, refl)

pub there : (x : ℕ) (xs : List ℕ) (n : ℕ) → Contains xs n → Contains (x ∷ xs) n
there x xs n h = Contains-append_right (x ∷ []) xs n h

at_place : (x : ℕ) (xs : List ℕ) (n k : ℕ) → k < length (x ∷ xs) → get_or (x ∷ xs) k n ≡ n → (x ≡ n) ⊎ Contains xs n
at_place x xs n zero l e = inl e
at_place x xs n (suc k) l e = inr (k, omega arith, e)

pub first_or_rest : (x : ℕ) (xs : List ℕ) (n : ℕ) → Contains (x ∷ xs) n → (x ≡ n) ⊎ Contains xs n
first_or_rest x xs n h = at_place x xs n h.0 h.1 h.2

pub none_in : {P : Type 0} (n : ℕ) → Contains {X = ℕ} [] n → P
none_in n h = absurd (omega (arith, h.1))

module _ (f : ℕ → ℕ) where
  pub map_from : (xs : List ℕ) (n : ℕ) → Contains (map f xs) n → (m : ℕ) × Contains xs m × (f m ≡ n)
  map_from [] n h = none_in n h
  map_from (x ∷ xs) n h = elim (first_or_rest (f x) (map f xs) n h) [
    | inl e ↦ (x, here x xs, e)
    | inr r ↦ let q = map_from xs n r in (q.0, there x xs q.0 q.1, q.2)
  ]

  pub map_to : (xs : List ℕ) (m : ℕ) → Contains xs m → Contains (map f xs) (f m)
  map_to [] m h = none_in m h
  map_to (x ∷ xs) m h = elim (first_or_rest x xs m h) [
    | inl e ↦ subst (λ z. Contains (f x ∷ map f xs) (f z)) e (here (f x) (map f xs))
    | inr r ↦ there (f x) (map f xs) (f m) (map_to xs m r)
  ]

pub shifted_among : (offset : ℕ) (xs ys : List ℕ) → ((n : ℕ) → Contains xs n → Contains ys n) → (n : ℕ) → Contains (shifted offset xs) n → Contains (shifted offset ys) n
shifted_among offset xs ys among n h =
    let q = map_from (λ row. offset + row) xs n h in
    subst (λ z. Contains (shifted offset ys) z) q.2 (map_to (λ row. offset + row) ys q.0 (among q.0 q.1))

pub same_shifted : (offset : ℕ) (xs ys : List ℕ) → SameNumbers xs ys → SameNumbers (shifted offset xs) (shifted offset ys)
same_shifted offset xs ys same n = (shifted_among offset xs ys (λ m. (same m).0) n, shifted_among offset ys xs (λ m. (same m).1) n)

module _ (p : ℕ → Bool) where
  filter_one : (x : ℕ) (xs : List ℕ) (n : ℕ) (b : Bool) → p x ≡ b → (Contains (filter p xs) n → Contains xs n × (p n ≡ true)) → Contains (cond b (x ∷ filter p xs) (filter p xs)) n → Contains (x ∷ xs) n × (p n ≡ true)
  filter_one x xs n true t rest h = elim (first_or_rest x (filter p xs) n h) [
    | inl e ↦ (subst (λ z. Contains (x ∷ xs) z) e (here x xs), ap p (sym e) ∙ t)
    | inr r ↦ let q = rest r in (there x xs n q.0, q.1)
  ]
  filter_one x xs n false t rest h = let q = rest h in (there x xs n q.0, q.1)

  pub filter_from : (xs : List ℕ) (n : ℕ) → Contains (filter p xs) n → Contains xs n × (p n ≡ true)
  filter_from [] n h = none_in n h
  filter_from (x ∷ xs) n h = filter_one x xs n (p x) refl (filter_from xs n) h

  kept : (x : ℕ) (xs : List ℕ) (n : ℕ) (b : Bool) → p x ≡ b → p n ≡ true → (x ≡ n) ⊎ Contains (filter p xs) n → Contains (cond b (x ∷ filter p xs) (filter p xs)) n
  kept x xs n true t q (inl e) = subst (λ z. Contains (x ∷ filter p xs) z) e (here x (filter p xs))
  kept x xs n true t q (inr r) = there x (filter p xs) n r
  kept x xs n false t q (inl e) = let no : false ≡ true = sym t ∙ ap p e ∙ q in absurd cc
  kept x xs n false t q (inr r) = r

  pub filter_to : (xs : List ℕ) (n : ℕ) → Contains xs n → p n ≡ true → Contains (filter p xs) n
  filter_to [] n h t = none_in n h
  filter_to (x ∷ xs) n h t = kept x xs n (p x) refl t (elim (first_or_rest x xs n h) [ inl e ↦ inl e | inr r ↦ inr (filter_to xs n r t) ])

module _ (g : ℕ → Option ℕ) where
  mapped_one : (x : ℕ) (xs : List ℕ) (n : ℕ) (o : Option ℕ) → g x ≡ o → (Contains (filter_map g xs) n → (m : ℕ) × Contains xs m × (g m ≡ Some n)) → Contains (cons_option o (filter_map g xs)) n → (m : ℕ) × Contains (x ∷ xs) m × (g m ≡ Some n)
  mapped_one x xs n None t rest h = let q = rest h in (q.0, there x xs q.0 q.1, q.2)
  mapped_one x xs n (Some y) t rest h = elim (first_or_rest y (filter_map g xs) n h) [
    | inl e ↦ (x, here x xs, t ∙ ap Some e)
    | inr r ↦ let q = rest r in (q.0, there x xs q.0 q.1, q.2)
  ]

  pub filter_map_from : (xs : List ℕ) (n : ℕ) → Contains (filter_map g xs) n → (m : ℕ) × Contains xs m × (g m ≡ Some n)
  filter_map_from [] n h = none_in n h
  filter_map_from (x ∷ xs) n h = mapped_one x xs n (g x) refl (filter_map_from xs n) h

  mapped_to : (x : ℕ) (xs : List ℕ) (m n : ℕ) (o : Option ℕ) → g x ≡ o → g m ≡ Some n → (x ≡ m) ⊎ Contains (filter_map g xs) n → Contains (cons_option o (filter_map g xs)) n
  mapped_to x xs m n None t q (inl e) = let no : None ≡ Some n = sym t ∙ ap g e ∙ q in absurd cc
  mapped_to x xs m n None t q (inr r) = r
  mapped_to x xs m n (Some y) t q (inl e) = let yes : Some y ≡ Some n = sym t ∙ ap g e ∙ q in let same : y ≡ n = cc in subst (λ z. Contains (y ∷ filter_map g xs) z) same (here y (filter_map g xs))
  mapped_to x xs m n (Some y) t q (inr r) = there y (filter_map g xs) n r

  pub filter_map_to : (xs : List ℕ) (m n : ℕ) → Contains xs m → g m ≡ Some n → Contains (filter_map g xs) n
  filter_map_to [] m n h t = none_in m h
  filter_map_to (x ∷ xs) m n h t = mapped_to x xs m n (g x) refl t (elim (first_or_rest x xs m h) [ inl e ↦ inl e | inr r ↦ inr (filter_map_to xs m n r t) ])
