-- The splits of elements, mapped one by one.
use Rattle.std.proofs.Common.{◌≡◌, ℕ, ◌+◌, ◌<◌, List, [], ◌∷◌, ◌++◌, length, get_or, take, drop, filter, Bool, true, false, cond, nat_eq, Option, Some, None, inl, inr, refl, sym, ap, ◌∙◌, subst, arith}
use Rattle.std.specs.Prelude.{IfSome}
use Rattle.std.specs.List.{Contains, filter_map, cons_option}
use Rattle.std.proofs.lemmas.Bool.Decides.{nat_tests}
use Rattle.std.proofs.lemmas.List.{take_more, take-append-drop}
use Rattle.std.proofs.lemmas.List.Elements.{filter-append, filter_map-append, Contains-append_left, Contains-append_cases, Contains-push}
use Rattle.scan_splits.specs.RowLists.{SameNumbers, shifted, Adds, AddsSome}
use Rattle.scan_splits.specs.ListSplits.{unless_again}
use Rattle.scan_splits.proofs.Numbers.{none_in, first_or_rest, filter_from, filter_to, filter_map_from, filter_map_to, same_shifted, shifted_among}
use Rattle.scan_splits.proofs.Pushing.{adds_then, adds_then_some, adds_same, adds_some_of, shifted-append}

module _ (p : ℕ → Bool) (g : ℕ → Option ℕ) where
  -- the rows that the splits become, of those that pass the test
  abbrev pub kept_rows : List ℕ → List ℕ
  kept_rows es = filter p (filter_map g es)

  kept-append : (xs ys : List ℕ) → kept_rows (xs ++ ys) ≡ kept_rows xs ++ kept_rows ys
  kept-append xs ys = ap (filter p) (filter_map-append g xs ys) ∙ filter-append p (filter_map g xs) (filter_map g ys)

  kept_more : (es : List ℕ) (i e : ℕ) → i < length es → e ≡ get_or es i 0 → kept_rows (take (i + 1) es) ≡ kept_rows (take i es) ++ filter p (cons_option (g e) [])
  kept_more es i e h is = ap kept_rows (take_more es i 0 h ∙ ap (λ x. take i es ++ x ∷ []) (sym is)) ∙ kept-append (take i es) (e ∷ [])

  -- the last row that was met is among the rows so far, where it passes the test
  abbrev pub KnowsLast : List ℕ → Option ℕ → Type 0
  KnowsLast rows last = IfSome last (λ row. p row ≡ true → Contains rows row)

  one_passes : (row : ℕ) (b : Bool) → p row ≡ b → p row ≡ true → cond b (row ∷ []) [] ≡ row ∷ []
  one_passes row true t q = refl
  one_passes row false t q = let no : false ≡ true = sym t ∙ q in absurd cc

  knows_next : (rows : List ℕ) (o : Option ℕ) → KnowsLast (rows ++ filter p (cons_option o [])) o
  knows_next rows None = tt
  knows_next rows (Some row) = λ t. subst (λ xs. Contains (rows ++ xs) row) (sym (one_passes row (p row) refl t)) (Contains-push rows row)

  again : (rows : List ℕ) (row n : ℕ) → (p row ≡ true → Contains rows row) → Contains (rows ++ filter p (row ∷ [])) n → Contains (rows ++ []) n
  again rows row n known h = elim (Contains-append_cases rows (filter p (row ∷ [])) n h) [
    | inl x ↦ Contains-append_left rows [] n x
    | inr y ↦ let q = filter_from p (row ∷ []) n y in elim (first_or_rest row [] n q.0) [
      | inl e ↦ Contains-append_left rows [] n (subst (λ z. Contains rows z) e (known (ap p e ∙ q.1)))
      | inr z ↦ none_in n z
    ]
  ]

  more : (rows : List ℕ) (row n : ℕ) → Contains (rows ++ []) n → Contains (rows ++ filter p (row ∷ [])) n
  more rows row n h = elim (Contains-append_cases rows [] n h) [ inl x ↦ Contains-append_left rows (filter p (row ∷ [])) n x | inr y ↦ none_in n y ]

  by_last : (rows : List ℕ) (other row : ℕ) (b : Bool) → nat_eq other row ≡ b → (p other ≡ true → Contains rows other) → SameNumbers (rows ++ filter p (cond b [] (row ∷ []))) (rows ++ filter p (row ∷ []))
  by_last rows other row true t known =
      let same : other ≡ row = grind (arith, nat_tests) in
      λ n. (more rows row n, again rows row n (λ q. subst (λ z. Contains rows z) same (known (ap p same ∙ q))))
  by_last rows other row false t known = λ n. (λ h. h, λ h. h)

  -- a row that is the last one again is there already
  same_again : (rows : List ℕ) (last o : Option ℕ) → KnowsLast rows last → SameNumbers (rows ++ filter p (unless_again last o)) (rows ++ filter p (cons_option o []))
  same_again rows last None known = λ n. (λ h. h, λ h. h)
  same_again rows None (Some row) known = λ n. (λ h. h, λ h. h)
  same_again rows (Some other) (Some row) known = by_last rows other row (nat_eq other row) refl known

  -- how far the splits of elements are pushed
  pub record Pushed (offset : ℕ) (es : List ℕ) (i : ℕ) (last : Option ℕ) (old now : List ℕ) : Type 0 where
    pub adds : Adds (shifted offset (kept_rows (take i es))) old now
    pub known : KnowsLast (kept_rows (take i es)) last

  pub pushed_more : (offset : ℕ) (es : List ℕ) (i e : ℕ) (last row : Option ℕ) (old now new : List ℕ) → i < length es → e ≡ get_or es i 0 → row ≡ g e → Pushed offset es i last old now
      → Adds (shifted offset (filter p (unless_again last row))) now new → Pushed offset es (i + 1) row old new
  pushed_more offset es i e last row old now new h is to s q =
      let rows = kept_rows (take i es) in
      let next : kept_rows (take (i + 1) es) ≡ rows ++ filter p (cons_option row []) = kept_more es i e h is ∙ ap (λ o. rows ++ filter p (cons_option o [])) (sym to) in
      let all = adds_then (shifted offset rows) (shifted offset (filter p (unless_again last row))) old now new s.adds q in
      let joined = rw (← shifted-append offset rows (filter p (unless_again last row))) at all in
      record {
        adds = rw next (adds_same (shifted offset (rows ++ filter p (unless_again last row))) (shifted offset (rows ++ filter p (cons_option row []))) old new
            (same_shifted offset (rows ++ filter p (unless_again last row)) (rows ++ filter p (cons_option row [])) (same_again rows last row s.known)) joined);
        known = rw next (knows_next rows row);
      }

  whole : (es : List ℕ) (i n : ℕ) → Contains (kept_rows (take i es)) n → Contains (kept_rows es) n
  whole es i n h = subst (λ xs. Contains xs n) (sym (kept-append (take i es) (drop i es)) ∙ ap kept_rows (take-append-drop i es)) (Contains-append_left (kept_rows (take i es)) (kept_rows (drop i es)) n h)

  pub pushed_part : (offset : ℕ) (es : List ℕ) (i e : ℕ) (last row : Option ℕ) (old now new : List ℕ) → i < length es → e ≡ get_or es i 0 → row ≡ g e → Pushed offset es i last old now
      → AddsSome (shifted offset (filter p (unless_again last row))) now new → AddsSome (shifted offset (kept_rows es)) old new
  pushed_part offset es i e last row old now new h is to s q =
      let rows = kept_rows (take i es) in
      let next : kept_rows (take (i + 1) es) ≡ rows ++ filter p (cons_option row []) = kept_more es i e h is ∙ ap (λ o. rows ++ filter p (cons_option o [])) (sym to) in
      let some = adds_then_some (shifted offset rows) (shifted offset (filter p (unless_again last row))) old now new s.adds q in
      let joined = rw (← shifted-append offset rows (filter p (unless_again last row))) at some in
      adds_some_of (shifted offset (rows ++ filter p (unless_again last row))) (shifted offset (kept_rows es)) old new
      (shifted_among offset (rows ++ filter p (unless_again last row)) (kept_rows es) (λ n k. whole es (i + 1) n (rw next ((same_again rows last row s.known n).0 k)))) joined

  -- splits of the same numbers become the same rows
  kept_among : (xs ys : List ℕ) → ((n : ℕ) → Contains xs n → Contains ys n) → (n : ℕ) → Contains (kept_rows xs) n → Contains (kept_rows ys) n
  kept_among xs ys among n h =
      let q = filter_from p (filter_map g xs) n h in
      let r = filter_map_from g xs n q.0 in
      filter_to p (filter_map g ys) n (filter_map_to g ys r.0 n (among r.0 r.1) r.2) q.1

  pub same_kept : (xs ys : List ℕ) → SameNumbers xs ys → SameNumbers (kept_rows xs) (kept_rows ys)
  same_kept xs ys same n = (kept_among xs ys (λ m. (same m).0) n, kept_among ys xs (λ m. (same m).1) n)
