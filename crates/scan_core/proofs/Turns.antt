-- The order in which conjuncts run.
use Rattle.std.proofs.Common.{◌≡◌, ℕ, suc, ◌+◌, Bool, true, false, ◌||◌, ◌&&◌, List, [], ◌∷◌, ◌++◌, length, refl, ap, sym, subst, ◌∙◌, cond}
use Rattle.std.specs.Prelude.{filter, not}
use Rattle.scan_values.specs.Marked.{is_true}
use Rattle.scan_segments.specs.Source.{Store}
use Rattle.scan_expr.specs.Bound.{Bound}
use Rattle.scan_readers.specs.Evaluations.{rows_true}
use Rattle.scan_readers.specs.PlanOf.{may_want, may_spoil}
use Rattle.scan_readers.specs.Readers.{ReaderState, numbers_alone, value_of}
use Rattle.scan_core.specs.SplitMeaning.{passed, has_true, rows_may_want, split_may_want, rows_may_spoil, split_may_spoil, in_turn}

-- those over row numbers alone, and the others
abbrev pub numbered : ReaderState → List Bound → List Bound
numbered s cs = filter (λ (c : Bound). numbers_alone s c.expr) cs

abbrev pub others : ReaderState → List Bound → List Bound
others s cs = filter (λ (c : Bound). not (numbers_alone s c.expr)) cs

-- ---- one after another
and_swap : (b x y : Bool) → ((b && x) && y) ≡ ((b && y) && x)
and_swap true true true = refl
and_swap true true false = refl
and_swap true false true = refl
and_swap true false false = refl
and_swap false x y = refl

rows_swap : (s : ReaderState) (c d : Bound) (store : Store) (k : ℕ) (bits : List Bool) → rows_true s c store k (rows_true s d store k bits) ≡ rows_true s d store k (rows_true s c store k bits)
rows_swap s c d store k [] = refl
rows_swap s c d store k (b ∷ bits) =
    rw (and_swap b (is_true (value_of s d store k)) (is_true (value_of s c store k)))
    (ap (λ bs. ((b && is_true (value_of s c store k)) && is_true (value_of s d store k)) ∷ bs) (rows_swap s c d store (k + 1) bits))

passed_swap : (s : ReaderState) (c : Bound) (ds : List Bound) (store : Store) (k : ℕ) (bits : List Bool) → rows_true s c store k (passed s ds store k bits) ≡ passed s ds store k (rows_true s c store k bits)
passed_swap s c [] store k bits = refl
passed_swap s c (d ∷ ds) store k bits = passed_swap s c ds store k (rows_true s d store k bits) ∙ ap (passed s ds store k) (rows_swap s c d store k bits)

passed_append : (s : ReaderState) (cs ds : List Bound) (store : Store) (k : ℕ) (bits : List Bool) → passed s (cs ++ ds) store k bits ≡ passed s ds store k (passed s cs store k bits)
passed_append s [] ds store k bits = refl
passed_append s (c ∷ cs) ds store k bits = passed_append s cs ds store k (rows_true s c store k bits)

-- ---- the order changes no row
pub turn_passes : (s : ReaderState) (cs : List Bound) (store : Store) (k : ℕ) (bits : List Bool) → passed s (in_turn s cs) store k bits ≡ passed s cs store k bits
turn_passes s [] store k bits = refl
turn_passes s (c ∷ cs) store k bits = by (numbers_alone s c.expr) (turn_passes s cs store k (rows_true s c store k bits))
  where
    by : (b : Bool) → passed s (in_turn s cs) store k (rows_true s c store k bits) ≡ passed s cs store k (rows_true s c store k bits)
        → passed s (cond b (c ∷ numbered s cs) (numbered s cs) ++ cond (not b) (c ∷ others s cs) (others s cs)) store k bits ≡ passed s cs store k (rows_true s c store k bits)
    by true rest = rest
    by false rest =
        passed_append s (numbered s cs) (c ∷ others s cs) store k bits
        ∙ ap (passed s (others s cs) store k) (passed_swap s c (numbered s cs) store k bits)
        ∙ sym (passed_append s (numbered s cs) (others s cs) store k (rows_true s c store k bits))
        ∙ rest

-- ---- a mask of which each true row is true in another, xs long
abbrev pub Below : List Bool → List Bool → Type 0
Below [] [] = Unit {0}
Below [] (b ∷ bs) = ⊥
Below (a ∷ xs) [] = ⊥
Below (a ∷ xs) (b ∷ bs) = (a ≡ true → b ≡ true) × Below xs bs

below_itself : (bs : List Bool) → Below bs bs
below_itself [] = tt
below_itself (b ∷ bs) = (λ h. h, below_itself bs)

below_more : (xs bs cs : List Bool) → Below xs bs → Below bs cs → Below xs cs
below_more [] [] [] h k = tt
below_more [] [] (c ∷ cs) h k = absurd k
below_more [] (b ∷ bs) cs h k = absurd h
below_more (a ∷ xs) [] cs h k = absurd h
below_more (a ∷ xs) (b ∷ bs) [] h k = absurd k
below_more (a ∷ xs) (b ∷ bs) (c ∷ cs) h k = (λ t. k.0 (h.0 t), below_more xs bs cs h.1 k.1)

and_first : (a x : Bool) → (a && x) ≡ true → a ≡ true
and_first true x h = refl
and_first false x h = h

and_mono : (a b x : Bool) → (a ≡ true → b ≡ true) → (a && x) ≡ true → (b && x) ≡ true
and_mono true b x f h = rw (f refl) h
and_mono false b x f h = absurd cc

rows_below : (s : ReaderState) (c : Bound) (store : Store) (k : ℕ) (bits : List Bool) → Below (rows_true s c store k bits) bits
rows_below s c store k [] = tt
rows_below s c store k (b ∷ bits) = (λ h. and_first b (is_true (value_of s c store k)) h, rows_below s c store (k + 1) bits)

rows_mono : (s : ReaderState) (c : Bound) (store : Store) (k : ℕ) (xs bs : List Bool) → Below xs bs → Below (rows_true s c store k xs) (rows_true s c store k bs)
rows_mono s c store k [] [] h = tt
rows_mono s c store k [] (b ∷ bs) h = absurd h
rows_mono s c store k (a ∷ xs) [] h = absurd h
rows_mono s c store k (a ∷ xs) (b ∷ bs) h = (λ t. and_mono a b (is_true (value_of s c store k)) h.0 t, rows_mono s c store (k + 1) xs bs h.1)

passed_below : (s : ReaderState) (cs : List Bound) (store : Store) (k : ℕ) (bits : List Bool) → Below (passed s cs store k bits) bits
passed_below s [] store k bits = below_itself bits
passed_below s (c ∷ cs) store k bits = below_more (passed s cs store k (rows_true s c store k bits)) (rows_true s c store k bits) bits (passed_below s cs store k (rows_true s c store k bits)) (rows_below s c store k bits)

below_length : (xs bs : List Bool) → Below xs bs → length xs ≡ length bs
below_length [] [] h = refl
below_length [] (b ∷ bs) h = absurd h
below_length (a ∷ xs) [] h = absurd h
below_length (a ∷ xs) (b ∷ bs) h = ap suc (below_length xs bs h.1)

or_mono : (a b x y : Bool) → (a ≡ true → b ≡ true) → (x ≡ true → y ≡ true) → (a || x) ≡ true → (b || y) ≡ true
or_mono true b x y f g h = rw (f refl) refl
or_mono false true x y f g h = refl
or_mono false false x y f g h = g h

below_true : (xs bs : List Bool) → Below xs bs → has_true xs ≡ true → has_true bs ≡ true
below_true [] [] h t = t
below_true [] (b ∷ bs) h t = absurd h
below_true (a ∷ xs) [] h t = absurd h
below_true (a ∷ xs) (b ∷ bs) h t = or_mono a b (has_true xs) (has_true bs) h.0 (below_true xs bs h.1) t

-- ---- a test of an expression up to a row, where a row of a mask is true, and of conjuncts one after another
module _ (s : ReaderState) (store : Store) (k : ℕ) (M : Bound → ℕ → Bool) where
  abbrev pub rows_may : Bound → List Bool → Bool
  rows_may c bits = has_true bits && (not (numbers_alone s c.expr) && M c (k + length bits))

  abbrev pub split_may : List Bound → Bound → List Bool → Bool
  split_may [] e bits = rows_may e bits
  split_may (c ∷ cs) e bits = rows_may c bits || split_may cs e (rows_true s c store k bits)

  -- no more passes it with fewer rows
  fewer_may : (c : Bound) (xs bs : List Bool) → Below xs bs → rows_may c xs ≡ true → rows_may c bs ≡ true
  fewer_may c xs bs h w =
      let long : length bs ≡ length xs = sym (below_length xs bs h) in
      rw long (and_mono (has_true xs) (has_true bs) (not (numbers_alone s c.expr) && M c (k + length xs)) (below_true xs bs h) w)

  none_alone : (c : Bound) (bits : List Bool) → numbers_alone s c.expr ≡ true → rows_may c bits ≡ false
  none_alone c bits e = rw e (by (has_true bits))
    where
      by : (b : Bool) → (b && false) ≡ false
      by true = refl
      by false = refl

  -- those over row numbers alone pass it never
  skip_numbered : (cs ds : List Bound) (e : Bound) (bits : List Bool) → split_may (numbered s cs ++ ds) e bits ≡ split_may ds e (passed s (numbered s cs) store k bits)
  skip_numbered [] ds e bits = refl
  skip_numbered (c ∷ cs) ds e bits = by (numbers_alone s c.expr) refl (λ bs. skip_numbered cs ds e bs)
    where
      by : (b : Bool) → numbers_alone s c.expr ≡ b → ((bs : List Bool) → split_may (numbered s cs ++ ds) e bs ≡ split_may ds e (passed s (numbered s cs) store k bs))
          → split_may (cond b (c ∷ numbered s cs) (numbered s cs) ++ ds) e bits ≡ split_may ds e (passed s (cond b (c ∷ numbered s cs) (numbered s cs)) store k bits)
      by true h rest = ap (λ b. b || split_may (numbered s cs ++ ds) e (rows_true s c store k bits)) (none_alone c bits h) ∙ rest (rows_true s c store k bits)
      by false h rest = rest bits

  -- of the others, under no more rows than those over row numbers leave
  others_may : (cs : List Bound) (e : Bound) (less bits : List Bool) → Below less (passed s (numbered s cs) store k bits) → split_may (others s cs) e less ≡ true → split_may cs e bits ≡ true
  others_may [] e less bits h w = fewer_may e less bits h w
  others_may (c ∷ cs) e less bits h w = by (numbers_alone s c.expr) (λ fewer. others_may cs e fewer (rows_true s c store k bits)) h w
    where
      next : List Bool
      next = rows_true s c store k bits

      later : (b : Bool) → split_may cs e next ≡ true → (b || split_may cs e next) ≡ true
      later true g = refl
      later false g = g

      by : (b : Bool) → ((fewer : List Bool) → Below fewer (passed s (numbered s cs) store k next) → split_may (others s cs) e fewer ≡ true → split_may cs e next ≡ true)
          → Below less (passed s (cond b (c ∷ numbered s cs) (numbered s cs)) store k bits) → split_may (cond (not b) (c ∷ others s cs) (others s cs)) e less ≡ true
          → (rows_may c bits || split_may cs e next) ≡ true
      by true rest h w = later (rows_may c bits) (rest less h w)
      by false rest h w =
          let below = below_more less (passed s (numbered s cs) store k bits) bits h (passed_below s (numbered s cs) store k bits) in
          let under : Below (rows_true s c store k less) (passed s (numbered s cs) store k next) = subst (λ (bs : List Bool). Below (rows_true s c store k less) bs) (passed_swap s c (numbered s cs) store k bits) (rows_mono s c store k less (passed s (numbered s cs) store k bits) h) in
          or_mono (rows_may c less) (rows_may c bits) (split_may (others s cs) e (rows_true s c store k less)) (split_may cs e next) (fewer_may c less bits below) (rest (rows_true s c store k less) under) w

  turn_may : (cs : List Bound) (e : Bound) (bits : List Bool) → split_may (in_turn s cs) e bits ≡ true → split_may cs e bits ≡ true
  turn_may cs e bits w = others_may cs e (passed s (numbered s cs) store k bits) bits (below_itself (passed s (numbered s cs) store k bits)) (sym (skip_numbered cs (others s cs) e bits) ∙ w)

-- ---- the order wants no more
pub want_is : (s : ReaderState) (cs : List Bound) (e : Bound) (store : Store) (k : ℕ) (bits : List Bool) (id : ℕ) → split_may_want s cs e store k bits id ≡ split_may s store k (λ c end. may_want s c store k end id) cs e bits
want_is s [] e store k bits id = refl
want_is s (c ∷ cs) e store k bits id = ap (λ b. rows_may_want s c store k bits id || b) (want_is s cs e store k (rows_true s c store k bits) id)

pub turn_wants : (s : ReaderState) (cs : List Bound) (e : Bound) (store : Store) (k : ℕ) (bits : List Bool) (id : ℕ) → split_may_want s (in_turn s cs) e store k bits id ≡ true → split_may_want s cs e store k bits id ≡ true
turn_wants s cs e store k bits id w = want_is s cs e store k bits id ∙ turn_may s store k (λ c end. may_want s c store k end id) cs e bits (sym (want_is s (in_turn s cs) e store k bits id) ∙ w)

-- ---- nor is more no good
pub spoil_is : (s : ReaderState) (cs : List Bound) (e : Bound) (store : Store) (k : ℕ) (bits : List Bool) (id : ℕ) → split_may_spoil s cs e store k bits id ≡ split_may s store k (λ c end. may_spoil s c store k end id) cs e bits
spoil_is s [] e store k bits id = refl
spoil_is s (c ∷ cs) e store k bits id = ap (λ b. rows_may_spoil s c store k bits id || b) (spoil_is s cs e store k (rows_true s c store k bits) id)

pub turn_spoils : (s : ReaderState) (cs : List Bound) (e : Bound) (store : Store) (k : ℕ) (bits : List Bool) (id : ℕ) → split_may_spoil s (in_turn s cs) e store k bits id ≡ true → split_may_spoil s cs e store k bits id ≡ true
turn_spoils s cs e store k bits id w = spoil_is s cs e store k bits id ∙ turn_may s store k (λ c end. may_spoil s c store k end id) cs e bits (sym (spoil_is s (in_turn s cs) e store k bits id) ∙ w)
