-- Rows that a drive gives as items of an answer, up to the first row that is not clean.
use Rattle.std.proofs.Common.{◌≡◌, ℕ, zero, suc, Bool, true, false, List, [], ◌∷◌, ◌++◌, filter, map, take, refl, sym, ap, subst}
use Rattle.std.specs.Prelude.{if◌then◌else◌}
use Rattle.std.specs.List.{flat_map}
use Rattle.scan_values.specs.DataType.{DataType}
use Rattle.scan_values.specs.Marked.{Marked}
use Rattle.scan_multi.specs.Answer.{Item}
use Rattle.scan_multi.specs.Asked.{Row, item_from, items_from, AreClean, AgreesTo}

-- what is known of each number
abbrev pub Each : (ℕ → Type 0) → List ℕ → Type 0
Each P [] = Unit {0}
Each P (i ∷ is) = P i × Each P is

pub agrees_append : (xs ys : List Row) (ms ns : List Item) → AgreesTo xs ms → AgreesTo ys ns → AgreesTo (xs ++ ys) (ms ++ ns)
agrees_append [] ys ms ns h k = subst (λ z. AgreesTo ys (z ++ ns)) (sym h) k
agrees_append (x ∷ xs) ys [] ns h k = λ c. absurd (h c)
agrees_append (x ∷ xs) ys (m ∷ ms) ns h k = λ c. let s = h c in (s.0, agrees_append xs ys ms ns s.1 k)

-- of clean rows, as many as are taken, the items are the first
pub agrees_take : (n : ℕ) (xs : List Row) (ms : List Item) → AgreesTo xs ms → AreClean (take n xs) → items_from (take n xs) ≡ take n ms
agrees_take zero xs ms h c = refl
agrees_take (suc n) [] ms h c = sym (ap (take (suc n)) h)
agrees_take (suc n) (x ∷ xs) [] h c = absurd (h c.0)
agrees_take (suc n) (x ∷ xs) (m ∷ ms) h c = let s = h c.0 in λ z. sym s.0 z ∷ agrees_take n xs ms s.1 c.1 z

-- clean rows that stand first
pub record Fronts (xs rest : List Row) (ms : List Item) : Type 0 where
  pub later : List Item
  pub is : ms ≡ items_from xs ++ later
  pub agree : AgreesTo rest later

pub agrees_front : (xs rest : List Row) (ms : List Item) → AgreesTo (xs ++ rest) ms → AreClean xs → Fronts xs rest ms
agrees_front [] rest ms h c = record { later = ms; is = refl; agree = h }
agrees_front (x ∷ xs) rest [] h c = absurd (h c.0)
agrees_front (x ∷ xs) rest (m ∷ ms) h c =
    let s = h c.0 in
    let f = agrees_front xs rest ms s.1 c.1 in
    record { later = f.later; is = λ z. s.0 z ∷ f.is z; agree = f.agree }

-- all rows
pub agrees_all : (xs : List Row) (ms : List Item) → AgreesTo xs ms → AreClean xs → items_from xs ≡ ms
agrees_all [] ms h c = sym h
agrees_all (x ∷ xs) [] h c = absurd (h c.0)
agrees_all (x ∷ xs) (m ∷ ms) h c = let s = h c.0 in λ z. sym s.0 z ∷ agrees_all xs ms s.1 c.1 z

-- rows of a file that pass a test, each with its value, where each number gives this
pub agrees_rows : (file : ℕ) (t : DataType) (p : ℕ → Bool) (v : ℕ → Marked) (f : ℕ → List Item) (is : List ℕ) → Each (λ i. f i ≡ (if p i then item_from (file, (i, (t, v i))) ∷ [] else [])) is
    → AgreesTo (map (λ x. (file, x)) (map (λ i. (i, (t, v i))) (filter p is))) (flat_map f is)
agrees_rows file t p v f [] h = refl
agrees_rows file t p v f (i ∷ is) h = go (p i) h.0 (agrees_rows file t p v f is h.1)
  where
    go : (b : Bool) → f i ≡ (if b then item_from (file, (i, (t, v i))) ∷ [] else [])
        → AgreesTo (map (λ x. (file, x)) (map (λ j. (j, (t, v j))) (filter p is))) (flat_map f is)
        → AgreesTo (map (λ x. (file, x)) (map (λ j. (j, (t, v j))) (if b then i ∷ filter p is else filter p is))) (f i ++ flat_map f is)
    go true e rest = subst (λ z. AgreesTo ((file, (i, (t, v i))) ∷ map (λ x. (file, x)) (map (λ j. (j, (t, v j))) (filter p is))) (z ++ flat_map f is)) (sym e) (λ c. (refl, rest))
    go false e rest = subst (λ z. AgreesTo (map (λ x. (file, x)) (map (λ j. (j, (t, v j))) (filter p is))) (z ++ flat_map f is)) (sym e) rest
