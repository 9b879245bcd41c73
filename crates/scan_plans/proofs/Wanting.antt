-- What plans want.
use Rattle.std.proofs.Common.{◌≡◌, ℕ, ◌==◌, ◌+◌, ◌<◌, ◌≤◌, Bool, true, false, ◌||◌, ◌&&◌, List, [], ◌∷◌, ◌++◌, map, length, max, min, refl, ◌∙◌, sym, arith}
use Rattle.std.specs.Prelude.{nat_lt, nat_le, if◌then◌else◌}
use Rattle.std.proofs.lemmas.Bool.Decides.{nat_tests}
use Rattle.std.proofs.lemmas.List.Folds.{list_any-append}
use Rattle.scan_values.specs.DataType.{DataType}
use Rattle.scan_values.specs.Selections.{is_among}
use Rattle.scan_spelling.specs.declared.spelling.Spelling.{Spelling}
use Rattle.scan_spelling.specs.Places.{Place, place_of, places_of}
use Rattle.scan_layout.specs.Touched.{leaf_touched}
use Rattle.scan_plans.specs.PlanTree.{PlanTree, leaf, rows, evaluate, over, constant, lists, lengths, valid, numbers, by_lengths, PlanTrees, no_plans, plan}
use Rattle.scan_plans.specs.Lists.{offset_rows, element_rows}
use Rattle.scan_plans.specs.Came.{Came, arrived}
use Rattle.scan_plans.specs.Meaning.{true_rows}
use Rattle.scan_plans.specs.Wants.{holds_any, leaf_wanted, offsets_wanted, knows_elements, wanted, all_wanted, may, all_may, names_id}
use Rattle.scan_plans.proofs.RowLemmas.{none_of_rows}

or_true : (b : Bool) → (b || true) ≡ true
or_true true = refl
or_true false = refl

-- a fact of either side
pub either : (a b c d : Bool) → (a || b) ≡ true → (a ≡ true → c ≡ true) → (b ≡ true → d ≡ true) → (c || d) ≡ true
either true b c d h f g = rw (f refl) refl
either false b c d h f g = rw (g h) (or_true c)

pub names_append : (id : ℕ) (ps qs : List Place) → names_id id (ps ++ qs) ≡ (names_id id ps || names_id id qs)
names_append id ps qs = list_any-append (λ (p : Place). p.id == id) ps qs

among_append : (id : ℕ) (xs ys : List ℕ) → is_among (xs ++ ys) id ≡ (is_among xs id || is_among ys id)
among_append id xs ys = list_any-append (λ x. x == id) xs ys

one_or_none : (id : ℕ) (b : Bool) (p : Place) → names_id id (if b then p ∷ [] else []) ≡ true → (p.id == id) ≡ true
one_or_none id true p h = by (p.id == id) h
  where
    by : (c : Bool) → (c || false) ≡ true → c ≡ true
    by true e = refl
    by false e = e
one_or_none id false p h = absurd cc

leaf_may : (d : DataType) (s : Spelling) (gs : List (ℕ × ℕ)) (base : ℕ) (is : List ℕ) (id : ℕ) → names_id id (leaf_wanted base (places_of d s gs) is) ≡ true → is_among (map (λ (g : ℕ × ℕ). g.0) gs) id ≡ true
leaf_may d s [] base is id h = h
leaf_may d s (g ∷ gs) base is id h =
    either (names_id id (if holds_any base g.1 is then place_of d s g ∷ [] else [])) (names_id id (leaf_wanted (base + g.1) (places_of d s gs) is)) (g.0 == id) (is_among (map (λ (x : ℕ × ℕ). x.0) gs) id)
    (sym (names_append id (if holds_any base g.1 is then place_of d s g ∷ [] else []) (leaf_wanted (base + g.1) (places_of d s gs) is)) ∙ h)
    (one_or_none id (holds_any base g.1 is) (place_of d s g)) (leaf_may d s gs (base + g.1) is id)

mutual
  pub wants_may : (p : PlanTree) (here : Came) (is : List ℕ) (id : ℕ) → names_id id (wanted p here is) ≡ true → is_among (may p) id ≡ true
  wants_may (leaf d s gs) here is id h = leaf_may d s gs 0 is id h
  wants_may (rows d vs) here is id h = h
  wants_may (evaluate d e p) here is id h = wants_may p here is id h
  wants_may (over d e ps) here is id h = all_may_want ps here is id h
  wants_may (constant d e) here is id h = h
  wants_may (lists d p o) here is id h =
      among_append id (map (λ (g : ℕ × ℕ). g.0) o.segments) (may p)
      ∙ either (names_id id (offsets_wanted o is)) (names_id id (if knows_elements o here is then wanted p here (element_rows o (arrived here) is) else []))
      (is_among (map (λ (g : ℕ × ℕ). g.0) o.segments) id) (is_among (may p) id)
      (sym (names_append id (offsets_wanted o is) (if knows_elements o here is then wanted p here (element_rows o (arrived here) is) else [])) ∙ h)
      (leaf_may o.dtype o.spelling o.segments 0 (offset_rows is) id) (second (knows_elements o here is) (wants_may p here (element_rows o (arrived here) is) id))
    where
      second : (b : Bool) → (names_id id (wanted p here (element_rows o (arrived here) is)) ≡ true → is_among (may p) id ≡ true) → names_id id (if b then wanted p here (element_rows o (arrived here) is) else []) ≡ true → is_among (may p) id ≡ true
      second true f w = f w
      second false f w = absurd cc
  wants_may (lengths o) here is id h = leaf_may o.dtype o.spelling o.segments 0 (offset_rows is) id h
  wants_may (valid p v) here is id h =
      among_append id (may v) (may p) ∙ either (names_id id (wanted v here is)) (names_id id (wanted p here is)) (is_among (may v) id) (is_among (may p) id) (sym (names_append id (wanted v here is) (wanted p here is)) ∙ h) (wants_may v here is id) (wants_may p here is id)
  wants_may (numbers k) here is id h = h
  wants_may (by_lengths d e t f p) here is id h = wants_may p here is id h

  pub all_may_want : (ps : PlanTrees) (here : Came) (is : List ℕ) (id : ℕ) → names_id id (all_wanted ps here is) ≡ true → is_among (all_may ps) id ≡ true
  all_may_want no_plans here is id h = h
  all_may_want (plan p ps) here is id h =
      among_append id (may p) (all_may ps) ∙ either (names_id id (wanted p here is)) (names_id id (all_wanted ps here is)) (is_among (may p) id) (is_among (all_may ps) id) (sym (names_append id (wanted p here is) (all_wanted ps here is)) ∙ h) (wants_may p here is id) (all_may_want ps here is id)

-- a segment that holds a true row of a range meets the range
meets : (base n first : ℕ) (mask : List Bool) (t : Bool) → nat_lt (max base first) (min (base + n) (first + length mask)) ≡ t → holds_any base n (true_rows first mask) ≡ true → t ≡ true
meets base n first mask true e h = refl
meets base n first mask false e h = absurd (let none = none_of_rows (λ i. nat_le base i && nat_lt i (base + n)) first mask (λ i low high. outside i low high) in let z : true ≡ false = sym h ∙ none in cc)
  where
    both : (a b : Bool) → (a ≡ true → b ≡ false) → (a && b) ≡ false
    both true b f = f refl
    both false b f = refl

    outside : (i : ℕ) → first ≤ i → i < first + length mask → (nat_le base i && nat_lt i (base + n)) ≡ false
    outside i low high = both (nat_le base i) (nat_lt i (base + n)) (λ a. grind (arith, nat_tests, e, a, low, high))

pub leaves_touch : (places : List Place) (base first : ℕ) (mask : List Bool) (id : ℕ) → names_id id (leaf_wanted base places (true_rows first mask)) ≡ true → names_id id (leaf_touched base places first (first + length mask)) ≡ true
leaves_touch [] base first mask id h = h
leaves_touch (p ∷ ps) base first mask id h =
    let e = first + length mask in
    let is = true_rows first mask in
    names_append id (if nat_lt (max base first) (min (base + p.rows) e) then p ∷ [] else []) (leaf_touched (base + p.rows) ps first e)
    ∙ either (names_id id (if holds_any base p.rows is then p ∷ [] else [])) (names_id id (leaf_wanted (base + p.rows) ps is)) (names_id id (if nat_lt (max base first) (min (base + p.rows) e) then p ∷ [] else [])) (names_id id (leaf_touched (base + p.rows) ps first e))
    (sym (names_append id (if holds_any base p.rows is then p ∷ [] else []) (leaf_wanted (base + p.rows) ps is)) ∙ h)
    (λ w. held (holds_any base p.rows is) (nat_lt (max base first) (min (base + p.rows) e)) w (meets base p.rows first mask (nat_lt (max base first) (min (base + p.rows) e)) refl))
    (leaves_touch ps (base + p.rows) first mask id)
  where
    held : (b t : Bool) → names_id id (if b then p ∷ [] else []) ≡ true → (b ≡ true → t ≡ true) → names_id id (if t then p ∷ [] else []) ≡ true
    held true true w f = w
    held true false w f = absurd (let z = f refl in cc)
    held false t w f = absurd cc
