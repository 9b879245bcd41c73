-- Where nothing lacks, what is read by what has arrived is what every store gives that holds it.
use Rattle.std.proofs.Common.{◌≡◌, ℕ, ◌+◌, ◌-◌, ◌<◌, ◌≤◌, ◌==◌, Bool, true, false, not, ◌||◌, ◌&&◌, List, [], ◌∷◌, ◌++◌, map, Option, Some, None, is_none, refl, ap, ◌∙◌, sym, arith}
use Rattle.std.specs.Prelude.{is_some, nat_lt, nat_le, if◌then◌else◌, option_and_then}
use Rattle.std.specs.List.{list_any}
use Rattle.std.proofs.lemmas.List.Folds.{list_any-append}
use Rattle.std.proofs.lemmas.Bool.Decides.{nat_tests}
use Rattle.std.proofs.lemmas.Bool.{eqb-true, eq-eqb}
use Rattle.scan_values.specs.DataType.{DataType}
use Rattle.scan_values.specs.Marked.{struct}
use Rattle.scan_values.specs.Val.{is_clean}
use Rattle.scan_segments.specs.Source.{Store}
use Rattle.scan_expr.specs.Eval.{eval}
use Rattle.scan_spelling.specs.Spelling.{decode}
use Rattle.scan_spelling.specs.Places.{Place, places_of}
use Rattle.scan_layout.specs.RowValue.{leaf_value, segment_value, item_of, offset_of}
use Rattle.scan_plans.specs.PlanTree.{PlanTree, leaf, rows, evaluate, over, constant, lists, lengths, valid, numbers, by_lengths, PlanTrees, no_plans, plan}
use Rattle.scan_plans.specs.OffsetsData.{OffsetsData, offset_at, offset_places}
use Rattle.scan_plans.specs.Lists.{offset_rows, is_whole, element_rows}
use Rattle.scan_plans.specs.Came.{Came, arrived, Holds}
use Rattle.scan_plans.specs.Meaning.{value_at, values_at, list_at, damage_at, overflow_at, overflow_in}
use Rattle.scan_plans.specs.Wants.{holds_any, leaf_wanted, offsets_wanted, are_here, knows_elements, wanted, all_wanted, names_id, Complete}
use Rattle.scan_plans.proofs.Spans.{among, own_offset, next_offset, own_element, elements_alike}

-- ---- what has arrived
is_here : (o : Option (Option (List ℕ))) → is_none o ≡ false → is_some o ≡ true
is_here None h = cc
is_here (Some x) h = refl

left_false : (a b c : Bool) → ((a || b) && c) ≡ false → a ≡ true → c ≡ false
left_false true b c h e = h
left_false false b c h e = absurd cc

rest_false : (a b c : Bool) → ((a || b) && c) ≡ false → (b && c) ≡ false
rest_false true true c h = h
rest_false true false c h = refl
rest_false false b c h = h

pub complete_here : (ps : List Place) (here : Came) → Complete ps here → are_here ps here ≡ true
complete_here [] here c = refl
complete_here (p ∷ ps) here c =
    let n = left_false (p.id == p.id) (names_id p.id ps) (is_none (here p.id)) (c p.id) (eq-eqb p.id p.id refl) in
    rw (is_here (here p.id) n) (complete_here ps here (λ id. rest_false (p.id == id) (names_id id ps) (is_none (here id)) (c id)))

pub knows_here : (o : OffsetsData) (here : Came) (is : List ℕ) → Complete (offsets_wanted o is) here → knows_elements o here is ≡ true
knows_here o here is c = ap (λ b. is_whole o is || b) (complete_here (offsets_wanted o is) here c) ∙ either_way (is_whole o is)
  where
    either_way : (b : Bool) → (b || true) ≡ true
    either_way true = refl
    either_way false = refl

and_or_left : (a b c : Bool) → ((a || b) && c) ≡ false → (a && c) ≡ false
and_or_left true b c h = h
and_or_left false b c h = refl

and_or_right : (a b c : Bool) → ((a || b) && c) ≡ false → (b && c) ≡ false
and_or_right true true c h = h
and_or_right true false c h = refl
and_or_right false b c h = h

pub complete_left : (ps qs : List Place) (here : Came) → Complete (ps ++ qs) here → Complete ps here
complete_left ps qs here h id = and_or_left (names_id id ps) (names_id id qs) (is_none (here id)) (ap (λ b. b && is_none (here id)) (sym (list_any-append (λ (p : Place). p.id == id) ps qs)) ∙ h id)

pub complete_right : (ps qs : List Place) (here : Came) → Complete (ps ++ qs) here → Complete qs here
complete_right ps qs here h id = and_or_right (names_id id ps) (names_id id qs) (is_none (here id)) (ap (λ b. b && is_none (here id)) (sym (list_any-append (λ (p : Place). p.id == id) ps qs)) ∙ h id)

-- what a complete place holds is what a store has that holds what has arrived
place_same : (p : Place) (here : Came) (store : Store) → Holds store here → Complete (p ∷ []) here → store p.id ≡ arrived here p.id
place_same p here store holds h = by (here p.id) refl (h p.id)
  where
    by : (o : Option (Option (List ℕ))) → here p.id ≡ o → (((p.id == p.id) || false) && is_none o) ≡ false → store p.id ≡ arrived here p.id
    by None e k = absurd (let t : (p.id == p.id) ≡ true = eq-eqb p.id p.id refl in let u : true ≡ false = rw (← (ap (λ b. ((b || false) && true)) t)) k in cc)
    by (Some bytes) e k = holds p.id bytes e ∙ sym (ap (option_and_then (λ b. b)) e)

-- ---- a leaf
among_holds : (base n i : ℕ) (is : List ℕ) → among i is ≡ true → base ≤ i → i < base + n → holds_any base n is ≡ true
among_holds base n i [] h low high = absurd cc
among_holds base n i (j ∷ is) h low high = first (j == i) refl h (λ m. among_holds base n i is m low high)
  where
    inside : (k : ℕ) → k ≡ i → (nat_le base k && nat_lt k (base + n)) ≡ true
    inside k e = let t : nat_le base k ≡ true = grind (arith, nat_tests) in let u : nat_lt k (base + n) ≡ true = grind (arith, nat_tests) in rw (t, u) refl

    or_true : (b : Bool) → (b || true) ≡ true
    or_true true = refl
    or_true false = refl

    first : (b : Bool) → (j == i) ≡ b → (b || among i is) ≡ true → (among i is ≡ true → holds_any base n is ≡ true) → ((nat_le base j && nat_lt j (base + n)) || holds_any base n is) ≡ true
    first true e h later = rw (inside j (eqb-true j i e)) refl
    first false e h later = rw (later h) (or_true (nat_le base j && nat_lt j (base + n)))

leaf_same : (d : DataType) (here : Came) (store : Store) (ps : List Place) (base i : ℕ) (is : List ℕ) → Holds store here → among i is ≡ true → base ≤ i → Complete (leaf_wanted base ps is) here
    → leaf_value d store ps (i - base) ≡ leaf_value d (arrived here) ps (i - base)
leaf_same d here store [] base i is holds h low c = refl
leaf_same d here store (p ∷ ps) base i is holds h low c = by (nat_lt (i - base) p.rows) refl (λ far. leaf_same d here store ps (base + p.rows) i is holds h far (complete_right (if holds_any base p.rows is then p ∷ [] else []) (leaf_wanted (base + p.rows) ps is) here c))
  where
    wanted_here : (b : Bool) → b ≡ true → Complete ((if b then p ∷ [] else []) ++ leaf_wanted (base + p.rows) ps is) here → Complete (p ∷ []) here
    wanted_here true e c = complete_left (p ∷ []) (leaf_wanted (base + p.rows) ps is) here c
    wanted_here false e c = absurd cc

    by : (b : Bool) → nat_lt (i - base) p.rows ≡ b
        → (base + p.rows ≤ i → leaf_value d store ps (i - (base + p.rows)) ≡ leaf_value d (arrived here) ps (i - (base + p.rows)))
        → (if b then segment_value store p (i - base) else leaf_value d store ps ((i - base) - p.rows)) ≡ (if b then segment_value (arrived here) p (i - base) else leaf_value d (arrived here) ps ((i - base) - p.rows))
    by true e later = let short : i - base < p.rows = grind (arith, nat_tests, e) in
        ap (λ o. item_of p.dtype (i - base) (option_and_then (decode p.spelling p.dtype p.rows) o)) (place_same p here store holds (wanted_here (holds_any base p.rows is) (among_holds base p.rows i is h low (omega (arith, short, low))) c))
    by false e later = let far : p.rows ≤ i - base = grind (arith, nat_tests, e) in
        let same : (i - base) - p.rows ≡ i - (base + p.rows) = omega arith in
        rw same (later (omega (arith, far, low)))

-- ---- the offsets of lists
pub offset_same : (o : OffsetsData) (here : Came) (store : Store) (i : ℕ) (is : List ℕ) → Holds store here → among i (offset_rows is) ≡ true → Complete (offsets_wanted o is) here → offset_at o store i ≡ offset_at o (arrived here) i
offset_same o here store i is holds h c = let z : i - 0 ≡ i = omega arith in let e = leaf_same o.dtype here store (offset_places o) 0 i (offset_rows is) holds h (omega arith) c in rw (← z) (ap offset_of e)

-- ---- a plan
mutual
  pub value_same : (p : PlanTree) (here : Came) (store : Store) (i : ℕ) (is : List ℕ) → Holds store here → among i is ≡ true → Complete (wanted p here is) here → value_at p store i ≡ value_at p (arrived here) i
  value_same (leaf d s gs) here store i is holds h c = let z : i - 0 ≡ i = omega arith in let e = leaf_same d here store (places_of d s gs) 0 i is holds h (omega arith) c in rw (← z) e
  value_same (rows d vs) here store i is holds h c = refl
  value_same (evaluate d e p) here store i is holds h c = ap (λ v. eval d e v 0) (value_same p here store i is holds h c)
  value_same (over d e ps) here store i is holds h c = ap (λ vs. eval d e (struct vs) 0) (values_same ps here store i is holds h c)
  value_same (constant d e) here store i is holds h c = refl
  value_same (lists d p o) here store i is holds h c =
      let first = complete_left (offsets_wanted o is) (if knows_elements o here is then wanted p here (element_rows o (arrived here) is) else []) here c in
      let rest : Complete (wanted p here (element_rows o (arrived here) is)) here = second (knows_elements o here is) (knows_here o here is first) (complete_right (offsets_wanted o is) (if knows_elements o here is then wanted p here (element_rows o (arrived here) is) else []) here c) in
      rw (offset_same o here store i is holds (own_offset i is h) first, offset_same o here store (i + 1) is holds (next_offset i is h) first)
      (elements_alike o.elements (offset_at o (arrived here) i) (offset_at o (arrived here) (i + 1)) (λ j. value_at p store j) (λ j. value_at p (arrived here) j)
      (λ a b j x y m low high. value_same p here store j (element_rows o (arrived here) is) holds (own_element o (arrived here) i is a b j h x y m low high) rest))
    where
      second : (b : Bool) → b ≡ true → Complete (if b then wanted p here (element_rows o (arrived here) is) else []) here → Complete (wanted p here (element_rows o (arrived here) is)) here
      second true e w = w
      second false e w = absurd cc
  value_same (lengths o) here store i is holds h c = rw (offset_same o here store i is holds (own_offset i is h) c, offset_same o here store (i + 1) is holds (next_offset i is h) c) refl
  value_same (valid p v) here store i is holds h c =
      rw (value_same v here store i is holds h (complete_left (wanted v here is) (wanted p here is) here c), value_same p here store i is holds h (complete_right (wanted v here is) (wanted p here is) here c)) refl
  value_same (numbers k) here store i is holds h c = refl
  value_same (by_lengths d e t f p) here store i is holds h c = ap (λ v. eval d e v 0) (list_same p here store i is holds h c)

  list_same : (p : PlanTree) (here : Came) (store : Store) (i : ℕ) (is : List ℕ) → Holds store here → among i is ≡ true → Complete (wanted p here is) here → list_at p store i ≡ list_at p (arrived here) i
  list_same (leaf d s gs) here store i is holds h c = refl
  list_same (rows d vs) here store i is holds h c = refl
  list_same (evaluate d e p) here store i is holds h c = refl
  list_same (over d e ps) here store i is holds h c = refl
  list_same (constant d e) here store i is holds h c = refl
  list_same (lists d p o) here store i is holds h c = refl
  list_same (lengths o) here store i is holds h c = rw (offset_same o here store i is holds (own_offset i is h) c, offset_same o here store (i + 1) is holds (next_offset i is h) c) refl
  list_same (valid p v) here store i is holds h c =
      rw (value_same v here store i is holds h (complete_left (wanted v here is) (wanted p here is) here c), list_same p here store i is holds h (complete_right (wanted v here is) (wanted p here is) here c)) refl
  list_same (numbers k) here store i is holds h c = refl
  list_same (by_lengths d e t f p) here store i is holds h c = refl

  pub values_same : (ps : PlanTrees) (here : Came) (store : Store) (i : ℕ) (is : List ℕ) → Holds store here → among i is ≡ true → Complete (all_wanted ps here is) here → values_at ps store i ≡ values_at ps (arrived here) i
  values_same no_plans here store i is holds h c = refl
  values_same (plan p ps) here store i is holds h c =
      rw (value_same p here store i is holds h (complete_left (wanted p here is) (all_wanted ps here is) here c), values_same ps here store i is holds h (complete_right (wanted p here is) (all_wanted ps here is) here c)) refl

mutual
  pub overflow_same : (p : PlanTree) (here : Came) (store : Store) (i : ℕ) (is : List ℕ) → Holds store here → among i is ≡ true → Complete (wanted p here is) here → overflow_at p store i ≡ overflow_at p (arrived here) i
  overflow_same (leaf d s gs) here store i is holds h c = refl
  overflow_same (rows d vs) here store i is holds h c = refl
  overflow_same (evaluate d e p) here store i is holds h c = rw (overflow_same p here store i is holds h c, value_same p here store i is holds h c) refl
  overflow_same (over d e ps) here store i is holds h c = rw (overflows_same ps here store i is holds h c, values_same ps here store i is holds h c) refl
  overflow_same (constant d e) here store i is holds h c = refl
  overflow_same (lists d p o) here store i is holds h c = refl
  overflow_same (lengths o) here store i is holds h c = refl
  overflow_same (valid p v) here store i is holds h c =
      rw (overflow_same v here store i is holds h (complete_left (wanted v here is) (wanted p here is) here c), overflow_same p here store i is holds h (complete_right (wanted v here is) (wanted p here is) here c)) refl
  overflow_same (numbers k) here store i is holds h c = refl
  overflow_same (by_lengths d e t f p) here store i is holds h c = rw (overflow_same p here store i is holds h c, list_same p here store i is holds h c) refl

  pub overflows_same : (ps : PlanTrees) (here : Came) (store : Store) (i : ℕ) (is : List ℕ) → Holds store here → among i is ≡ true → Complete (all_wanted ps here is) here → overflow_in ps store i ≡ overflow_in ps (arrived here) i
  overflows_same no_plans here store i is holds h c = refl
  overflows_same (plan p ps) here store i is holds h c =
      rw (overflow_same p here store i is holds h (complete_left (wanted p here is) (all_wanted ps here is) here c), overflows_same ps here store i is holds h (complete_right (wanted p here is) (all_wanted ps here is) here c)) refl

-- ---- of all rows
among_head : (i : ℕ) (is : List ℕ) → among i (i ∷ is) ≡ true
among_head i is = rw (eq-eqb i i refl) refl

among_tail : (j i : ℕ) (is : List ℕ) → among j is ≡ true → among j (i ∷ is) ≡ true
among_tail j i is h = rw h (or_true (i == j))
  where
    or_true : (b : Bool) → (b || true) ≡ true
    or_true true = refl
    or_true false = refl

map_on : {A : Type 0} (f g : ℕ → A) (is : List ℕ) → ((i : ℕ) → among i is ≡ true → f i ≡ g i) → map f is ≡ map g is
map_on f g [] h = refl
map_on f g (i ∷ is) h = rw (h i (among_head i is)) (ap (λ xs. g i ∷ xs) (map_on f g is (λ j m. h j (among_tail j i is m))))

any_on : (f g : ℕ → Bool) (is : List ℕ) → ((i : ℕ) → among i is ≡ true → f i ≡ g i) → list_any f is ≡ list_any g is
any_on f g [] h = refl
any_on f g (i ∷ is) h = rw (h i (among_head i is)) (ap (λ b. g i || b) (any_on f g is (λ j m. h j (among_tail j i is m))))

pub items_same : (p : PlanTree) (here : Came) (store : Store) (is : List ℕ) → Holds store here → Complete (wanted p here is) here → map (value_at p store) is ≡ map (value_at p (arrived here)) is
items_same p here store is holds c = map_on (value_at p store) (value_at p (arrived here)) is (λ i m. value_same p here store i is holds m c)

pub overflow_on_same : (p : PlanTree) (here : Came) (store : Store) (is : List ℕ) → Holds store here → Complete (wanted p here is) here → list_any (overflow_at p store) is ≡ list_any (overflow_at p (arrived here)) is
overflow_on_same p here store is holds c = any_on (overflow_at p store) (overflow_at p (arrived here)) is (λ i m. overflow_same p here store i is holds m c)

pub damage_on_same : (p : PlanTree) (here : Came) (store : Store) (is : List ℕ) → Holds store here → Complete (wanted p here is) here → list_any (damage_at p store) is ≡ list_any (damage_at p (arrived here)) is
damage_on_same p here store is holds c = any_on (damage_at p store) (damage_at p (arrived here)) is (λ i m. ap (λ v. not (is_clean v)) (value_same p here store i is holds m c))
