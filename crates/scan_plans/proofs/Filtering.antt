-- Filters over a mask.
use Rattle.std.proofs.Common.{◌≡◌, ℕ, zero, suc, ◌==◌, ◌+◌, ◌<◌, Bool, true, false, not, ◌||◌, ◌&&◌, List, [], ◌∷◌, ◌++◌, map, length, drop, get_or, Option, Some, None, is_none, refl, ap, subst, ◌∙◌, sym, arith}
use Rattle.std.specs.Prelude.{if◌then◌else◌, is_some}
use Rattle.std.proofs.lemmas.Bool.{eq-eqb, eqb-true}
use Rattle.std.proofs.lemmas.List.Folds.{list_any-append}
use Rattle.std.specs.List.{list_any}
use Rattle.scan_values.specs.Marked.{Marked, is_true}
use Rattle.scan_values.specs.Arrays.{ArrayData}
use Rattle.scan_values.specs.Masks.{by_rank, true_count}
use Rattle.scan_values.specs.Selections.{is_among}
use Rattle.scan_values.specs.Val.{Val, marked, is_clean, is_clean-marked}
use Rattle.scan_segments.specs.Source.{Store}
use Rattle.scan_spelling.specs.Places.{Place}
use Rattle.scan_splits.specs.Wanted.{is_any}
use Rattle.scan_plans.specs.PlanTree.{PlanTree}
use Rattle.scan_plans.specs.Came.{Came, arrived, Holds}
use Rattle.scan_plans.specs.Given.{AreLacking}
use Rattle.scan_plans.specs.Masks.{Filter, kept, filtered, damaged, spilled, filters_wanted, filters_spoiled, filters_may, AreFilters}
use Rattle.scan_plans.specs.Meaning.{value_at, damage_on, overflow_on, true_rows}
use Rattle.scan_plans.specs.Wants.{wanted, may, are_here, names_id, lacks, Complete, spoils, spoiled}
use Rattle.scan_plans.specs.Knowing.{RunsWell, Reaches, Spills}
use Rattle.scan_plans.specs.Reads.{AreValues}
use Rattle.scan_plans.proofs.Columns.{count_rows}
use Rattle.scan_plans.proofs.Collecting.{lacks_append, spoils_append}
use Rattle.scan_plans.proofs.Giving.{decodes_good}
use Rattle.scan_plans.proofs.Transfer.{complete_here, items_same, damage_on_same, overflow_on_same}

or_false : (b : Bool) → (b || false) ≡ b
or_false true = refl
or_false false = refl

or_true : (b : Bool) → (b || true) ≡ true
or_true true = refl
or_true false = refl

-- ---- the rows that a plan keeps, by its values at the true rows
pub kept_by : (p : PlanTree) (store : Store) (k : ℕ) (bits : List Bool) → kept p store k bits ≡ by_rank bits (map is_true (map (value_at p store) (true_rows k bits)))
kept_by p store k [] = refl
kept_by p store k (true ∷ bits) = ap (λ bs. is_true (value_at p store k) ∷ bs) (kept_by p store (k + 1) bits)
kept_by p store k (false ∷ bits) = ap (λ bs. false ∷ bs) (kept_by p store (k + 1) bits)

pub kept_length : (p : PlanTree) (store : Store) (k : ℕ) (bits : List Bool) → length (kept p store k bits) ≡ length bits
kept_length p store k [] = refl
kept_length p store k (b ∷ bits) = ap suc (kept_length p store (k + 1) bits)

map_map : {A B C : Type 0} (f : B → C) (g : A → B) (xs : List A) → map (λ x. f (g x)) xs ≡ map f (map g xs)
map_map f g [] = refl
map_map f g (x ∷ xs) = ap (λ ys. f (g x) ∷ ys) (map_map f g xs)

pub kept_read : (p : PlanTree) (store : Store) (k : ℕ) (bits : List Bool) (items : List Val) → map marked items ≡ map (value_at p store) (true_rows k bits) → by_rank bits (map (λ v. is_true (marked v)) items) ≡ kept p store k bits
kept_read p store k bits items e = ap (by_rank bits) (map_map is_true marked items ∙ ap (map is_true) e) ∙ sym (kept_by p store k bits)

pub kept_same : (f : Filter) (here : Came) (store : Store) (bits : List Bool) → Holds store here → Complete (wanted f.0 here (true_rows f.1 bits)) here → kept f.0 store f.1 bits ≡ kept f.0 (arrived here) f.1 bits
kept_same f here store bits h c = kept_by f.0 store f.1 bits ∙ ap (λ (vs : List Marked). by_rank bits (map is_true vs)) (items_same f.0 here store (true_rows f.1 bits) h c) ∙ sym (kept_by f.0 (arrived here) f.1 bits)

-- ---- steps

pub reach_next : (here : Came) (bits : List Bool) (fs : List Filter) (n : ℕ) (mid new : List Bool) (f : Filter) → n < length fs → f ≡ get_or fs n f → Reaches here bits fs n mid → RunsWell here mid f → new ≡ kept f.0 (arrived here) f.1 mid → Reaches here bits fs (suc n) new
reach_next here bits [] zero mid new f h e r w k = let z : ⊥ = omega (arith, h) in absurd z
reach_next here bits (g ∷ fs) zero mid new f h e r w k =
    let same : f ≡ g = e in
    (subst (λ (x : Filter). RunsWell here bits x) same (subst (λ (m : List Bool). RunsWell here m f) r w), k ∙ ap (λ (m : List Bool). kept f.0 (arrived here) f.1 m) r ∙ ap (λ (x : Filter). kept x.0 (arrived here) x.1 bits) same)
reach_next here bits [] (suc n) mid new f h e r w k = absurd r
reach_next here bits (g ∷ fs) (suc n) mid new f h e r w k = (r.0, reach_next here (kept g.0 (arrived here) g.1 bits) fs n mid new f (omega (arith, h)) e r.1 w k)

-- ---- what is reached means the same
pub reach_mask : (here : Came) (bits : List Bool) (fs : List Filter) (n : ℕ) (new : List Bool) (store : Store) → Reaches here bits fs n new → Holds store here → filtered store new (drop n fs) ≡ filtered store bits fs
reach_mask here bits fs zero new store r h = ap (λ (m : List Bool). filtered store m fs) r
reach_mask here bits [] (suc n) new store r h = absurd r
reach_mask here bits (f ∷ fs) (suc n) new store r h = reach_mask here (kept f.0 (arrived here) f.1 bits) fs n new store r.1 h ∙ ap (λ (m : List Bool). filtered store m fs) (sym (kept_same f here store bits h (r.0).0))

pub reach_spilled : (here : Came) (bits : List Bool) (fs : List Filter) (n : ℕ) (new : List Bool) (store : Store) → Reaches here bits fs n new → Holds store here → spilled store new (drop n fs) ≡ spilled store bits fs
reach_spilled here bits fs zero new store r h = ap (λ (m : List Bool). spilled store m fs) r
reach_spilled here bits [] (suc n) new store r h = absurd r
reach_spilled here bits (f ∷ fs) (suc n) new store r h =
    let none : overflow_on f.0 store (true_rows f.1 bits) ≡ false = overflow_on_same f.0 here store (true_rows f.1 bits) h (r.0).0 ∙ (r.0).1 in
    reach_spilled here (kept f.0 (arrived here) f.1 bits) fs n new store r.1 h ∙ ap (λ (m : List Bool). spilled store m fs) (sym (kept_same f here store bits h (r.0).0)) ∙ ap (λ b. b || spilled store (kept f.0 store f.1 bits) fs) (sym none)

pub reach_damaged : (here : Came) (bits : List Bool) (fs : List Filter) (n : ℕ) (new : List Bool) (store : Store) → Reaches here bits fs n new → Holds store here → damaged store new (drop n fs) ≡ damaged store bits fs
reach_damaged here bits fs zero new store r h = ap (λ (m : List Bool). damaged store m fs) r
reach_damaged here bits [] (suc n) new store r h = absurd r
reach_damaged here bits (f ∷ fs) (suc n) new store r h =
    let none : damage_on f.0 store (true_rows f.1 bits) ≡ false = damage_on_same f.0 here store (true_rows f.1 bits) h (r.0).0 ∙ (r.0).3 in
    reach_damaged here (kept f.0 (arrived here) f.1 bits) fs n new store r.1 h ∙ ap (λ (m : List Bool). damaged store m fs) (sym (kept_same f here store bits h (r.0).0)) ∙ ap (λ b. b || damaged store (kept f.0 store f.1 bits) fs) (sym none)

pub reach_length : (here : Came) (bits : List Bool) (fs : List Filter) (n : ℕ) (new : List Bool) → Reaches here bits fs n new → length new ≡ length bits
reach_length here bits fs zero new r = ap length r
reach_length here bits [] (suc n) new r = absurd r
reach_length here bits (f ∷ fs) (suc n) new r = reach_length here (kept f.0 (arrived here) f.1 bits) fs n new r.1 ∙ kept_length f.0 (arrived here) f.1 bits

-- what is wanted, of which the filters that ran lack nothing
pub reach_lacks : (here : Came) (bits : List Bool) (fs : List Filter) (n : ℕ) (new : List Bool) (id : ℕ) → Reaches here bits fs n new → lacks (filters_wanted here bits fs) here id ≡ lacks (filters_wanted here new (drop n fs)) here id
reach_lacks here bits fs zero new id r = ap (λ (m : List Bool). lacks (filters_wanted here m fs) here id) (sym r)
reach_lacks here bits [] (suc n) new id r = absurd r
reach_lacks here bits (f ∷ fs) (suc n) new id r =
    let ws = wanted f.0 here (true_rows f.1 bits) in
    lacks_append ws (if are_here ws here then filters_wanted here (kept f.0 (arrived here) f.1 bits) fs else []) here id
    ∙ rw ((r.0).0 id, complete_here ws here (r.0).0) (reach_lacks here (kept f.0 (arrived here) f.1 bits) fs n new id r.1)

-- and of which nothing is bad
pub reach_bad : (here : Came) (bits : List Bool) (fs : List Filter) (n : ℕ) (new : List Bool) (id : ℕ) → Reaches here bits fs n new → spoils (filters_wanted here bits fs) here id ≡ spoils (filters_wanted here new (drop n fs)) here id
reach_bad here bits fs zero new id r = ap (λ (m : List Bool). spoils (filters_wanted here m fs) here id) (sym r)
reach_bad here bits [] (suc n) new id r = absurd r
reach_bad here bits (f ∷ fs) (suc n) new id r =
    let ws = wanted f.0 here (true_rows f.1 bits) in
    spoils_append ws (if are_here ws here then filters_wanted here (kept f.0 (arrived here) f.1 bits) fs else []) here id
    ∙ rw ((r.0).2 id, complete_here ws here (r.0).0) (reach_bad here (kept f.0 (arrived here) f.1 bits) fs n new id r.1)

pub reach_spoils : (here : Came) (bits : List Bool) (fs : List Filter) (n : ℕ) (new : List Bool) (id : ℕ) → Reaches here bits fs n new → filters_spoiled here new (drop n fs) id ≡ true → filters_spoiled here bits fs id ≡ true
reach_spoils here bits fs zero new id r h = ap (λ (m : List Bool). filters_spoiled here m fs id) (sym r) ∙ h
reach_spoils here bits [] (suc n) new id r h = absurd r
reach_spoils here bits (f ∷ fs) (suc n) new id r h =
    let ws = wanted f.0 here (true_rows f.1 bits) in
    let rest = reach_spoils here (kept f.0 (arrived here) f.1 bits) fs n new id r.1 h in
    rw (complete_here ws here (r.0).0, rest) (or_true (spoiled f.0 here (true_rows f.1 bits) id))

pub reach_may : (here : Came) (bits : List Bool) (fs : List Filter) (n : ℕ) (new : List Bool) (id : ℕ) → Reaches here bits fs n new → is_among (filters_may (drop n fs)) id ≡ true → is_among (filters_may fs) id ≡ true
reach_may here bits fs zero new id r h = h
reach_may here bits [] (suc n) new id r h = absurd r
reach_may here bits (f ∷ fs) (suc n) new id r h = list_any-append (λ j. j == id) (may f.0) (filters_may fs) ∙ rw (reach_may here (kept f.0 (arrived here) f.1 bits) fs n new id r.1 h) (or_true (is_among (may f.0) id))

pub filters_at : (n k : ℕ) (fs : List Filter) (f : Filter) → n < length fs → f ≡ get_or fs n f → AreFilters k fs → AreFilters k (f ∷ [])
filters_at zero k [] f h e a = let z : ⊥ = omega (arith, h) in absurd z
filters_at zero k (g ∷ fs) f h e a = subst (λ (x : Filter). AreFilters k (x ∷ [])) (sym e) (a.0, tt)
filters_at (suc n) k [] f h e a = let z : ⊥ = omega (arith, h) in absurd z
filters_at (suc n) k (g ∷ fs) f h e a = filters_at n k fs f (omega (arith, h)) e a.1

pub filters_drop : (n k : ℕ) (fs : List Filter) → AreFilters k fs → AreFilters k (drop n fs)
filters_drop zero k fs a = a
filters_drop (suc n) k [] a = a
filters_drop (suc n) k (f ∷ fs) a = filters_drop n k fs a.1

-- ---- one filter that lacks, or is no good, or overflows
pub not_here : (ps : List Place) (here : Came) (ids : List ℕ) → is_any ids ≡ true → ((id : ℕ) → is_among ids id ≡ lacks ps here id) → are_here ps here ≡ true → ⊥
not_here ps here [] some exact h = absurd cc
not_here ps here (id ∷ ids) some exact h =
    let there : is_among (id ∷ ids) id ≡ true = rw (eq-eqb id id refl) refl in
    let lack : lacks ps here id ≡ true = sym (exact id) ∙ there in
    let none = here_lacks ps here id h in
    let z : true ≡ false = sym lack ∙ none in absurd cc
  where
    and_left : (x y : Bool) → (x && y) ≡ true → x ≡ true
    and_left true y e = refl
    and_left false y e = e

    and_right : (x y : Bool) → (x && y) ≡ true → y ≡ true
    and_right true y e = e
    and_right false y e = absurd cc

    some_none : (o : Option (Option (List ℕ))) → is_some o ≡ true → is_none o ≡ false
    some_none None e = absurd cc
    some_none (Some x) e = refl

    one : (p : Place) (here : Came) (id : ℕ) (b c d : Bool) → (p.id == id) ≡ b → is_some (here p.id) ≡ true → (c && d) ≡ false → is_none (here id) ≡ d → ((b || c) && d) ≡ false
    one p here id true c d e s r w = sym w ∙ some_none (here id) (subst (λ (n : ℕ). is_some (here n) ≡ true) (eqb-true p.id id e) s)
    one p here id false c d e s r w = r

    here_lacks : (ps : List Place) (here : Came) (id : ℕ) → are_here ps here ≡ true → lacks ps here id ≡ false
    here_lacks [] here id h = refl
    here_lacks (p ∷ ps) here id h = one p here id (p.id == id) (names_id id ps) (is_none (here id)) refl (and_left (is_some (here p.id)) (are_here ps here) h) (here_lacks ps here id (and_right (is_some (here p.id)) (are_here ps here) h)) refl

pub first_lacks : (here : Came) (bits : List Bool) (f : Filter) (fs : List Filter) (ids : List ℕ) → AreLacking (wanted f.0 here (true_rows f.1 bits)) here ids → AreLacking (filters_wanted here bits (f ∷ fs)) here ids
first_lacks here bits f fs ids a = by (are_here (wanted f.0 here (true_rows f.1 bits)) here) refl
  where
    by : (b : Bool) → are_here (wanted f.0 here (true_rows f.1 bits)) here ≡ b → AreLacking (wanted f.0 here (true_rows f.1 bits) ++ (if b then filters_wanted here (kept f.0 (arrived here) f.1 bits) fs else [])) here ids
    by true e = absurd (not_here (wanted f.0 here (true_rows f.1 bits)) here ids a.some a.exact e)
    by false e = record {
      some = a.some;
      exact = λ id. a.exact id ∙ sym (lacks_append (wanted f.0 here (true_rows f.1 bits)) [] here id ∙ or_false (lacks (wanted f.0 here (true_rows f.1 bits)) here id));
      good = λ id. spoils_append (wanted f.0 here (true_rows f.1 bits)) [] here id ∙ rw (a.good id) refl;
    }

pub first_spoils : (here : Came) (bits : List Bool) (f : Filter) (fs : List Filter) (id : ℕ) → spoiled f.0 here (true_rows f.1 bits) id ≡ true → filters_spoiled here bits (f ∷ fs) id ≡ true
first_spoils here bits f fs id h = rw h refl

pub first_spills : (here : Came) (bits : List Bool) (f : Filter) (fs : List Filter) → Complete (wanted f.0 here (true_rows f.1 bits)) here → overflow_on f.0 (arrived here) (true_rows f.1 bits) ≡ true → Spills here bits (f ∷ fs)
first_spills here bits f fs c o store h = ap (λ b. b || spilled store (kept f.0 store f.1 bits) fs) (overflow_on_same f.0 here store (true_rows f.1 bits) h c ∙ o)

length-map : {A B : Type 0} (f : A → B) (xs : List A) → length (map f xs) ≡ length xs
length-map f [] = refl
length-map f (x ∷ xs) = ap suc (length-map f xs)

pub values_long : (p : PlanTree) (here : Came) (k : ℕ) (bits : List Bool) (a : ArrayData) → AreValues p here (true_rows k bits) a → length a.items ≡ true_count bits
values_long p here k bits a v = sym (length-map marked a.items) ∙ ap length v.items ∙ length-map (value_at p (arrived here)) (true_rows k bits) ∙ sym (count_rows k bits)

-- values without damage are those of rows without damage
clean_values : (p : PlanTree) (store : Store) (items : List Val) (is : List ℕ) → map marked items ≡ map (value_at p store) is → damage_on p store is ≡ false
clean_values p store items is e = of_rows is ∙ ap (list_any (λ m. not (is_clean m))) (sym e) ∙ none items
  where
    of_rows : (js : List ℕ) → damage_on p store js ≡ list_any (λ m. not (is_clean m)) (map (value_at p store) js)
    of_rows [] = refl
    of_rows (j ∷ js) = ap (λ b. not (is_clean (value_at p store j)) || b) (of_rows js)

    none : (vs : List Val) → list_any (λ m. not (is_clean m)) (map marked vs) ≡ false
    none [] = refl
    none (v ∷ vs) = rw (is_clean-marked v) (none vs)

pub ran_well : (p : PlanTree) (here : Came) (k : ℕ) (bits : List Bool) (a : ArrayData) (new : List Bool) → Complete (wanted p here (true_rows k bits)) here
    → AreValues p here (true_rows k bits) a → new ≡ by_rank bits (map (λ v. is_true (marked v)) a.items)
    → RunsWell here bits (p, k) × (new ≡ kept p (arrived here) k bits)
ran_well p here k bits a new c v e = ((c, v.within, decodes_good (wanted p here (true_rows k bits)) here v.found, clean_values p (arrived here) a.items (true_rows k bits) v.items), e ∙ kept_read p (arrived here) k bits a.items v.items)
