-- A walk over filters.
use Rattle.std.proofs.Common.{◌≡◌, ℕ, zero, suc, ◌+◌, ◌<◌, ◌≤◌, Bool, true, false, List, [], ◌∷◌, ◌++◌, map, length, take, ◌-◌, drop, get_or, Option, Some, None, Ok, Err, refl, ap, subst, ◌∙◌, sym, arith}
use Rattle.std.proofs.lemmas.List.{drop_all}
use Rattle.scan_values.specs.Fits.{is_bool_type}
use Rattle.scan_plans.specs.Came.{Came, arrived}
use Rattle.scan_plans.specs.Given.{AreLacking}
use Rattle.scan_values.specs.Selections.{is_among}
use Rattle.scan_plans.specs.Masks.{Filter as Seen, MaskData, mask_data, AreFilters, IsMask, SameMask, filters_wanted, filters_spoiled, filters_may, filtered, damaged, spilled, kept}
use Rattle.scan_plans.specs.MaskLists.{can_run, first_runs}
use Rattle.scan_plans.specs.Meaning.{Within, plan_dtype, true_rows}
use Rattle.scan_plans.specs.MaskView.{filter_of, filters_of}
use Rattle.scan_plans.specs.Knowing.{Reaches, Runs, RunsAll, FirstLacks, Lacking, Knows}
use Rattle.scan_plans.specs.Wants.{wanted, are_here, lacks, spoils}
use Rattle.scan_plans.specs.declared.fault.ReadFault.{ReadFault}
use Rattle.scan_plans.specs.declared.fault.ReadFault.TheVariants.{Corrupt, Overflow, NoMemory}
use Rattle.scan_plans.specs.declared.mask.Filter.{Filter}
use Rattle.scan_plans.specs.declared.mask.Ran.TheVariants.{Known, Pending}
use Rattle.scan_plans.proofs.Later.{reach_later}
use Rattle.scan_plans.proofs.RowLemmas.{drop_twice}
use Rattle.scan_plans.proofs.Filtering.{reach_next, reach_length, reach_spoils, reach_damaged, reach_spilled, reach_mask, reach_may, reach_lacks, reach_bad, filters_drop, filters_at, not_here, first_lacks, first_spoils, first_spills}

seen_at : (k : ℕ) (fs : List Filter) (f : Filter) → k < length fs → f ≡ get_or fs k f → filter_of f ≡ get_or (filters_of fs) k (filter_of f)
seen_at zero [] f h e = let z : ⊥ = omega (arith, h) in absurd z
seen_at zero (g ∷ fs) f h e = ap filter_of e
seen_at (suc k) [] f h e = let z : ⊥ = omega (arith, h) in absurd z
seen_at (suc k) (g ∷ fs) f h e = seen_at k fs f (omega (arith, h)) e

seen_long : (k : ℕ) (fs : List Filter) → k < length fs → k < length (filters_of fs)
seen_long k [] h = h
seen_long zero (g ∷ fs) h = omega arith
seen_long (suc k) (g ∷ fs) h = let z = seen_long k fs (omega (arith, h)) in omega (arith, z)

seen_drop : (k : ℕ) (fs : List Seen) (f : Seen) → k < length fs → f ≡ get_or fs k f → drop k fs ≡ f ∷ drop (suc k) fs
seen_drop zero [] f h e = let z : ⊥ = omega (arith, h) in absurd z
seen_drop zero (g ∷ fs) f h e = ap (λ x. x ∷ fs) (sym e)
seen_drop (suc k) [] f h e = let z : ⊥ = omega (arith, h) in absurd z
seen_drop (suc k) (g ∷ fs) f h e = seen_drop k fs f (omega (arith, h)) e

pub filter_good : (here : Came) (bits mid : List Bool) (fs : List Filter) (k : ℕ) (f : Filter) → AreFilters (length bits) (filters_of fs) → Reaches here bits (filters_of fs) k mid → k < length fs → f ≡ get_or fs k f
    → Within (filter_of f).0 ((filter_of f).1 + length mid) × (is_bool_type (plan_dtype (filter_of f).0) ≡ true)
filter_good here bits mid fs k f a r h e =
    let one = filters_at k (length bits) (filters_of fs) (filter_of f) (seen_long k fs h) (seen_at k fs f h e) a in
    let long = reach_length here bits (filters_of fs) k mid r in
    (subst (λ (n : ℕ). Within (filter_of f).0 ((filter_of f).1 + n)) (sym long) (one.0).0, (one.0).1)

pub runs_fault : (here : Came) (bits mid : List Bool) (fs : List Filter) (k : ℕ) (f : Filter) (x : ReadFault) → Reaches here bits (filters_of fs) k mid → k < length fs → f ≡ get_or fs k f → Runs here mid (filter_of f) (Err x) → RunsAll here bits (filters_of fs) (Err x)
runs_fault here bits mid fs k f (Corrupt id) r h e w =
    let next = seen_drop k (filters_of fs) (filter_of f) (seen_long k fs h) (seen_at k fs f h e) in
    reach_spoils here bits (filters_of fs) k mid id r (ap (λ (gs : List Seen). filters_spoiled here mid gs id) next ∙ first_spoils here mid (filter_of f) (drop (suc k) (filters_of fs)) id w)
runs_fault here bits mid fs k f Overflow r h e w = λ store holds.
    let next = seen_drop k (filters_of fs) (filter_of f) (seen_long k fs h) (seen_at k fs f h e) in
    sym (reach_spilled here bits (filters_of fs) k mid store r holds) ∙ ap (λ (gs : List Seen). spilled store mid gs) next ∙ first_spills here mid (filter_of f) (drop (suc k) (filters_of fs)) w.0 w.1 store holds
runs_fault here bits mid fs k f NoMemory r h e w = tt

pub runs_pending : (here : Came) (bits mid : List Bool) (fs : List Filter) (k : ℕ) (f : Filter) (ids : List ℕ) → Reaches here bits (filters_of fs) k mid
    → k < length fs → f ≡ get_or fs k f → Runs here mid (filter_of f) (Ok (Pending ids))
    → FirstLacks here mid (drop k (filters_of fs)) ids
runs_pending here bits mid fs k f ids r h e w =
    let next = seen_drop k (filters_of fs) (filter_of f) (seen_long k fs h) (seen_at k fs f h e) in
    subst (λ (gs : List Seen). FirstLacks here mid gs ids) (sym next) w

pub runs_more : (here : Came) (bits mid new : List Bool) (fs : List Filter) (k : ℕ) (f : Filter) → Reaches here bits (filters_of fs) k mid → k < length fs → f ≡ get_or fs k f → Runs here mid (filter_of f) (Ok (Known new)) → Reaches here bits (filters_of fs) (k + 1) new
runs_more here bits mid new fs k f r h e w =
    let up : suc k ≡ k + 1 = omega arith in
    subst (λ (n : ℕ). Reaches here bits (filters_of fs) n new) up (reach_next here bits (filters_of fs) k mid new (filter_of f) (seen_long k fs h) (seen_at k fs f h e) r w.0 w.1)

seen_end : (fs : List Filter) → drop (length fs) (filters_of fs) ≡ []
seen_end [] = refl
seen_end (f ∷ fs) = seen_end fs

pub runs_end : (here : Came) (bits mid : List Bool) (fs : List Filter) (k : ℕ) → Reaches here bits (filters_of fs) k mid → k ≡ length fs → Reaches here bits (filters_of fs) (length fs) mid × (drop (length fs) (filters_of fs) ≡ [])
runs_end here bits mid fs k r e = (subst (λ (n : ℕ). Reaches here bits (filters_of fs) n mid) e r, seen_end fs)

-- ---- a mask future that goes on
pub seen_rest : (n : ℕ) (fs : List Filter) → filters_of (drop n fs) ≡ drop n (filters_of fs)
seen_rest zero fs = refl
seen_rest (suc n) [] = refl
seen_rest (suc n) (f ∷ fs) = seen_rest n fs

reach_within : (here : Came) (bits : List Bool) (fs : List Seen) (n : ℕ) (mid : List Bool) → Reaches here bits fs n mid → n ≤ length fs
reach_within here bits fs zero mid r = omega arith
reach_within here bits [] (suc n) mid r = absurd r
reach_within here bits (f ∷ fs) (suc n) mid r = let z = reach_within here (kept f.0 (arrived here) f.1 bits) fs n mid r.1 in omega (arith, z)

length-map : {A B : Type 0} (f : A → B) (xs : List A) → length (map f xs) ≡ length xs
length-map f [] = refl
length-map f (x ∷ xs) = ap suc (length-map f xs)

length_rest : {A : Type 0} (n : ℕ) (xs : List A) → n ≤ length xs → n + length (drop n xs) ≡ length xs
length_rest zero xs h = omega arith
length_rest (suc n) [] h = let z : ⊥ = omega (arith, h) in absurd z
length_rest (suc n) (x ∷ xs) h = let z = length_rest n xs (omega (arith, h)) in omega (arith, z)

-- so many filters more are among them
pub goes_within : (here : Came) (bits mid : List Bool) (fs : List Filter) (ran n : ℕ) → ran ≤ length fs → Reaches here bits (filters_of (drop ran fs)) n mid → ran + n ≤ length fs
goes_within here bits mid fs ran n h r =
    let z = reach_within here bits (filters_of (drop ran fs)) n mid r in
    let y = length-map filter_of (drop ran fs) in
    let x = length_rest ran fs h in
    omega (arith, z, y, x)

pub rest_moved : (fs : List Filter) (ran n : ℕ) → filters_of (drop (ran + n) fs) ≡ drop n (filters_of (drop ran fs))
rest_moved fs ran n = ap filters_of (sym (drop_twice ran n fs)) ∙ seen_rest n (drop ran fs)

pub goes_form : (here : Came) (bits mid : List Bool) (fs : List Filter) (ran n : ℕ) → AreFilters (length bits) (filters_of (drop ran fs)) → Reaches here bits (filters_of (drop ran fs)) n mid → IsMask (mask_data mid (filters_of (drop (ran + n) fs)))
goes_form here bits mid fs ran n a r =
    subst (λ (gs : List Seen). AreFilters (length mid) gs) (sym (rest_moved fs ran n))
    (subst (λ (k : ℕ). AreFilters k (drop n (filters_of (drop ran fs)))) (sym (reach_length here bits (filters_of (drop ran fs)) n mid r)) (filters_drop n (length bits) (filters_of (drop ran fs)) a))

pub goes_same : (here : Came) (bits mid : List Bool) (fs : List Filter) (ran n : ℕ) → Reaches here bits (filters_of (drop ran fs)) n mid → SameMask here (mask_data mid (filters_of (drop (ran + n) fs))) (mask_data bits (filters_of (drop ran fs)))
goes_same here bits mid fs ran n r = record {
  mask = λ store h. ap (λ (gs : List Seen). filtered store mid gs) (rest_moved fs ran n) ∙ reach_mask here bits (filters_of (drop ran fs)) n mid store r h;
  overflow = λ store h. ap (λ (gs : List Seen). spilled store mid gs) (rest_moved fs ran n) ∙ reach_spilled here bits (filters_of (drop ran fs)) n mid store r h;
  damage = λ store h. ap (λ (gs : List Seen). damaged store mid gs) (rest_moved fs ran n) ∙ reach_damaged here bits (filters_of (drop ran fs)) n mid store r h;
  may = λ id h. reach_may here bits (filters_of (drop ran fs)) n mid id r (ap (λ (gs : List Seen). is_among (filters_may gs) id) (sym (rest_moved fs ran n)) ∙ h);
  lacking = λ more x id. ap (λ (gs : List Seen). lacks (filters_wanted more mid gs) more id) (rest_moved fs ran n) ∙ sym (reach_lacks more bits (filters_of (drop ran fs)) n mid id (reach_later here more x bits (filters_of (drop ran fs)) n mid r));
  spoiling = λ more x id h. reach_spoils more bits (filters_of (drop ran fs)) n mid id (reach_later here more x bits (filters_of (drop ran fs)) n mid r) (ap (λ (gs : List Seen). filters_spoiled more mid gs id) (sym (rest_moved fs ran n)) ∙ h);
  left = (n, rest_moved fs ran n);
}

pub stays_same : (here : Came) (m : MaskData) → SameMask here m m
stays_same here m = record { mask = λ store h. refl; overflow = λ store h. refl; damage = λ store h. refl; may = λ id h. h; lacking = λ more x id. refl; spoiling = λ more x id h. h; left = (0, refl) }

next_lacks : (here : Came) (bits : List Bool) (fs : List Seen) (ids : List ℕ) → FirstLacks here bits fs ids → AreLacking (filters_wanted here bits fs) here ids
next_lacks here bits [] ids l = absurd l
next_lacks here bits (f ∷ fs) ids l = first_lacks here bits f fs ids l

next_stuck : (here : Came) (bits : List Bool) (fs : List Seen) (ids : List ℕ) → FirstLacks here bits fs ids → first_runs here bits fs false ≡ false
next_stuck here bits [] ids l = absurd l
next_stuck here bits (f ∷ fs) ids l = by (are_here (wanted f.0 here (true_rows f.1 bits)) here) refl
  where
    by : (b : Bool) → are_here (wanted f.0 here (true_rows f.1 bits)) here ≡ b → b ≡ false
    by true e = absurd (not_here (wanted f.0 here (true_rows f.1 bits)) here ids l.some l.exact e)
    by false e = refl

pub goes_answer : (here : Came) (bits mid : List Bool) (fs : List Filter) (ran n : ℕ) (o : Option (List ℕ)) → Reaches here bits (filters_of (drop ran fs)) n mid → Lacking here mid (drop n (filters_of (drop ran fs))) o
    → Knows here (mask_data bits (filters_of (drop ran fs))) (mask_data mid (filters_of (drop (ran + n) fs))) (Ok o)
goes_answer here bits mid fs ran n None r l = (
  rest_moved fs ran n ∙ l,
  λ id. reach_lacks here bits (filters_of (drop ran fs)) n mid id r ∙ ap (λ (gs : List Seen). lacks (filters_wanted here mid gs) here id) l,
  λ id. reach_bad here bits (filters_of (drop ran fs)) n mid id r ∙ ap (λ (gs : List Seen). spoils (filters_wanted here mid gs) here id) l,
)
goes_answer here bits mid fs ran n (Some ids) r l =
    let a = next_lacks here mid (drop n (filters_of (drop ran fs))) ids l in record {
      some = a.some;
      exact = λ id. a.exact id ∙ sym (reach_lacks here bits (filters_of (drop ran fs)) n mid id r);
      good = λ id. reach_bad here bits (filters_of (drop ran fs)) n mid id r ∙ a.good id;
    }

-- no filter is left that could run
pub goes_stuck : (here : Came) (mid : List Bool) (fs : List Filter) (ran n : ℕ) (o : Option (List ℕ)) → Lacking here mid (drop n (filters_of (drop ran fs))) o → can_run here (mask_data mid (filters_of (drop (ran + n) fs)) ∷ []) ≡ false
goes_stuck here mid fs ran n None l = ap (λ (gs : List Seen). first_runs here mid gs false) (rest_moved fs ran n ∙ l)
goes_stuck here mid fs ran n (Some ids) l = ap (λ (gs : List Seen). first_runs here mid gs false) (rest_moved fs ran n) ∙ next_stuck here mid (drop n (filters_of (drop ran fs))) ids l

pub none_runs : (here : Came) (m : MaskData) → m.filters ≡ [] → can_run here (m ∷ []) ≡ false
none_runs here m e = ap (λ (gs : List Seen). first_runs here m.known gs false) e

-- where no filter is left the mask is known
pub none_left : (fs : List Filter) (ran : ℕ) → length fs ≤ ran → filters_of (drop ran fs) ≡ []
none_left fs ran h = ap filters_of (drop_all ran fs h)

pub known_already : (here : Came) (m : MaskData) → m.filters ≡ [] → Knows here m m (Ok None)
known_already here m e = (
  e,
  λ id. ap (λ (gs : List Seen). lacks (filters_wanted here m.known gs) here id) e,
  λ id. ap (λ (gs : List Seen). spoils (filters_wanted here m.known gs) here id) e,
)

pub take_rest : {A : Type 0} (n : ℕ) (xs : List A) → take (length xs - n) (drop n xs) ≡ drop n xs
take_rest zero xs = let z : length xs - 0 ≡ length xs = omega arith in ap (λ k. take k xs) z ∙ take_whole xs
  where
    take_whole : {A : Type 0} (ys : List A) → take (length ys) ys ≡ ys
    take_whole [] = refl
    take_whole (y ∷ ys) = ap (λ zs. y ∷ zs) (take_whole ys)
take_rest (suc n) [] = take_none (0 - suc n)
  where
    take_none : {A : Type 0} (k : ℕ) → take {A = A} k [] ≡ []
    take_none zero = refl
    take_none (suc k) = refl
take_rest (suc n) (x ∷ xs) = let z : suc (length xs) - suc n ≡ length xs - n = omega arith in ap (λ k. take k (drop n xs)) z ∙ take_rest n xs

pub goes_length : (here : Came) (bits mid : List Bool) (fs : List Filter) (ran n : ℕ) → Reaches here bits (filters_of (drop ran fs)) n mid → length mid ≡ length bits
goes_length here bits mid fs ran n r = reach_length here bits (filters_of (drop ran fs)) n mid r

-- one filter more
pub more_filters : (n : ℕ) (fs : List Seen) (f : Seen) → AreFilters n fs → Within f.0 (f.1 + n) → is_bool_type (plan_dtype f.0) ≡ true → AreFilters n (fs ++ f ∷ [])
more_filters n [] f a w b = ((w, b), tt)
more_filters n (g ∷ fs) f a w b = (a.0, more_filters n fs f a.1 w b)

drop_snoc : (n : ℕ) (fs : List Filter) (f : Filter) → n ≤ length fs → filters_of (drop n (fs ++ f ∷ [])) ≡ filters_of (drop n fs) ++ filter_of f ∷ []
drop_snoc zero [] f h = refl
drop_snoc zero (g ∷ fs) f h = ap (λ gs. filter_of g ∷ gs) (drop_snoc zero fs f (omega arith))
drop_snoc (suc n) [] f h = let z : ⊥ = omega (arith, h) in absurd z
drop_snoc (suc n) (g ∷ fs) f h = drop_snoc n fs f (omega (arith, h))

pub pushed_rest : (n : ℕ) (fs gs : List Filter) (f : Filter) → n ≤ length fs → gs ≡ fs ++ f ∷ [] → filters_of (drop n gs) ≡ filters_of (drop n fs) ++ filter_of f ∷ []
pushed_rest n fs gs f h e = ap (λ (xs : List Filter). filters_of (drop n xs)) e ∙ drop_snoc n fs f h

pub pushed_within : (n : ℕ) (fs gs : List Filter) (f : Filter) → n ≤ length fs → gs ≡ fs ++ f ∷ [] → n ≤ length gs
pushed_within n fs gs f h e = let z = ap (λ (xs : List Filter). length xs) e ∙ longer fs f in omega (arith, z, h)
  where
    longer : (xs : List Filter) (f : Filter) → length (xs ++ f ∷ []) ≡ length xs + 1
    longer [] f = refl
    longer (x ∷ xs) f = let z = longer xs f in omega (arith, z)
