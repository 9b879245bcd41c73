-- What a phase leaves of the slots, where rows were claimed of a budget.
use Rattle.std.proofs.Common.{◌≡◌, ◌<◌, ◌≤◌, ◌+◌, ◌∙◌, ℕ, zero, suc, true, false, List, [], ◌∷◌, length, get_or, drop, set, inl, not, refl, sym, ap, subst, arith, length-set}
use Rattle.std.specs.Prelude.{All}
use Rattle.std.proofs.lemmas.List.Elements.{All-cons, All-head, All-nil, All-tail}
use Rattle.scan_values.specs.Selections.{is_among}
use Rattle.scan_segments.specs.Source.{Store}
use Rattle.scan_splits.specs.Arrivals.{Arrivals}
use Rattle.scan_splits.specs.Wanted.{no_repeats}
use Rattle.scan_drive.specs.Budgets.{BudgetData, IsOpen, IsPhase, GrantsAll, UsesUp}
use Rattle.scan_drive.specs.Claimed.{EachGranted, JobGranted, PhaseGrants}
use Rattle.scan_drive.specs.Looks.{is_wait}
use Rattle.scan_drive.specs.Slots.{HasFresh, IsTrimmed, also_if, nothing, read_rows, slot_at, stage_read}
use Rattle.scan_drive.specs.Splits.{SplitState, Event}
use Rattle.scan_drive.specs.Workers.{AreJobs, IsWithin, JobPolled, listed, places_of, put_back}
use Rattle.scan_drive.specs.declared.slot.Slot.{Slot}
use Rattle.scan_drive.specs.declared.workers.Job.{Job}
use Rattle.scan_drive.proofs.Handing.{among_head, among_later, and_both, at_set_other, not_true}
use Rattle.scan_drive.proofs.Working.{Back, apart, phase_back}

module _ {W I R : Type 0} (items : R → List I) where
  -- ---- slots of which rows were cut
  record Trims (xs ys : List (Slot W R)) : Type 0 where
    len : length ys ≡ length xs
    at : (place : ℕ) → IsTrimmed items (slot_at xs place) (slot_at ys place)

  trims_at : (xs ys : List (Slot W R)) (p q : ℕ) (x y : Slot W R) → length ys ≡ length xs → ((place : ℕ) → IsTrimmed items (slot_at xs place) (slot_at ys place)) → IsTrimmed items x y
      → IsTrimmed items (slot_at (set xs p x) q) (slot_at (set ys p y) q)
  trims_at [] [] p q x y n h t = h q
  trims_at [] (b ∷ ys) p q x y n h t = absurd (let e : suc (length ys) ≡ 0 = n in omega (arith, e))
  trims_at (a ∷ xs) [] p q x y n h t = absurd (let e : 0 ≡ suc (length xs) = n in omega (arith, e))
  trims_at (a ∷ xs) (b ∷ ys) zero zero x y n h t = t
  trims_at (a ∷ xs) (b ∷ ys) zero (suc q) x y n h t = h (suc q)
  trims_at (a ∷ xs) (b ∷ ys) (suc p) zero x y n h t = h 0
  trims_at (a ∷ xs) (b ∷ ys) (suc p) (suc q) x y n h t = trims_at xs ys p q x y (let e : suc (length ys) ≡ suc (length xs) = n in omega (arith, e)) (λ place. h (suc place)) t

  trims_set : (xs ys : List (Slot W R)) (p : ℕ) (x y : Slot W R) → Trims xs ys → IsTrimmed items x y → Trims (set xs p x) (set ys p y)
  trims_set xs ys p x y h t = record { len = length-set ys p y ∙ h.len ∙ sym (length-set xs p x); at = λ q. trims_at xs ys p q x y h.len h.at t }

  trims_none : (xs : List (Slot W R)) → Trims xs xs
  trims_none xs = record { len = refl; at = λ q. inl refl }

  -- ---- how many rows there are
  -- the rows of these splits
  abbrev rows_of : List (Job W R) → ℕ
  rows_of [] = 0
  rows_of (j ∷ jobs) = stage_read items j.slot.stage + rows_of jobs

  one_put : (xs : List (Slot W R)) (p : ℕ) (x : Slot W R) → p < length xs → read_rows items (set xs p x) + stage_read items (slot_at xs p).stage ≡ read_rows items xs + stage_read items x.stage
  one_put [] p x lt = absurd (omega (arith, lt))
  one_put (a ∷ xs) zero x lt = omega arith
  one_put (a ∷ xs) (suc p) x lt =
      let e : read_rows items (set xs p x) + stage_read items (slot_at xs p).stage ≡ read_rows items xs + stage_read items x.stage = one_put xs p x (omega (arith, lt)) in
      omega (arith, e)

  all_put : (jobs : List (Job W R)) (xs : List (Slot W R)) → no_repeats (places_of jobs) ≡ true → All (IsWithin (length xs)) jobs
      → ((q : ℕ) → is_among (places_of jobs) q ≡ true → slot_at xs q ≡ nothing) → read_rows items (put_back jobs xs) ≡ read_rows items xs + rows_of jobs
  all_put [] xs o w h = omega arith
  all_put (j ∷ jobs) xs o w h =
      let p = j.place in
      let parts = and_both (not (is_among (places_of jobs) p)) (no_repeats (places_of jobs)) o in
      let off : is_among (places_of jobs) p ≡ false = not_true (is_among (places_of jobs) p) parts.0 in
      let lt : p < length xs = All-head (IsWithin (length xs)) j jobs w in
      let none : stage_read items (slot_at xs p).stage ≡ 0 = ap (λ (s : Slot W R). stage_read items s.stage) (h p (among_head p (places_of jobs))) in
      let here : read_rows items (set xs p j.slot) + stage_read items (slot_at xs p).stage ≡ read_rows items xs + stage_read items j.slot.stage = one_put xs p j.slot lt in
      let rest : read_rows items (put_back jobs (set xs p j.slot)) ≡ read_rows items (set xs p j.slot) + rows_of jobs =
      all_put jobs (set xs p j.slot) parts.1
      (subst (λ n. All (IsWithin n) jobs) (sym (length-set xs p j.slot)) (All-tail (IsWithin (length xs)) j jobs w))
      (λ q m. at_set_other xs p q j.slot (apart (places_of jobs) p q off m) ∙ h q (among_later p q (places_of jobs) m)) in
      omega (arith, none, here, rest)

module _ {W R : Type 0} where
  -- splits at the same places
  places_within : (count : ℕ) (js ks : List (Job W R)) → places_of ks ≡ places_of js → All (IsWithin count) js → All (IsWithin count) ks
  places_within count js [] e a = All-nil (IsWithin count)
  places_within count [] (k ∷ ks) e a = absurd (let n : suc (length (places_of ks)) ≡ 0 = ap length e in omega (arith, n))
  places_within count (j ∷ js) (k ∷ ks) e a =
      let is : k.place ≡ j.place = ap (λ (xs : List ℕ). get_or xs 0 0) e in
      All-cons (IsWithin count) k ks (subst (λ q. q < count) (sym is) (All-head (IsWithin count) j js a))
      (places_within count js ks (ap (drop 1) e) (All-tail (IsWithin count) j js a))

  -- a split with another slot
  abbrev with_slot : Slot W R → Job W R → Job W R
  with_slot s k = record k { slot = s }

  -- a phase over these slots, and what was put back and listed
  pub record Put (js ks : List (Job W R)) (list list' : List ℕ) (old now new : List (Slot W R)) : Type 0 where
    pub none : list ≡ []
    pub jobs : AreJobs js old now
    pub fresh : HasFresh old (places_of js)
    pub lists : list' ≡ listed ks list
    pub puts : new ≡ put_back ks now

  pub put_as : (js ks given : List (Job W R)) (list list' : List ℕ) (old now new : List (Slot W R)) → list ≡ [] → AreJobs js old now → HasFresh old (places_of js)
      → given ≡ ks → list' ≡ listed given list → new ≡ put_back given now → Put js ks list list' old now new
  put_as js ks given list list' old now new e a h is l s = record {
    none = e;
    jobs = a;
    fresh = h;
    lists = l ∙ ap (λ (xs : List (Job W R)). listed xs list) is;
    puts = s ∙ ap (λ (xs : List (Job W R)). put_back xs now) is;
  }

module _ {W I R : Type 0} (split : W → SplitState I) (comes : W → Arrivals → Store → Event → Type 0) (items : R → List I) where
  -- splits as they were polled, before their rows were claimed
  record Mids (js ks : List (Job W R)) (claimed granted : ℕ) : Type 0 where
    mids : List (Job W R)
    len : length mids ≡ length js
    polled : (i : ℕ) (d : Job W R) → i < length js → JobPolled split comes items (get_or js i d) (get_or mids i d)
    lists : (list : List ℕ) → listed ks list ≡ listed mids list
    trims : (xs ys : List (Slot W R)) → Trims items xs ys → Trims items (put_back mids xs) (put_back ks ys)
    places : places_of ks ≡ places_of js
    rows : rows_of items ks ≡ granted
    within : granted ≤ claimed
    whole : granted ≡ claimed → mids ≡ ks

  first_mid : (j k : Job W R) (js ks : List (Job W R)) (c g c' g' : ℕ) → JobGranted split comes items c g j k → Mids js ks c' g' → Mids (j ∷ js) (k ∷ ks) (c + c') (g + g')
  first_mid j k js ks c g c' g' f h = record {
    mids = with_slot f.mid k ∷ h.mids;
    len = ap suc h.len;
    polled = polled;
    lists = λ list. h.lists (also_if (is_wait k.found) k.place list);
    trims = λ xs ys t. h.trims (set xs k.place f.mid) (set ys k.place k.slot) (trims_set items xs ys k.place f.mid k.slot t f.trimmed);
    places = λ i. f.place_is i ∷ h.places i;
    rows = (let e : stage_read items k.slot.stage ≡ g = f.kept in let r : rows_of items ks ≡ g' = h.rows in omega (arith, e, r));
    within = (let l : g ≤ c = f.within in let m : g' ≤ c' = h.within in omega (arith, l, m));
    whole = λ e. (
        let l : g ≤ c = f.within in
        let m : g' ≤ c' = h.within in
        let one : g ≡ c = omega (arith, l, m, e) in
        let rest : g' ≡ c' = omega (arith, l, m, e) in
        λ i. with_slot (sym (f.whole one) i) k ∷ h.whole rest i);
  }
    where
      polled : (i : ℕ) (d : Job W R) → i < suc (length js) → JobPolled split comes items (get_or (j ∷ js) i d) (get_or (with_slot f.mid k ∷ h.mids) i d)
      polled zero d lt = record { place_is = f.place_is; keeps = f.keeps; looks = f.looks }
      polled (suc i) d lt = h.polled i d (omega (arith, lt))

  mids_of : (js ks : List (Job W R)) (c g : ℕ) → EachGranted split comes items js ks c g → Mids js ks c g
  mids_of [] [] c g e = record {
    mids = [];
    len = refl;
    polled = λ i d lt. absurd (omega (arith, lt));
    lists = λ list. refl;
    trims = λ xs ys t. t;
    places = refl;
    rows = sym e.1;
    within = (let a : c ≡ 0 = e.0 in let b : g ≡ 0 = e.1 in omega (arith, a, b));
    whole = λ h. refl;
  }
  mids_of [] (k ∷ ks) c g e = absurd e
  mids_of (j ∷ js) [] c g e = absurd e
  mids_of (j ∷ js) (k ∷ ks) c g e =
      subst (λ n. Mids (j ∷ js) (k ∷ ks) n g) (sym e.claims) (subst (Mids (j ∷ js) (k ∷ ks) (e.first_claimed + e.rest_claimed)) (sym e.grants)
      (first_mid j k js ks e.first_claimed e.first_granted e.rest_claimed e.rest_granted e.first (mids_of js ks e.rest_claimed e.rest_granted e.rest)))

  pub granted_within : (count : ℕ) (js ks : List (Job W R)) (b d : BudgetData) → PhaseGrants split comes items b d js ks → All (IsWithin count) js → All (IsWithin count) ks
  granted_within count js ks b d g within = places_within count js ks (mids_of js ks g.claimed g.granted g.each).places within

  pub granted_places : (js ks : List (Job W R)) (b d : BudgetData) → PhaseGrants split comes items b d js ks → places_of ks ≡ places_of js
  granted_places js ks b d g = (mids_of js ks g.claimed g.granted g.each).places

  as_phase : (list : List ℕ) (old new : List (Slot W R)) → Back split comes items list old new → IsPhase split comes items list old new
  as_phase list old new b = record { polled = b.polled; once = b.once; keeps = b.keeps; settled = b.settled }

  mid_phase : (js ks : List (Job W R)) (list list' : List ℕ) (old now new : List (Slot W R)) (c g : ℕ) → Put js ks list list' old now new → (m : Mids js ks c g)
      → IsPhase split comes items list' old (put_back m.mids now)
  mid_phase js ks list list' old now new c g p m =
      as_phase list' old (put_back m.mids now) (phase_back split comes items js m.mids m.mids list list' old now (put_back m.mids now) p.none p.jobs p.fresh m.len m.polled refl
      (p.lists ∙ m.lists list) refl)

  -- as many rows are there as were granted
  rows_there : (js ks : List (Job W R)) (list list' : List ℕ) (old now new : List (Slot W R)) (c g : ℕ) → Put js ks list list' old now new → Mids js ks c g → g ≤ read_rows items new
  rows_there js ks list list' old now new c g p m =
      let put : read_rows items (put_back ks now) ≡ read_rows items now + rows_of items ks =
      all_put items ks now (ap no_repeats m.places ∙ p.jobs.once) within (λ q h. p.jobs.gone q (sym (ap (λ (xs : List ℕ). is_among xs q) m.places) ∙ h)) in
      let is : read_rows items new ≡ read_rows items (put_back ks now) = ap (read_rows items) p.puts in
      let r : rows_of items ks ≡ g = m.rows in
      omega (arith, put, is, r)
    where
      within : All (IsWithin (length now)) ks
      within = places_within (length now) js ks m.places (subst (λ n. All (IsWithin n) js) (sym p.jobs.len) p.jobs.within)

  pub phase_open : (js ks : List (Job W R)) (list list' : List ℕ) (old now new : List (Slot W R)) (b d : BudgetData) → Put js ks list list' old now new
      → PhaseGrants split comes items b d js ks → IsOpen b → IsOpen d → IsPhase split comes items list' old new × GrantsAll items b d new
  phase_open js ks list list' old now new b d p g x y =
      let m = mids_of js ks g.claimed g.granted g.each in
      let c : d.claimed ≡ b.claimed + g.claimed = g.claims in
      let e : d.granted ≡ b.granted + g.granted = g.grants in
      let s : b.granted ≡ b.claimed = x.granted in
      let t : d.granted ≡ d.claimed = y.granted in
      let all : g.granted ≡ g.claimed = omega (arith, c, e, s, t) in
      let there : g.granted ≤ read_rows items new = rows_there js ks list list' old now new g.claimed g.granted p m in (
        subst (IsPhase split comes items list' old) (ap (λ (xs : List (Job W R)). put_back xs now) (m.whole all) ∙ sym p.puts) (mid_phase js ks list list' old now new g.claimed g.granted p m),
        record { limit = g.limit; is_open = y; claims = omega (arith, c, all, there) },
      )

  pub phase_used : (js ks : List (Job W R)) (list list' : List ℕ) (old now new : List (Slot W R)) (b d : BudgetData) → Put js ks list list' old now new
      → PhaseGrants split comes items b d js ks → IsOpen b → d.granted ≡ d.limit → UsesUp split comes items b old new
  phase_used js ks list list' old now new b d p g x used =
      let m = mids_of js ks g.claimed g.granted g.each in
      let l : d.limit ≡ b.limit = g.limit in
      let e : d.granted ≡ b.granted + g.granted = g.grants in
      let s : b.granted ≡ b.claimed = x.granted in
      let there : g.granted ≤ read_rows items new = rows_there js ks list list' old now new g.claimed g.granted p m in
      record {
        mid = put_back m.mids now;
        asking = list';
        phase = mid_phase js ks list list' old now new g.claimed g.granted p m;
        len = ap length p.puts ∙ (m.trims now now (trims_none items now)).len;
        trimmed = λ q. subst (λ (xs : List (Slot W R)). IsTrimmed items (slot_at (put_back m.mids now) q) (slot_at xs q)) (sym p.puts) ((m.trims now now (trims_none items now)).at q);
        met = omega (arith, l, e, s, used, there);
      }
