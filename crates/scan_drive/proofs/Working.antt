-- Splits are taken out of their slots, polled by workers, and put back.
use Rattle.std.proofs.Common.{◌≡◌, ◌≢◌, ◌<◌, ◌≤◌, ◌+◌, ◌∙◌, ℕ, zero, suc, Bool, true, false, ◌||◌, List, [], ◌∷◌, ◌++◌, eqb, length, get_or, set, take, drop, append_assoc, append-nil, inl, inr, not, refl, sym, ap, subst, arith, length-set, get_or-set_same, get_or-set_other}
use Rattle.std.specs.Prelude.{◌⊎◌, ◌*◌, ◌==◌, All}
use Rattle.std.specs.Int.{div_ceil}
use Rattle.std.proofs.lemmas.Bool.{cases_eq}
use Rattle.std.proofs.lemmas.Bool.Decides.{nat_tests}
use Rattle.std.proofs.lemmas.Grind.{div_ceil_times}
use Rattle.std.proofs.lemmas.List.{get_or_default, map-append}
use Rattle.std.proofs.lemmas.List.Elements.{All-append, All-cons, All-head, All-nil, All-tail}
use Rattle.scan_values.specs.Selections.{is_among}
use Rattle.scan_segments.specs.Source.{Store}
use Rattle.scan_splits.specs.Arrivals.{Arrivals}
use Rattle.scan_splits.specs.Wanted.{no_repeats}
use Rattle.scan_splits.proofs.Wanting.{distinct-push}
use Rattle.scan_drive.specs.Actives.{AreSeats}
use Rattle.scan_drive.specs.Files.{Part}
use Rattle.scan_drive.specs.Looks.{LooksAt, IsPolled, EachPolled, is_wait}
use Rattle.scan_drive.specs.Slots.{EachKeeps, HasFresh, SlotKeeps, slot_at, is_fresh, nothing, also_if}
use Rattle.scan_drive.specs.Splits.{SplitState, Event}
use Rattle.scan_drive.specs.Workers.{AreInTurn, AreJobs, IsWithin, JobPolled, TakesJob, listed, new_job, places_of, put_back}
use Rattle.scan_drive.specs.declared.slot.Slot.{Slot}
use Rattle.scan_drive.specs.declared.workers.Job.{Job}
use Rattle.scan_drive.proofs.Desking.{among_snoc}
use Rattle.scan_drive.proofs.Handing.{among_head, among_later, and_both, at_set_other, at_set_same, not_true}
use Rattle.scan_drive.proofs.Keeping.{each_refl, each_set, each_then}
use Rattle.scan_drive.proofs.Linking.{keeps_file}
use Rattle.scan_drive.proofs.Polling.{look_settled, none_fresh, once_next, polled_next, polled_none}
use Rattle.scan_drive.proofs.Rounding.{fresh_popped}

-- a number that is not among those that another is among is another
pub apart : (xs : List ℕ) (p q : ℕ) → is_among xs p ≡ false → is_among xs q ≡ true → q ≢ p
apart xs p q n h e = let bad = sym h ∙ ap (is_among xs) e ∙ n in absurd cc

-- one that is among some and one more
among_other : (xs : List ℕ) (p q : ℕ) → q ≢ p → is_among (xs ++ p ∷ []) q ≡ is_among xs q
among_other xs p q n = among_snoc xs p q ∙ go (eqb p q) refl
  where
    or_false : (b : Bool) → (b || false) ≡ b
    or_false true = refl
    or_false false = refl

    go : (b : Bool) → eqb p q ≡ b → (is_among xs q || eqb p q) ≡ is_among xs q
    go true e = let same : q ≡ p = grind (arith, nat_tests) in absurd (n same)
    go false e = ap (λ b. is_among xs q || b) e ∙ or_false (is_among xs q)

among_last : (xs : List ℕ) (p : ℕ) → is_among (xs ++ p ∷ []) p ≡ true
among_last xs p = let on : eqb p p ≡ true = grind (arith, nat_tests) in among_snoc xs p p ∙ ap (λ b. is_among xs p || b) on ∙ or_true (is_among xs p)
  where
    or_true : (b : Bool) → (b || true) ≡ true
    or_true true = refl
    or_true false = refl

-- one that is not among some and one more is none of them
among_none : (xs : List ℕ) (p q : ℕ) → is_among (xs ++ p ∷ []) q ≡ false → (q ≢ p) × (is_among xs q ≡ false)
among_none xs p q h = (other, sym (among_other xs p q other) ∙ h)
  where
    other : q ≢ p
    other e = let bad = sym h ∙ ap (is_among (xs ++ p ∷ [])) e ∙ among_last xs p in absurd cc

none_later : (x q : ℕ) (xs : List ℕ) → q ≢ x → is_among xs q ≡ false → is_among (x ∷ xs) q ≡ false
none_later x q xs n h = go (eqb x q) refl
  where
    go : (b : Bool) → eqb x q ≡ b → is_among (x ∷ xs) q ≡ false
    go true e = let same : q ≡ x = grind (arith, nat_tests) in absurd (n same)
    go false e = ap (λ b. b || is_among xs q) e ∙ h

-- parts of a list that has an element have a size
pub some_size : (n workers size : ℕ) → 0 < n → 0 < workers → size ≡ div_ceil n workers → 0 < size
some_size n workers zero some pos e = let none : n ≤ 0 * workers = subst (λ k. n ≤ k * workers) (sym e) (div_ceil_times n workers pos).0 in absurd (omega arith)
some_size n workers (suc size) some pos e = omega arith

pub some_jobs : (n : ℕ) (b : Bool) → b ≡ (n == 0) → b ≡ false → 0 < n
some_jobs zero b e f = let bad : true ≡ false = sym e ∙ f in absurd cc
some_jobs (suc n) b e f = omega arith

-- ---- each of a list, in place
module _ {X : Type 0} (P : X → X → Type 0) where
  -- one more is done
  pub one_done : (first now : List X) (i : ℕ) (x y : X) → i < length now → x ≡ get_or now i x → P x y
      → ((k : ℕ) (d : X) → k < i → P (get_or first k d) (get_or now k d)) → ((k : ℕ) (d : X) → i ≤ k → get_or now k d ≡ get_or first k d)
      → (k : ℕ) (d : X) → k < i + 1 → P (get_or first k d) (get_or (set now i y) k d)
  one_done first now i x y lt at p done others k d l = go (cases_eq k i)
    where
      go : (k ≡ i) ⊎ (k ≢ i) → P (get_or first k d) (get_or (set now i y) k d)
      go (inl is) =
          let from : get_or first i d ≡ x = sym (others i d (omega arith)) ∙ sym (at ∙ get_or_default now i x d lt) in
          subst (λ j. P (get_or first j d) (get_or (set now i y) j d)) (sym is)
          (subst (λ (z : X). P z (get_or (set now i y) i d)) (sym from) (subst (P x) (sym (get_or-set_same now i y d lt)) p))
      go (inr n) = subst (P (get_or first k d)) (sym (get_or-set_other now i k y d n)) (done k d (omega arith))

  pub done_as : (x x' y y' : X) → x ≡ x' → y ≡ y' → P x y → P x' y'
  done_as x x' y y' e f p = subst (P x') f (subst (λ (z : X). P z y) e p)

module _ {X : Type 0} where
  pub rest_same : (first now : List X) (i : ℕ) (y : X) → ((k : ℕ) (d : X) → i ≤ k → get_or now k d ≡ get_or first k d) → (k : ℕ) (d : X) → i + 1 ≤ k → get_or (set now i y) k d ≡ get_or first k d
  rest_same first now i y others k d l = let n : k ≢ i = λ e. (let bad : i + 1 ≤ i = subst (λ j. i + 1 ≤ j) e l in omega arith) in get_or-set_other now i k y d n ∙ others k d (omega arith)

  -- the next of those that are still as they were
  pub next_same : (first now : List X) (i : ℕ) (x : X) → i < length now → x ≡ get_or now i x → ((k : ℕ) (d : X) → i ≤ k → get_or now k d ≡ get_or first k d) → (d : X) → x ≡ get_or first i d
  next_same first now i x lt at others d = at ∙ get_or_default now i x d lt ∙ others i d (omega arith)

module _ {W R : Type 0} where
  places_snoc : (jobs : List (Job W R)) (j : Job W R) → places_of (jobs ++ j ∷ []) ≡ places_of jobs ++ j.place ∷ []
  places_snoc jobs j = map-append (λ (k : Job W R). k.place) jobs (j ∷ [])

  -- the place of each is among them
  among_at : (jobs : List (Job W R)) (i : ℕ) (d : Job W R) → i < length jobs → is_among (places_of jobs) (get_or jobs i d).place ≡ true
  among_at [] i d lt = absurd (omega arith)
  among_at (j ∷ jobs) zero d lt = among_head j.place (places_of jobs)
  among_at (j ∷ jobs) (suc i) d lt = among_later j.place (get_or jobs i d).place (places_of jobs) (among_at jobs i d (omega arith))

  -- ---- splits are taken

  -- a place of which the split waits for nothing has not been taken
  not_taken : (jobs : List (Job W R)) (start now : List (Slot W R)) (place : ℕ) → AreJobs jobs start now → is_fresh (slot_at now place).stage ≡ true → is_among (places_of jobs) place ≡ false
  not_taken jobs start now place a f = go (is_among (places_of jobs) place) refl
    where
      go : (b : Bool) → is_among (places_of jobs) place ≡ b → is_among (places_of jobs) place ≡ false
      go false e = e
      go true e = let bad = sym f ∙ ap (λ (s : Slot W R). is_fresh s.stage) (a.gone place e) in absurd cc

  one_more : (place : ℕ) (jobs : List (Job W R)) (start now : List (Slot W R)) → AreJobs jobs start now → place < length now → is_fresh (slot_at now place).stage ≡ true →
      AreJobs (jobs ++ new_job place (slot_at now place) ∷ []) start (set now place nothing)
  one_more place jobs start now a lt f = record {
    len = length-set now place nothing ∙ a.len;
    within = All-append (IsWithin (length start)) jobs (j ∷ []) a.within (All-cons (IsWithin (length start)) j [] lt' (All-nil (IsWithin (length start))));
    from = All-append From jobs (j ∷ []) a.from (All-cons From j [] (a.others place off) (All-nil From));
    once = ap no_repeats (places_snoc jobs j) ∙ distinct-push (places_of jobs) place a.once off;
    gone = λ q h. gone_at q (cases_eq q place) (sym (ap (λ (xs : List ℕ). is_among xs q) (places_snoc jobs j)) ∙ h);
    others = λ q h. (let k = among_none (places_of jobs) place q (sym (ap (λ (xs : List ℕ). is_among xs q) (places_snoc jobs j)) ∙ h) in at_set_other now place q nothing k.0 ∙ a.others q k.1);
  }
    where
      j : Job W R
      j = new_job place (slot_at now place)

      From : Job W R → Type 0
      From x = x.slot ≡ slot_at start x.place

      off : is_among (places_of jobs) place ≡ false
      off = not_taken jobs start now place a f

      lt' : place < length start
      lt' = let n : length now ≡ length start = a.len in omega arith

      gone_at : (q : ℕ) → (q ≡ place) ⊎ (q ≢ place) → is_among (places_of jobs ++ place ∷ []) q ≡ true → slot_at (set now place nothing) q ≡ nothing
      gone_at q (inl is) h = ap (slot_at (set now place nothing)) is ∙ at_set_same now place nothing lt
      gone_at q (inr n) h = at_set_other now place q nothing n ∙ a.gone q (sym (among_other (places_of jobs) place q n) ∙ h)

  pub jobs_next : (place : ℕ) (jobs jobs' : List (Job W R)) (start now next : List (Slot W R)) → AreJobs jobs start now → TakesJob place jobs jobs' now next → AreJobs jobs' start next
  jobs_next place jobs jobs' start now next a (inl t) = subst (λ (js : List (Job W R)). AreJobs js start next) (sym t.1) (subst (AreJobs jobs start) (sym t.2) a)
  jobs_next place jobs jobs' start now next a (inr t) =
      subst (λ (js : List (Job W R)). AreJobs js start next) (sym t.2) (subst (AreJobs (jobs ++ new_job place (slot_at now place) ∷ []) start) (sym t.3) (one_more place jobs start now a t.0 t.1))

  pub fresh_next : (place : ℕ) (jobs jobs' : List (Job W R)) (now next : List (Slot W R)) (places rest : List ℕ) → places ≡ place ∷ rest → HasFresh now places → TakesJob place jobs jobs' now next → HasFresh next rest
  fresh_next place jobs jobs' now next places rest e h (inl t) =
      fresh_popped now next place places rest e h (λ q n. ap (λ (ss : List (Slot W R)). slot_at ss q) t.2) (ap (λ (ss : List (Slot W R)). is_fresh (slot_at ss place).stage) t.2 ∙ t.0)
  fresh_next place jobs jobs' now next places rest e h (inr t) =
      fresh_popped now next place places rest e h (λ q n. ap (λ (ss : List (Slot W R)). slot_at ss q) t.3 ∙ at_set_other now place q nothing n)
      (ap (λ (ss : List (Slot W R)). is_fresh (slot_at ss place).stage) t.3 ∙ ap (λ (s : Slot W R). is_fresh s.stage) (at_set_same now place nothing t.0))

  -- those that wait for nothing are at some turn
  pub fresh_in_turn : (turns free : List ℕ) (slots : List (Slot W R)) → AreSeats turns free slots → HasFresh slots turns
  fresh_in_turn turns free slots s p f = go (is_among turns p) refl
    where
      go : (b : Bool) → is_among turns p ≡ b → is_among turns p ≡ true
      go true e = e
      go false e = let bad = sym f ∙ ap is_fresh (s.empty p e) in absurd cc

  -- none is left: each that waited for nothing was taken
  pub all_taken : (jobs : List (Job W R)) (start now : List (Slot W R)) (rest : List ℕ) → rest ≡ [] → AreJobs jobs start now → HasFresh now rest → HasFresh start (places_of jobs)
  all_taken jobs start now rest e a h p f = go (is_among (places_of jobs) p) refl
    where
      go : (b : Bool) → is_among (places_of jobs) p ≡ b → is_among (places_of jobs) p ≡ true
      go true i = i
      go false i = let bad = sym (ap (λ (xs : List ℕ). is_among xs p) e) ∙ h p (ap (λ (x : Slot W R). is_fresh x.stage) (a.others p i) ∙ f) in absurd cc

-- ---- in the order of their turns
in_turn_later : (ps turns : List ℕ) (t : ℕ) → AreInTurn ps turns → AreInTurn ps (turns ++ t ∷ [])
in_turn_later [] turns t h = tt
in_turn_later (p ∷ ps) [] t h = absurd h
in_turn_later (p ∷ ps) (x ∷ turns) t (inl h) = inl (h.0, in_turn_later ps turns t h.1)
in_turn_later (p ∷ ps) (x ∷ turns) t (inr h) = inr (in_turn_later (p ∷ ps) turns t h)

in_turn_too : (ps turns : List ℕ) (t : ℕ) → AreInTurn ps turns → AreInTurn (ps ++ t ∷ []) (turns ++ t ∷ [])
in_turn_too [] [] t h = inl (refl, tt)
in_turn_too [] (x ∷ turns) t h = inr (in_turn_too [] turns t tt)
in_turn_too (p ∷ ps) [] t h = absurd h
in_turn_too (p ∷ ps) (x ∷ turns) t (inl h) = inl (h.0, in_turn_too ps turns t h.1)
in_turn_too (p ∷ ps) (x ∷ turns) t (inr h) = inr (in_turn_too (p ∷ ps) turns t h)

in_turn_then : (ps qs turns : List ℕ) → AreInTurn ps qs → AreInTurn qs turns → AreInTurn ps turns
in_turn_then [] qs turns h k = tt
in_turn_then (p ∷ ps) [] turns h k = absurd h
in_turn_then (p ∷ ps) (q ∷ qs) [] h k = absurd k
in_turn_then (p ∷ ps) (q ∷ qs) (t ∷ turns) h (inr k) = inr (in_turn_then (p ∷ ps) (q ∷ qs) turns h k)
in_turn_then (p ∷ ps) (q ∷ qs) (t ∷ turns) (inl h) (inl k) = inl (h.0 ∙ k.0, in_turn_then ps qs turns h.1 k.1)
in_turn_then (p ∷ ps) (q ∷ qs) (t ∷ turns) (inr h) (inl k) = inr (in_turn_then (p ∷ ps) qs turns h k.1)

pub none_after : (xs : List ℕ) (i : ℕ) → length xs ≤ i → drop i xs ≡ []
none_after [] zero le = refl
none_after [] (suc i) le = refl
none_after (x ∷ xs) zero le = absurd (omega (arith, le))
none_after (x ∷ xs) (suc i) le = none_after xs i (omega (arith, le))

take_next : (xs : List ℕ) (i d : ℕ) → i < length xs → take (i + 1) xs ≡ take i xs ++ get_or xs i d ∷ []
take_next [] i d lt = absurd (omega (arith, lt))
take_next (x ∷ xs) zero d lt = refl
take_next (x ∷ xs) (suc i) d lt = let e : suc i + 1 ≡ suc (i + 1) = omega arith in ap (λ k. take k (x ∷ xs)) e ∙ ap (λ ys. x ∷ ys) (take_next xs i d (omega (arith, lt)))

pub all_turns : (places turns : List ℕ) (i : ℕ) → length turns ≤ i → AreInTurn places (take i turns) → AreInTurn places turns
all_turns places turns i le h = subst (AreInTurn places) (whole turns i le) h
  where
    whole : (ts : List ℕ) (k : ℕ) → length ts ≤ k → take k ts ≡ ts
    whole [] zero l = refl
    whole [] (suc k) l = refl
    whole (t ∷ ts) zero l = absurd (omega (arith, l))
    whole (t ∷ ts) (suc k) l = ap (λ us. t ∷ us) (whole ts k (omega (arith, l)))

module _ {W R : Type 0} where
  -- a split more is taken, or none
  pub turn_next : (place i : ℕ) (turns : List ℕ) (jobs jobs' : List (Job W R)) (now next : List (Slot W R)) → i < length turns → place ≡ get_or turns i place → TakesJob place jobs jobs' now next
      → AreInTurn (places_of jobs) (take i turns) → AreInTurn (places_of jobs') (take (i + 1) turns)
  turn_next place i turns jobs jobs' now next lt at takes h = subst (AreInTurn (places_of jobs')) (sym (take_next turns i place lt ∙ ap (λ p. take i turns ++ p ∷ []) (sym at))) (go takes)
    where
      go : TakesJob place jobs jobs' now next → AreInTurn (places_of jobs') (take i turns ++ place ∷ [])
      go (inl t) = in_turn_later (places_of jobs') (take i turns) place (subst (λ (js : List (Job W R)). AreInTurn (places_of js) (take i turns)) (sym t.1) h)
      go (inr t) =
          subst (λ (ps : List ℕ). AreInTurn ps (take i turns ++ place ∷ [])) (sym (ap places_of t.2 ∙ places_snoc jobs (new_job place (slot_at now place))))
          (in_turn_too (places_of jobs) (take i turns) place h)

  -- those that are listed
  listed_after : (jobs : List (Job W R)) (list done : List ℕ) → AreInTurn list done → AreInTurn (listed jobs list) (done ++ places_of jobs)
  listed_after [] list done h = subst (AreInTurn list) (sym (append-nil done)) h
  listed_after (j ∷ jobs) list done h = subst (AreInTurn (listed jobs (also_if (is_wait j.found) j.place list))) (append_assoc done (j.place ∷ []) (places_of jobs)) (listed_after jobs (also_if (is_wait j.found) j.place list) (done ++ j.place ∷ []) (go (is_wait j.found)))
    where
      go : (b : Bool) → AreInTurn (also_if b j.place list) (done ++ j.place ∷ [])
      go true = in_turn_too list done j.place h
      go false = in_turn_later list done j.place h

  pub places_same : (jobs jobs' : List (Job W R)) → length jobs' ≡ length jobs → ((i : ℕ) (d : Job W R) → i < length jobs → (get_or jobs' i d).place ≡ (get_or jobs i d).place) → places_of jobs' ≡ places_of jobs
  places_same [] [] n h = refl
  places_same [] (k ∷ jobs') n h = absurd (omega (arith, n))
  places_same (j ∷ jobs) [] n h = absurd (omega (arith, n))
  places_same (j ∷ jobs) (k ∷ jobs') n h = (let x = h 0 j (omega arith) in let r = places_same jobs jobs' (omega (arith, n)) (λ i d lt. h (suc i) d (omega (arith, lt))) in λ i. x i ∷ r i)

  -- what waits after a phase is in turn
  pub listed_in_turn : (jobs jobs' given : List (Job W R)) (list list' turns : List ℕ) → list ≡ [] → places_of jobs' ≡ places_of jobs → given ≡ jobs' → list' ≡ listed given list → AreInTurn (places_of jobs) turns → AreInTurn list' turns
  listed_in_turn jobs jobs' given list list' turns e same is l o =
      subst (λ (xs : List ℕ). AreInTurn xs turns) (sym (l ∙ ap (λ (js : List (Job W R)). listed js list) is ∙ ap (listed jobs') e))
      (in_turn_then (listed jobs' []) (places_of jobs') turns (listed_after jobs' [] [] tt) (subst (λ (ps : List ℕ). AreInTurn ps turns) (sym same) o))

-- ---- splits are put back
module _ {W I R : Type 0} (split : W → SplitState I) (comes : W → Arrivals → Store → Event → Type 0) (items : R → List I) where
  -- some are put back, and the others would be as they were
  record Half (jobs jobs' : List (Job W R)) (list : List ℕ) (start mid now : List (Slot W R)) : Type 0 where
    taken : AreJobs jobs mid now
    len : length jobs' ≡ length jobs
    jobs_are : (i : ℕ) (d : Job W R) → i < length jobs → JobPolled split comes items (get_or jobs i d) (get_or jobs' i d)
    polled : EachPolled split comes items list start mid
    once : no_repeats list ≡ true
    keeps : (p : Part I) (store : Store) → EachKeeps split comes items p store start mid
    fresh : HasFresh mid (places_of jobs)

  -- all are
  pub record Back (list : List ℕ) (start now : List (Slot W R)) : Type 0 where
    pub polled : EachPolled split comes items list start now
    pub once : no_repeats list ≡ true
    pub keeps : (p : Part I) (store : Store) → EachKeeps split comes items p store start now
    pub settled : (place : ℕ) → is_fresh (slot_at now place).stage ≡ false

  -- the jobs that are left once the first is put back
  rest_taken : (j : Job W R) (jobs : List (Job W R)) (s : Slot W R) (mid now : List (Slot W R)) → AreJobs (j ∷ jobs) mid now → AreJobs jobs (set mid j.place s) (set now j.place s)
  rest_taken j jobs s mid now a = record {
    len = length-set now p s ∙ a.len ∙ sym (length-set mid p s);
    within = subst (λ n. All (IsWithin n) jobs) (sym (length-set mid p s)) (All-tail (IsWithin (length mid)) j jobs a.within);
    from = λ i d lt. from_at (get_or jobs i d) (All-tail From j jobs a.from i d lt) (among_at jobs i d lt);
    once = parts.1;
    gone = λ q h. at_set_other now p q s (apart (places_of jobs) p q off h) ∙ a.gone q (among_later p q (places_of jobs) h);
    others = λ q h. others_at q h (cases_eq q p);
  }
    where
      p : ℕ
      p = j.place

      From : Job W R → Type 0
      From x = x.slot ≡ slot_at mid x.place

      parts : (not (is_among (places_of jobs) p) ≡ true) × (no_repeats (places_of jobs) ≡ true)
      parts = and_both (not (is_among (places_of jobs) p)) (no_repeats (places_of jobs)) a.once

      off : is_among (places_of jobs) p ≡ false
      off = not_true (is_among (places_of jobs) p) parts.0

      lt : p < length mid
      lt = All-head (IsWithin (length mid)) j jobs a.within

      lt' : p < length now
      lt' = let n : length now ≡ length mid = a.len in let m : p < length mid = lt in omega arith

      from_at : (x : Job W R) → x.slot ≡ slot_at mid x.place → is_among (places_of jobs) x.place ≡ true → x.slot ≡ slot_at (set mid p s) x.place
      from_at x e m = e ∙ sym (at_set_other mid p x.place s (apart (places_of jobs) p x.place off m))

      others_at : (q : ℕ) → is_among (places_of jobs) q ≡ false → (q ≡ p) ⊎ (q ≢ p) → slot_at (set now p s) q ≡ slot_at (set mid p s) q
      others_at q h (inl is) = ap (slot_at (set now p s)) is ∙ at_set_same now p s lt' ∙ sym (at_set_same mid p s lt) ∙ sym (ap (slot_at (set mid p s)) is)
      others_at q h (inr n) = at_set_other now p q s n ∙ a.others q (none_later p q (places_of jobs) n h) ∙ sym (at_set_other mid p q s n)

  -- the first is put back
  next : (j k : Job W R) (jobs jobs' : List (Job W R)) (list : List ℕ) (start mid now : List (Slot W R)) → Half (j ∷ jobs) (k ∷ jobs') list start mid now →
      Half jobs jobs' (also_if (is_wait k.found) k.place list) start (set mid k.place k.slot) (set now k.place k.slot)
  next j k jobs jobs' list start mid now h =
      subst (λ q. Half jobs jobs' (also_if (is_wait k.found) q list) start (set mid q k.slot) (set now q k.slot)) (sym polled.place_is) (record {
        taken = rest_taken j jobs k.slot mid now h.taken;
        len = let n : length (k ∷ jobs') ≡ length (j ∷ jobs) = h.len in omega arith;
        jobs_are = λ i d lt. h.jobs_are (suc i) d (omega arith);
        polled = polled_next split comes items p list list' start mid mid' h.polled (length-set mid p k.slot) others looks;
        once = once_next split comes items p list list' start mid mid' h.polled looks h.once;
        keeps = λ part store. each_then split comes items part store start mid mid' (h.keeps part store) (each_set split comes items part store mid p k.slot lt (subst (λ (x : Slot W R). SlotKeeps split comes items part store x k.slot) from (polled.keeps part store)));
        fresh = fresh_popped mid mid' p (p ∷ places_of jobs) (places_of jobs) refl h.fresh others (look_settled split comes items p list list' (slot_at mid p) (slot_at mid' p) looks);
      })
    where
      p : ℕ
      p = j.place

      mid' : List (Slot W R)
      mid' = set mid p k.slot

      list' : List ℕ
      list' = also_if (is_wait k.found) p list

      polled : JobPolled split comes items j k
      polled = h.jobs_are 0 j (omega arith)

      lt : p < length mid
      lt = All-head (IsWithin (length mid)) j jobs h.taken.within

      from : j.slot ≡ slot_at mid p
      from = All-head (λ (x : Job W R). x.slot ≡ slot_at mid x.place) j jobs h.taken.from

      others : (q : ℕ) → q ≢ p → slot_at mid' q ≡ slot_at mid q
      others q n = at_set_other mid p q k.slot n

      looks : LooksAt split comes items p list list' (slot_at mid p) (slot_at mid' p)
      looks = subst (LooksAt split comes items p list list' (slot_at mid p)) (sym (at_set_same mid p k.slot lt)) (subst (λ (x : Slot W R). LooksAt split comes items p list list' x k.slot) from (record {
        found = k.found;
        file_is = keeps_file split comes items j.slot k.slot polled.keeps;
        looks = polled.looks;
        listed = refl;
      }))

  ended : (list : List ℕ) (start mid now : List (Slot W R)) → Half [] [] list start mid now → Back list start now
  ended list start mid now h = record {
    polled = record {
      len = h.taken.len ∙ h.polled.len;
      at = λ q. subst (IsPolled split comes items (is_among list q) (slot_at start q)) (sym (same q)) (h.polled.at q);
    };
    once = h.once;
    keeps = λ p store. record {
      len = h.taken.len ∙ (h.keeps p store).len;
      at = λ q. subst (SlotKeeps split comes items p store (slot_at start q)) (sym (same q)) ((h.keeps p store).at q);
    };
    settled = λ q. ap (λ (s : Slot W R). is_fresh s.stage) (same q) ∙ none_fresh mid [] refl h.fresh q;
  }
    where
      same : (q : ℕ) → slot_at now q ≡ slot_at mid q
      same q = h.taken.others q refl

  all_back : (jobs jobs' : List (Job W R)) (list : List ℕ) (start mid now : List (Slot W R)) → Half jobs jobs' list start mid now → Back (listed jobs' list) start (put_back jobs' now)
  all_back [] [] list start mid now h = ended list start mid now h
  all_back [] (k ∷ jobs') list start mid now h = let n : length (k ∷ jobs') ≡ 0 = h.len in absurd (omega arith)
  all_back (j ∷ jobs) [] list start mid now h = let n : 0 ≡ length (j ∷ jobs) = h.len in absurd (omega arith)
  all_back (j ∷ jobs) (k ∷ jobs') list start mid now h =
      all_back jobs jobs' (also_if (is_wait k.found) k.place list) start (set mid k.place k.slot) (set now k.place k.slot) (next j k jobs jobs' list start mid now h)

  pub jobs_back : (jobs jobs' : List (Job W R)) (list : List ℕ) (old now : List (Slot W R)) → list ≡ [] → AreJobs jobs old now → HasFresh old (places_of jobs) → length jobs' ≡ length jobs
      → ((i : ℕ) (d : Job W R) → i < length jobs → JobPolled split comes items (get_or jobs i d) (get_or jobs' i d)) → Back (listed jobs' list) old (put_back jobs' now)
  jobs_back jobs jobs' list old now e a h n p = all_back jobs jobs' list old old now (record {
    taken = a;
    len = n;
    jobs_are = p;
    polled = subst (λ (xs : List ℕ). EachPolled split comes items xs old old) (sym e) (polled_none split comes items old);
    once = ap no_repeats e;
    keeps = λ part store. each_refl split comes items part store old;
    fresh = h;
  })

  -- polled jobs are at the places at which they were
  pub still_within : (count : ℕ) (jobs jobs' : List (Job W R)) → length jobs' ≡ length jobs → ((i : ℕ) (d : Job W R) → i < length jobs → JobPolled split comes items (get_or jobs i d) (get_or jobs' i d)) → All (IsWithin count) jobs → All (IsWithin count) jobs'
  still_within count jobs jobs' n p a i d lt = let lt' : i < length jobs = omega arith in subst (λ q. q < count) (sym (p i d lt').place_is) (a i d lt')

  -- what a phase leaves of the slots and of the list
  pub phase_back : (jobs jobs' given : List (Job W R)) (list list' : List ℕ) (old now new : List (Slot W R)) → list ≡ [] → AreJobs jobs old now → HasFresh old (places_of jobs) → length jobs' ≡ length jobs
      → ((i : ℕ) (d : Job W R) → i < length jobs → JobPolled split comes items (get_or jobs i d) (get_or jobs' i d)) → given ≡ jobs' → list' ≡ listed given list → new ≡ put_back given now → Back list' old new
  phase_back jobs jobs' given list list' old now new e a h n p is l s =
      subst (λ (xs : List ℕ). Back xs old new) (sym (l ∙ ap (λ (js : List (Job W R)). listed js list) is))
      (subst (Back (listed jobs' list) old) (sym (s ∙ ap (λ (js : List (Job W R)). put_back js now) is)) (jobs_back jobs jobs' list old now e a h n p))

-- ---- those that are still to be put back
module _ {W R : Type 0} where
  pub first_within : (count : ℕ) (jobs rest : List (Job W R)) (j : Job W R) → jobs ≡ j ∷ rest → All (IsWithin count) jobs → j.place < count
  first_within count jobs rest j e a = All-head (IsWithin count) j rest (subst (All (IsWithin count)) e a)

  pub rest_within : (slots : List (Slot W R)) (jobs rest : List (Job W R)) (j : Job W R) (s : Slot W R) → jobs ≡ j ∷ rest → All (IsWithin (length slots)) jobs → All (IsWithin (length (set slots j.place s))) rest
  rest_within slots jobs rest j s e a =
      subst (λ n. All (IsWithin n) rest) (sym (length-set slots j.place s)) (All-tail (IsWithin (length slots)) j rest (subst (All (IsWithin (length slots))) e a))

  pub put_next : (jobs rest : List (Job W R)) (j : Job W R) (slots all : List (Slot W R)) → jobs ≡ j ∷ rest → put_back jobs slots ≡ all → put_back rest (set slots j.place j.slot) ≡ all
  put_next jobs rest j slots all e h = sym (ap (λ (js : List (Job W R)). put_back js slots) e) ∙ h

  pub listed_next : (jobs rest : List (Job W R)) (j : Job W R) (list list' all : List ℕ) (b : Bool) → jobs ≡ j ∷ rest → list' ≡ also_if b j.place list → b ≡ is_wait j.found → listed jobs list ≡ all → listed rest list' ≡ all
  listed_next jobs rest j list list' all b e l w h =
      let more : list' ≡ also_if (is_wait j.found) j.place list = l ∙ ap (λ c. also_if c j.place list) w in
      ap (listed rest) more ∙ sym (ap (λ (js : List (Job W R)). listed js list) e) ∙ h
