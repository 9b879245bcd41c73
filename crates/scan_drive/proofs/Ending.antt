-- How a drive ends, and what it has given then.
use Rattle.std.proofs.Common.{◌≡◌, ◌≢◌, ℕ, suc, ◌+◌, ◌<◌, ◌≤◌, List, [], ◌∷◌, ◌++◌, length, Bool, true, false, Option, Some, None, inl, inr, refl, sym, ap, ◌∙◌, subst, arith, append_assoc, append-nil, IsPermutation}
use Rattle.std.specs.Prelude.{◌⊎◌}
use Rattle.std.proofs.lemmas.Bool.{cases_eq}
use Rattle.std.proofs.lemmas.List.Sorted.{IsPermutation-refl}
use Rattle.scan_segments.specs.Source.{Store}
use Rattle.scan_splits.specs.Arrivals.{Arrivals}
use Rattle.scan_drive.specs.Actives.{AllOk, groups_left, groups_in}
use Rattle.scan_drive.specs.Budgets.{IsBudget}
use Rattle.scan_drive.specs.Chunks.{given, limit_of, HasRoom, KeepsFiles, IsMore, IsCut}
use Rattle.scan_splits.specs.Wanted.{no_repeats}
use Rattle.scan_drive.specs.Asks.{EachLinkedBut}
use Rattle.scan_drive.specs.Desks.{Waiters}
use Rattle.scan_drive.specs.Drives.{EachLinked}
use Rattle.scan_drive.specs.Ends.{StopsAt, Settles, Forgets, limit_in}
use Rattle.scan_drive.specs.Losses.{HaltsStay}
use Rattle.scan_drive.specs.Measures.{slots_steps}
use Rattle.scan_drive.specs.Turns.{TurnsWait, IsTooMany, FitsIn}
use Rattle.scan_drive.specs.declared.phase.Tally.{Tally}
use Rattle.scan_drive.specs.Files.{Group, Told, told_at, AllTell, answer, limited, cut, count}
use Rattle.scan_drive.specs.Grants.{AreSame, AreGiven}
use Rattle.scan_drive.specs.Phases.{phase_at, phase_left, PhaseOk, PhasesOk, SpentBelow, rest, rest_from}
use Rattle.scan_drive.specs.Rounds.{Sound, IsReady, AreAsking, AskNamed, IsEnd}
use Rattle.scan_drive.specs.Splits.{SplitState, Event}
use Rattle.scan_drive.specs.declared.active.Active.{Active}
use Rattle.scan_drive.specs.declared.delivery.Chunk.{Chunk}
use Rattle.scan_drive.specs.declared.phase.Phase.{Phase}
use Rattle.scan_drive.specs.declared.phase.Phase.TheVariants as phase
use Rattle.scan_drive.specs.declared.round.Drive.{Drive}
use Rattle.scan_drive.proofs.Moving.{rest_stays}
use Rattle.scan_drive.proofs.Resting.{spent_left}
use Rattle.scan_drive.proofs.Giving.{cut_past}
use Rattle.scan_drive.proofs.Same.{same_path, same_flag, same_trans, same_behind, given_same, fronts_itself}

module _ {W I F : Type 0} (split : W → SplitState I) (comes : W → Arrivals → Store → Event → Type 0) where
  -- nothing is left of files that have no split left
  rest_spent : (place : ℕ) (ts : List (Told I)) (ps : List (Phase W F)) → SpentBelow ps (length ps) → rest_from split comes place ts ps ≡ []
  rest_spent place [] ps h = refl
  rest_spent place (t ∷ ts) [] h = refl
  rest_spent place (t ∷ ts) (p ∷ ps) h = ap (λ gs. gs ++ rest_from split comes (place + 1) ts ps) (spent_left split comes place t p (h 0 (omega arith))) ∙ rest_spent (place + 1) ts ps (λ k lt. h (suc k) (omega (arith, lt)))

module _ {W I R : Type 0} (split : W → SplitState I) (comes : W → Arrivals → Store → Event → Type 0) (items : R → List I) where
  -- no limit is met where there is none
  pub cut_none : (ordered : Bool) (a : Active W R) (chunks chunks' : List (Chunk R)) (left : Option ℕ) → left ≡ None → IsCut split comes items ordered a chunks chunks' left → ⊥
  cut_none ordered a chunks chunks' left e c = bad (sym (ap (limit_of (count (given items chunks))) e) ∙ c.was)
    where
      bad : None ≡ Some c.most → ⊥
      bad q = absurd cc

-- what is given where all is: the limit leaves room for it
given_all : {I R : Type 0} (items : R → List I) (b : Bool) (chunks : List (Chunk R)) (left : Option ℕ) (all : List (Group I)) → AreSame b (given items chunks) all → AreGiven b (limit_of (count (given items chunks)) left) all (given items chunks)
given_all {I} items b chunks left all h = given_same b (limit_of (count (given items chunks)) left) (given items chunks) all (given items chunks) h (go b left)
  where
    gs : List (Group I)
    gs = given items chunks

    whole : (o : Option ℕ) → gs ≡ limited (limit_of (count gs) o) gs
    whole None = refl
    whole (Some n) =
        let past = cut_past items chunks n [] in
        sym (ap (cut (count gs + n)) (sym (append-nil gs)) ∙ past ∙ append-nil gs)

    go : (c : Bool) (o : Option ℕ) → AreGiven c (limit_of (count gs) o) gs gs
    go true o = whole o
    go false o = record {
      whole = gs;
      others = [];
      among = subst (λ xs. IsPermutation xs gs) (sym (append-nil gs)) (IsPermutation-refl gs);
      fronts = fronts_itself gs;
      rows = ap count (whole o);
      free = λ none. IsPermutation-refl gs;
    }

module _ {W I R F : Type 0} (split : W → SplitState I) (comes : W → Arrivals → Store → Event → Type 0) (items : R → List I) where
  -- all is given
  pub done_all : (tale : List (Told I)) (d : Drive W R F) → Sound split comes items tale d → d.active.turns.items ≡ [] → SpentBelow d.phases.items d.first → length d.phases.items ≤ d.first → AllTell tale
      → AreGiven d.ordered (limit_in split comes items d) (answer tale) (given items d.chunks.items)
  done_all tale d s none below end all =
      given_all items d.ordered d.chunks.items d.left (answer tale)
      (same_path d.ordered (given items d.chunks.items) (given items d.chunks.items ++ (groups_left split comes items tale d.active ++ rest split comes tale d.phases.items)) (answer tale) nothing_left (s.sums all))
    where
      spent : SpentBelow d.phases.items (length d.phases.items)
      spent k lt = below k (omega (arith, lt, end))

      left_none : groups_left split comes items tale d.active ≡ []
      left_none = ap (λ ts. groups_in split comes items tale ts d.active.slots.items) none

      nothing_left : given items d.chunks.items ≡ given items d.chunks.items ++ (groups_left split comes items tale d.active ++ rest split comes tale d.phases.items)
      nothing_left =
          sym (append-nil (given items d.chunks.items))
          ∙ ap (λ gs. given items d.chunks.items ++ gs) (sym (ap (λ gs. gs ++ rest split comes tale d.phases.items) left_none ∙ rest_spent split comes 0 tale d.phases.items spent))

  -- the limit is met
  pub done_cut : (tale : List (Told I)) (d : Drive W R F) (chunks : List (Chunk R)) → IsCut split comes items d.ordered d.active d.chunks.items chunks d.left
      → Sound split comes items tale d → AllTell tale → AreGiven d.ordered (limit_in split comes items d) (answer tale) (given items chunks)
  done_cut tale d chunks c s all =
      subst (λ l. AreGiven d.ordered l (answer tale) (given items chunks)) (sym c.was)
      (given_same d.ordered (Some c.most) (given items d.chunks.items ++ (groups_left split comes items tale d.active ++ rest split comes tale d.phases.items)) (answer tale) (given items chunks) (s.sums all)
      (c.groups tale all s.ok (rest split comes tale d.phases.items)))

  -- rows were given
  pub sound_more : (tale : List (Told I)) (d e : Drive W R F) → IsMore split comes items d.ordered d.active e.active d.chunks.items e.chunks.items d.left e.left
      → (AllOk split comes items tale d.active → AllOk split comes items tale e.active) → e.phases.items ≡ d.phases.items → e.ordered ≡ d.ordered → e.tally ≡ d.tally → Sound split comes items tale d
      → Sound split comes items tale e
  sound_more tale d e m ok p o t s = record {
    phases = subst (λ ps. PhasesOk split comes tale ps) (sym p) s.phases;
    ok = ok s.ok;
    tally = subst (Rattle.scan_drive.specs.Turns.IsTally tale) (sym t) s.tally;
    sums = λ all.
        (let now = given items e.chunks.items in
        let was = given items d.chunks.items in
        let left_now = groups_left split comes items tale e.active in
        let left_was = groups_left split comes items tale d.active in
        let others = rest split comes tale d.phases.items in
        same_flag d.ordered e.ordered (now ++ (left_now ++ rest split comes tale e.phases.items)) ((now ++ left_now) ++ others) (answer tale) o
        (ap (λ ps. now ++ (left_now ++ rest split comes tale ps)) p ∙ sym (append_assoc now left_now others))
        (same_trans d.ordered ((now ++ left_now) ++ others) ((was ++ left_was) ++ others) (answer tale) (same_behind d.ordered (now ++ left_now) (was ++ left_was) others (m.groups tale all s.ok))
        (same_path d.ordered ((was ++ left_was) ++ others) (was ++ (left_was ++ others)) (answer tale) (append_assoc was left_was others) (s.sums all))));
  }

  pub stops_more : (tale : List (Told I)) (d e : Drive W R F) → IsMore split comes items d.ordered d.active e.active d.chunks.items e.chunks.items d.left e.left
      → (AllOk split comes items tale d.active → AllOk split comes items tale e.active) → e.phases.items ≡ d.phases.items → e.ordered ≡ d.ordered → e.tally ≡ d.tally → Sound split comes items tale d
      → StopsAt split comes items tale d e
  stops_more tale d e m ok p o t s = (sound_more tale d e m ok p o t s, m.counts.room, m.counts.limit)

  -- a file is not read, and all before it is given
  pub stops_file : (tale : List (Told I)) (d e f : Drive W R F) (i : ℕ) (why : F) → phase_at e.phases.items i ≡ phase.Held why → Forgets i e.phases.items f.phases.items → f.active ≡ e.active
      → f.chunks ≡ e.chunks → f.ordered ≡ e.ordered → f.tally ≡ e.tally → f.left ≡ e.left → StopsAt split comes items tale d e → StopsAt split comes items tale d f
  stops_file tale d e f i why held g active chunks ordered tally left s = (
    record {
      phases = λ k. phases k (cases_eq k i);
      ok = subst (λ (a : Active W R). AllOk split comes items tale a) (sym active) s.0.ok;
      tally = subst (Rattle.scan_drive.specs.Turns.IsTally tale) (sym tally) s.0.tally;
      sums = λ all. same_flag e.ordered f.ordered (given items f.chunks.items ++ (groups_left split comes items tale f.active ++ rest split comes tale f.phases.items))
          (given items e.chunks.items ++ (groups_left split comes items tale e.active ++ rest split comes tale e.phases.items)) (answer tale) ordered
          (ap (λ gs. given items f.chunks.items ++ (groups_left split comes items tale f.active ++ gs)) (rest_stays split comes tale e.phases.items f.phases.items g.len all (λ a k. keeps k (cases_eq k i)))
          ∙ (λ j. given items (chunks j).items ++ (groups_left split comes items tale (active j) ++ rest split comes tale e.phases.items)))
          (s.0.sums all);
    },
    subst HasRoom (sym left) s.1,
    (λ j. limit_of (count (given items (chunks j).items)) (left j)) ∙ s.2,
  )
    where
      phases : (k : ℕ) → (k ≡ i) ⊎ (k ≢ i) → PhaseOk split comes (told_at tale k) (phase_at f.phases.items k)
      phases k (inl is) = subst (λ j. PhaseOk split comes (told_at tale j) (phase_at f.phases.items j)) (sym is) (subst (PhaseOk split comes (told_at tale i)) (sym g.here) tt)
      phases k (inr ne) = subst (PhaseOk split comes (told_at tale k)) (sym (g.others k ne)) (s.0.phases k)

      keeps : (k : ℕ) → (k ≡ i) ⊎ (k ≢ i) → phase_left split comes k (told_at tale k) (phase_at f.phases.items k) ≡ phase_left split comes k (told_at tale k) (phase_at e.phases.items k)
      keeps k (inl is) = subst (λ j. phase_left split comes j (told_at tale j) (phase_at f.phases.items j) ≡ phase_left split comes j (told_at tale j) (phase_at e.phases.items j)) (sym is)
          (ap (phase_left split comes i (told_at tale i)) g.here ∙ sym (ap (phase_left split comes i (told_at tale i)) held))
      keeps k (inr ne) = ap (phase_left split comes k (told_at tale k)) (g.others k ne)

  -- splits were polled and their rows given
  pub settled : (asking : List ℕ) (d e : Drive W R F) → e.phases.items ≡ d.phases.items → e.first ≡ d.first → e.tally ≡ d.tally → e.report ≡ d.report → e.ordered ≡ d.ordered
      → KeepsFiles d.active.slots.items d.chunks.items e.chunks.items
      → ((n : ℕ) → IsReady n d.active → IsReady n e.active) → HaltsStay d.active.slots.items e.active.slots.items → AreAsking asking e.active.slots.items → no_repeats asking ≡ true →
      ((desks : List Waiters) → EachLinked desks d.active.slots.items → EachLinkedBut asking desks e.active.slots.items)
      → ((tale : List (Told I)) → AllOk split comes items tale d.active → AskNamed tale asking e.active.slots.items)
      → ((tale : List (Told I)) → AllOk split comes items tale d.active → AllOk split comes items tale e.active) →
      IsMore split comes items d.ordered d.active e.active d.chunks.items e.chunks.items d.left e.left →
      TurnsWait e.active × ((slots_steps split e.active.slots.items < slots_steps split d.active.slots.items) ⊎ ((slots_steps split e.active.slots.items ≤ slots_steps split d.active.slots.items) × (e.active.turns.items ≡ d.active.turns.items))) →
      (e.active.turns.items ≡ [] → IsEnd e.first e.tally e.phases.items → ⊥) → IsBudget e.ordered e.left e.budget → Settles split comes items asking d e
  settled asking d e p f t r ordered files ready halts asks once links named ok more steps goes budget = record {
    phases = p;
    first = f;
    tally = t;
    report = r;
    ordered = ordered;
    files = files;
    stands = λ n s. record {
      lens = ap length p ∙ s.lens;
      first = subst (λ k. k ≤ n) (sym f) s.first;
      below = subst (λ k. SpentBelow e.phases.items k) (sym f) (subst (λ ps. SpentBelow ps d.first) (sym p) s.below);
      ready = ready n s.ready;
      room = more.counts.room;
      budget = budget;
    };
    halts = halts;
    asks = asks;
    once = once;
    links = links;
    named = named;
    sound = λ tale s. sound_more tale d e more (ok tale) p ordered t s;
    limit = more.counts.limit;
    order = more.order;
    waits = steps.0;
    goes = goes;
    steps = steps.1;
  }

module _ {W F : Type 0} where
  pub too_many : (i : ℕ) (t : Tally) (p : Phase W F) (b : Bool) → b ≡ false → FitsIn i t p b → IsTooMany i t p
  too_many i t p true e h = absurd cc
  too_many i t p false e h = h

  pub fits_in : (i : ℕ) (t : Tally) (p : Phase W F) (b : Bool) → b ≡ true → FitsIn i t p b → IsTooMany i t p → ⊥
  fits_in i t p true e h = h
  fits_in i t p false e h = absurd cc

  pub not_end : (i : ℕ) (t : Tally) (ps : List (Phase W F)) → i < length ps → ((why : F) → phase_at ps i ≡ phase.Held why → ⊥) → (IsTooMany i t (phase_at ps i) → ⊥) → IsEnd i t ps → ⊥
  not_end i t ps lt h m (inl past) = absurd (omega (arith, past, lt))
  not_end i t ps lt h m (inr (inl w)) = h w.0 w.1
  not_end i t ps lt h m (inr (inr x)) = m x
