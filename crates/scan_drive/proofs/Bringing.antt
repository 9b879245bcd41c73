-- Polls of live requests bring the splits that wait nearer to their ends.
use Rattle.std.proofs.Common.{◌≡◌, ◌≢◌, ℕ, zero, suc, ◌+◌, ◌++◌, ◌<◌, ◌≤◌, List, [], ◌∷◌, length, set, get_or, get_or-set_same, get_or-set_other, Bool, true, false, ◌||◌, cond, eqb, Option, Some, None, is_some, inl, inr, refl, sym, ap, ◌∙◌, subst, arith}
use Rattle.std.specs.Prelude.{◌⊎◌, map, drop, IsPermutation}
use Rattle.std.proofs.lemmas.Bool.{cases_eq}
use Rattle.std.proofs.lemmas.Bool.Decides.{nat_tests}
use Rattle.std.proofs.lemmas.List.{get_or_default}
use Rattle.std.proofs.lemmas.List.Sorted.{IsPermutation-map}
use Rattle.scan_segments.proofs.LiveSets.{at-id}
use Rattle.scan_segments.specs.Source.{SourceState}
use Rattle.scan_values.specs.Selections.{is_among}
use Rattle.scan_splits.specs.Wanted.{no_repeats}
use Rattle.scan_splits.specs.declared.inbox.Arrival.{Arrival}
use Rattle.scan_drive.specs.Desks.{Waiters, waiters_at, waits, is_in, live_ids, Moves}
use Rattle.scan_drive.specs.Fetches.{WaitOn, BringsNearer}
use Rattle.scan_drive.specs.Links.{Linked}
use Rattle.scan_drive.specs.Measures.{IsNearer, EachAdvances}
use Rattle.scan_drive.specs.Slots.{slot_at, stage_waits, at_each, handed, given_up}
use Rattle.scan_drive.specs.Splits.{SplitState}
use Rattle.scan_drive.specs.Drives.{desk_at, BringsFileNearer}
use Rattle.scan_drive.specs.declared.files.ScanFile.{ScanFile}
use Rattle.scan_drive.specs.declared.slot.Halt.{Halt}
use Rattle.scan_drive.specs.declared.slot.Slot.{Slot}
use Rattle.scan_drive.proofs.Desking.{among_snoc}
use Rattle.scan_drive.proofs.Handing.{drop_next, or_right}
use Rattle.scan_drive.proofs.Linking.{each_at, take_all, waits_still}
use Rattle.scan_drive.proofs.Nearing.{all_each, nearer_then, nearer_handed, advances_handed, nearer_lost, advances_lost}
use Rattle.scan_drive.proofs.Same.{alike}

some_of : (b : Bool) (x : List ℕ) (o : Option (List ℕ)) → (b || is_some o) ≡ is_some (cond b (Some x) o)
some_of true x o = refl
some_of false x o = refl

among_live : (d : Waiters) (id : ℕ) → is_among (live_ids d) id ≡ is_some (waiters_at d id)
among_live [] id = refl
among_live (e ∷ d) id =
    ap (λ b. eqb e.0 id || b) (among_live d id) ∙ some_of (eqb e.0 id) e.1 (waiters_at d id) ∙ sym (ap (λ b. is_some (cond b (Some e.1) (waiters_at d id))) (at-id id e.0))

other_id : (x id : ℕ) (rest : List ℕ) → x ≢ id → is_among (x ∷ rest) id ≡ true → is_among rest id ≡ true
other_id x id rest n m = go (eqb x id) refl
  where
    go : (b : Bool) → eqb x id ≡ b → is_among rest id ≡ true
    go true e = let same : x ≡ id = grind (arith, nat_tests) in absurd (n same)
    go false e = sym (ap (λ b. b || is_among rest id) e) ∙ m

-- an id for which a place waits is live
waits_live : (d : Waiters) (id place : ℕ) → waits d id place ≡ true → is_some (waiters_at d id) ≡ true
waits_live d id place w = go (waiters_at d id) w
  where
    go : (o : Option (List ℕ)) → is_in o place ≡ true → is_some o ≡ true
    go None v = v
    go (Some places) v = refl

pub on_stay : (id : ℕ) (d e : Waiters) → e ≡ d → WaitOn id d e
on_stay id d e is q place n w = ap (λ (x : Waiters). waits x q place) is ∙ w

pub on_ended : (id : ℕ) (d e : Waiters) → Moves id None d e → WaitOn id d e
on_ended id d e m q place n w = waits_still id d e m q place n w

module _ {W I R : Type 0} (split : W → SplitState I) where
  pub came_advances : (file id : ℕ) (a : Arrival) (places : List ℕ) (d : Waiters) (slots : List (Slot W R)) → Linked file d slots → waiters_at d id ≡ Some places → no_repeats places ≡ true → EachAdvances split slots (at_each (handed id a) places slots)
  came_advances file id a places d slots l is once = all_each split id (handed id a) places slots (take_all file id places d slots l is) once (λ s t. advances_handed split id a s t)

  pub lost_advances : (file id : ℕ) (h : Halt) (places : List ℕ) (d : Waiters) (slots : List (Slot W R)) → Linked file d slots → waiters_at d id ≡ Some places → no_repeats places ≡ true → EachAdvances split slots (at_each (given_up h) places slots)
  lost_advances file id h places d slots l is once = all_each split id (given_up h) places slots (take_all file id places d slots l is) once (λ s t. advances_lost split h s)

  ended_nearer : (file id : ℕ) (f : Slot W R → Slot W R) (places : List ℕ) (s t : SourceState) (d : Waiters) (slots : List (Slot W R)) → Linked file d slots → waiters_at d id ≡ Some places
      → no_repeats places ≡ true → ((x : Slot W R) → stage_waits x.stage id ≡ true → IsNearer split x (f x)) → BringsNearer split id s t d slots (at_each f places slots)
  ended_nearer file id f places s t d slots l is once h place w v =
      let m : is_among places place ≡ true = sym (ap (λ o. is_in o place) is) ∙ w in
      let at : slot_at (at_each f places slots) place ≡ f (slot_at slots place) = each_at id f places slots place (take_all file id places d slots l is) once ∙ ap (λ b. cond b (f (slot_at slots place)) (slot_at slots place)) m in
      inr (subst (IsNearer split (slot_at slots place)) (sym at) (h (slot_at slots place) v))

  pub came_nearer : (file id : ℕ) (a : Arrival) (places : List ℕ) (s t : SourceState) (d : Waiters) (slots : List (Slot W R)) → Linked file d slots → waiters_at d id ≡ Some places → no_repeats places ≡ true → BringsNearer split id s t d slots (at_each (handed id a) places slots)
  came_nearer file id a places s t d slots l is once = ended_nearer file id (handed id a) places s t d slots l is once (λ x w. nearer_handed split id a x w)

  pub lost_nearer : (file id : ℕ) (h : Halt) (places : List ℕ) (s t : SourceState) (d : Waiters) (slots : List (Slot W R)) → Linked file d slots → waiters_at d id ≡ Some places → no_repeats places ≡ true → BringsNearer split id s t d slots (at_each (given_up h) places slots)
  lost_nearer file id h places s t d slots l is once = ended_nearer file id (given_up h) places s t d slots l is once (λ x w. nearer_lost split h id x w)

  pub pending_nearer : (id : ℕ) (s t : SourceState) (d : Waiters) (old new : List (Slot W R)) → t.turns < s.turns → BringsNearer split id s t d old new
  pending_nearer id s t d old new lt place w v = inl lt

  -- a split that waited for one of these ids is nearer to its end, or still waits, and the id is still to be polled
  pub record Fetching (ids rest : List ℕ) (s t : SourceState) (d e : Waiters) (old now : List (Slot W R)) : Type 0 where
    pub turns : t.turns ≤ s.turns
    pub at : (id place : ℕ) → is_among ids id ≡ true → waits d id place ≡ true → stage_waits (slot_at old place).stage id ≡ true
        → ((t.turns < s.turns) ⊎ IsNearer split (slot_at old place) (slot_at now place)) ⊎ ((is_among rest id ≡ true) × (waits e id place ≡ true) × (slot_at now place ≡ slot_at old place))

  pub fetching_all : (ids : List ℕ) (s : SourceState) (d : Waiters) (slots : List (Slot W R)) → Fetching ids ids s s d d slots slots
  fetching_all ids s d slots = record { turns = omega arith; at = λ id place m w v. inr (m, w, refl) }

  -- an id is polled
  pub fetching_next : (x : ℕ) (ids rest : List ℕ) (s t u : SourceState) (d e f : Waiters) (old now new : List (Slot W R)) → Fetching ids (x ∷ rest) s t d e old now → u.turns ≤ t.turns → WaitOn x e f → EachAdvances split now new → BringsNearer split x t u e now new → Fetching ids rest s u d f old new
  fetching_next x ids rest s t u d e f old now new h less on adv near = record {
    turns = let a = h.turns in omega arith;
    at = λ id place m w v. go id place v (h.at id place m w v);
  }
    where
      Near : ℕ → Type 0
      Near place = (u.turns < s.turns) ⊎ IsNearer split (slot_at old place) (slot_at new place)

      go : (id place : ℕ) → stage_waits (slot_at old place).stage id ≡ true → ((t.turns < s.turns) ⊎ IsNearer split (slot_at old place) (slot_at now place)) ⊎ ((is_among (x ∷ rest) id ≡ true) × (waits e id place ≡ true) × (slot_at now place ≡ slot_at old place)) →
          Near place ⊎ ((is_among rest id ≡ true) × (waits f id place ≡ true) × (slot_at new place ≡ slot_at old place))
      go id place v (inl (inl lt)) = inl (inl (omega (arith, lt, less)))
      go id place v (inl (inr n)) = inl (inr (nearer_then split (slot_at old place) (slot_at now place) (slot_at new place) n (adv.at place)))
      go id place v (inr r) = cases (cases_eq x id)
        where
          nears : (u.turns < t.turns) ⊎ IsNearer split (slot_at now place) (slot_at new place) → Near place
          nears (inl lt) = inl (let a = h.turns in omega (arith, lt, a))
          nears (inr n) = inr (subst (λ (z : Slot W R). IsNearer split z (slot_at new place)) r.2 n)

          cases : (x ≡ id) ⊎ (x ≢ id) → Near place ⊎ ((is_among rest id ≡ true) × (waits f id place ≡ true) × (slot_at new place ≡ slot_at old place))
          cases (inl is) = inl (nears (near place (ap (λ i. waits e i place) is ∙ r.1) (ap (stage_waits (slot_at now place).stage) is ∙ ap (λ (z : Slot W R). stage_waits z.stage id) r.2 ∙ v)))
          cases (inr n) = step (adv.at place).nears
            where
              step : (slot_at new place ≡ slot_at now place) ⊎ IsNearer split (slot_at now place) (slot_at new place) → Near place ⊎ ((is_among rest id ≡ true) × (waits f id place ≡ true) × (slot_at new place ≡ slot_at old place))
              step (inl same) = inr (other_id x id rest n r.0, on id place (λ k. n (sym k)) r.1, same ∙ r.2)
              step (inr k) = inl (nears (inr k))

  -- an id that is not live is left out
  pub fetching_skip : (x : ℕ) (ids rest : List ℕ) (s t : SourceState) (d e : Waiters) (old now : List (Slot W R)) → Fetching ids (x ∷ rest) s t d e old now → is_some (waiters_at e x) ≡ false → Fetching ids rest s t d e old now
  fetching_skip x ids rest s t d e old now h off = record { turns = h.turns; at = λ id place m w v. go id place (h.at id place m w v) }
    where
      go : (id place : ℕ) → ((t.turns < s.turns) ⊎ IsNearer split (slot_at old place) (slot_at now place))
          ⊎ ((is_among (x ∷ rest) id ≡ true) × (waits e id place ≡ true) × (slot_at now place ≡ slot_at old place))
          → ((t.turns < s.turns) ⊎ IsNearer split (slot_at old place) (slot_at now place)) ⊎ ((is_among rest id ≡ true) × (waits e id place ≡ true) × (slot_at now place ≡ slot_at old place))
      go id place (inl n) = inl n
      go id place (inr r) = cases (cases_eq x id)
        where
          cases : (x ≡ id) ⊎ (x ≢ id) → ((t.turns < s.turns) ⊎ IsNearer split (slot_at old place) (slot_at now place)) ⊎ ((is_among rest id ≡ true) × (waits e id place ≡ true) × (slot_at now place ≡ slot_at old place))
          cases (inl is) = let bad = sym off ∙ ap (λ k. is_some (waiters_at e k)) is ∙ waits_live e id place r.1 in absurd cc
          cases (inr n) = inr (other_id x id rest n r.0, r.1, r.2)

  -- all live ids were polled
  pub fetched_nearer : (ids : List ℕ) (s t : SourceState) (d : Waiters) (old new : List (Slot W R)) → ids ≡ live_ids d → ((id : ℕ) → is_among ids id ≡ true → BringsNearer split id s t d old new) → (id : ℕ) → BringsNearer split id s t d old new
  fetched_nearer ids s t d old new is h id place w v = h id (ap (λ (xs : List ℕ). is_among xs id) is ∙ among_live d id ∙ waits_live d id place w) place w v

-- a file and its desk are as they were
pub record IsUntouched {O S : Type 0} (k : ℕ) (files0 files : List (ScanFile O S)) (desks0 desks : List Waiters) : Type 0 where
  pub file : (f : ScanFile O S) → get_or files k f ≡ get_or files0 k f
  pub desk : desk_at desks k ≡ desk_at desks0 k

module _ {O S W I R : Type 0} (source : S → SourceState) (split : W → SplitState I) where
  -- each of the files at these places was polled, or it is among the rest and is as it was
  abbrev pub PolledBut : List ℕ → List ℕ → List (ScanFile O S) → List (ScanFile O S) → List Waiters → List Waiters → List (Slot W R) → List (Slot W R) → Type 0
  PolledBut all rest files0 files desks0 desks slots0 slots =
      (k : ℕ) → is_among all k ≡ true → BringsFileNearer source split k files0 files desks0 slots0 slots ⊎ ((is_among rest k ≡ true) × IsUntouched k files0 files desks0 desks)

  pub none_polled : (all : List ℕ) (files : List (ScanFile O S)) (desks : List Waiters) (slots : List (Slot W R)) → PolledBut all all files files desks desks slots slots
  none_polled all files desks slots k m = inr (m, record { file = λ f. refl; desk = refl })

  pub all_polled : (all rest : List ℕ) (files0 files : List (ScanFile O S)) (desks0 desks : List Waiters) (slots0 slots : List (Slot W R)) → rest ≡ [] → PolledBut all rest files0 files desks0 desks slots0 slots
      → (k : ℕ) → is_among all k ≡ true → BringsFileNearer source split k files0 files desks0 slots0 slots
  all_polled all rest files0 files desks0 desks slots0 slots e h k m = go (h k m)
    where
      go : BringsFileNearer source split k files0 files desks0 slots0 slots ⊎ ((is_among rest k ≡ true) × IsUntouched k files0 files desks0 desks) → BringsFileNearer source split k files0 files desks0 slots0 slots
      go (inl b) = b
      go (inr r) = let bad : false ≡ true = sym (ap (λ (xs : List ℕ). is_among xs k) e) ∙ r.0 in absurd cc

  -- one file more is polled
  pub polled_more : (all rest : List ℕ) (i : ℕ) (files0 files : List (ScanFile O S)) (desks0 desks : List Waiters) (slots0 slots new : List (Slot W R)) (x y : ScanFile O S) (d e : Waiters)
      → i < length files → i < length desks → x ≡ get_or files i x → d ≡ get_or desks i d → (source y.source).turns ≤ (source x.source).turns → EachAdvances split slots0 slots → EachAdvances split slots new →
      ((id : ℕ) → BringsNearer split id (source x.source) (source y.source) d slots new) → PolledBut all (i ∷ rest) files0 files desks0 desks slots0 slots → PolledBut all rest files0 (set files i y) desks0 (set desks i e) slots0 new
  polled_more all rest i files0 files desks0 desks slots0 slots new x y d e lt dlt at dat fell before adv near h k m = go (h k m) (cases_eq i k)
    where
      Goal : Type 0
      Goal = BringsFileNearer source split k files0 (set files i y) desks0 slots0 new ⊎ ((is_among rest k ≡ true) × IsUntouched k files0 (set files i y) desks0 (set desks i e))

      x_at : (f : ScanFile O S) → x ≡ get_or files i f
      x_at f = at ∙ get_or_default files i x f lt

      y_at : (f : ScanFile O S) → get_or (set files i y) i f ≡ y
      y_at f = get_or-set_same files i y f lt

      -- what was polled before stays so
      turns : (f : ScanFile O S) → (i ≡ k) ⊎ (i ≢ k) → (source (get_or (set files i y) k f).source).turns ≤ (source (get_or files k f).source).turns
      turns f (inl is) =
          let a : (source (get_or (set files i y) k f).source).turns ≡ (source y.source).turns = sym (ap (λ j. (source (get_or (set files i y) j f).source).turns) is) ∙ ap (λ (z : ScanFile O S). (source z.source).turns) (y_at f) in
          let b : (source x.source).turns ≡ (source (get_or files k f).source).turns = ap (λ (z : ScanFile O S). (source z.source).turns) (x_at f) ∙ ap (λ j. (source (get_or files j f).source).turns) is in
          omega (arith, a, b, fell)
      turns f (inr n) =
          let a : (source (get_or (set files i y) k f).source).turns ≡ (source (get_or files k f).source).turns = ap (λ (z : ScanFile O S). (source z.source).turns) (get_or-set_other files i k y f (λ q. n (sym q))) in
          omega (arith, a)

      stays : BringsFileNearer source split k files0 files desks0 slots0 slots → BringsFileNearer source split k files0 (set files i y) desks0 slots0 new
      stays b f id place w v = later (b f id place w v)
        where
          later : ((source (get_or files k f).source).turns < (source (get_or files0 k f).source).turns) ⊎ IsNearer split (slot_at slots0 place) (slot_at slots place)
              → ((source (get_or (set files i y) k f).source).turns < (source (get_or files0 k f).source).turns) ⊎ IsNearer split (slot_at slots0 place) (slot_at new place)
          later (inl l) = let t = turns f (cases_eq i k) in inl (omega (arith, l, t))
          later (inr g) = inr (nearer_then split (slot_at slots0 place) (slot_at slots place) (slot_at new place) g (adv.at place))

      -- it is polled now
      polls : i ≡ k → IsUntouched k files0 files desks0 desks → BringsFileNearer source split k files0 (set files i y) desks0 slots0 new
      polls is u f id place w v = slot (before.at place).nears
        where
          Now : Type 0
          Now = ((source (get_or (set files i y) k f).source).turns < (source (get_or files0 k f).source).turns) ⊎ IsNearer split (slot_at slots0 place) (slot_at new place)

          ds : d ≡ desk_at desks0 k
          ds = dat ∙ get_or_default desks i d [] dlt ∙ ap (desk_at desks) is ∙ u.desk

          x_was : (source x.source).turns ≡ (source (get_or files0 k f).source).turns
          x_was = ap (λ (z : ScanFile O S). (source z.source).turns) (x_at f) ∙ ap (λ j. (source (get_or files j f).source).turns) is ∙ ap (λ (z : ScanFile O S). (source z.source).turns) (u.file f)

          y_is : (source (get_or (set files i y) k f).source).turns ≡ (source y.source).turns
          y_is = sym (ap (λ j. (source (get_or (set files i y) j f).source).turns) is) ∙ ap (λ (z : ScanFile O S). (source z.source).turns) (y_at f)

          slot : (slot_at slots place ≡ slot_at slots0 place) ⊎ IsNearer split (slot_at slots0 place) (slot_at slots place) → Now
          slot (inr g) = inr (nearer_then split (slot_at slots0 place) (slot_at slots place) (slot_at new place) g (adv.at place))
          slot (inl same) = by (near id place (ap (λ (z : Waiters). waits z id place) ds ∙ w) (ap (λ (s : Slot W R). stage_waits s.stage id) same ∙ v))
            where
              by : ((source y.source).turns < (source x.source).turns) ⊎ IsNearer split (slot_at slots place) (slot_at new place) → Now
              by (inl l) = inl (omega (arith, l, x_was, y_is))
              by (inr g) = inr (subst (λ (s : Slot W R). IsNearer split s (slot_at new place)) same g)

      go : BringsFileNearer source split k files0 files desks0 slots0 slots ⊎ ((is_among (i ∷ rest) k ≡ true) × IsUntouched k files0 files desks0 desks) → (i ≡ k) ⊎ (i ≢ k) → Goal
      go (inl b) c = inl (stays b)
      go (inr r) (inl is) = inl (polls is r.1)
      go (inr r) (inr n) = inr (
        other_id i k rest n r.0,
        record {
          file = λ f. get_or-set_other files i k y f (λ q. n (sym q)) ∙ r.1.file f;
          desk = get_or-set_other desks i k e [] (λ q. n (sym q)) ∙ r.1.desk;
        },
      )

-- ---- the desks that are polled, each file with its place
abbrev pub places : List (ℕ × ℕ) → List ℕ
places found = map (λ (p : ℕ × ℕ). p.1) found

pub places_next : (found : List (ℕ × ℕ)) (i : ℕ) (p : ℕ × ℕ) → i < length found → p ≡ get_or found i p → places (drop i found) ≡ p.1 ∷ places (drop (i + 1) found)
places_next found i p lt e = ap places (drop_next found i p lt) ∙ ap (λ (q : ℕ × ℕ). q.1 ∷ places (drop (i + 1) found)) (sym e)

pub places_end : (found : List (ℕ × ℕ)) (i : ℕ) → length found ≤ i → places (drop i found) ≡ []
places_end [] zero le = refl
places_end [] (suc i) le = refl
places_end (x ∷ found) zero le = absurd (omega (arith, le))
places_end (x ∷ found) (suc i) le = places_end found i (omega (arith, le))

-- one more in the list
pub places_pushed : (first place k : ℕ) (n : ℕ) (found : List (ℕ × ℕ)) → ((j : ℕ) → first ≤ j → j < place → is_among (places found) j ≡ true) → first ≤ k → k < place + 1 → is_among (places (found ++ (n, place) ∷ [])) k ≡ true
places_pushed first place k n found h from to = ap (λ (xs : List ℕ). is_among xs k) (appended found) ∙ among_snoc (places found) place k ∙ either (cases_eq place k)
  where
    appended : (xs : List (ℕ × ℕ)) → places (xs ++ (n, place) ∷ []) ≡ places xs ++ place ∷ []
    appended [] = refl
    appended (x ∷ xs) = ap (λ (ys : List ℕ). x.1 ∷ ys) (appended xs)

    either : (place ≡ k) ⊎ (place ≢ k) → (is_among (places found) k || eqb place k) ≡ true
    either (inl is) = let on : eqb place k ≡ true = grind (arith, nat_tests) in or_right (is_among (places found) k) (eqb place k) on
    either (inr n) = let b : is_among (places found) k ≡ true = h k from (omega (arith, to, n)) in ap (λ c. c || eqb place k) b

-- the same in another order
pub places_sorted : (k : ℕ) (xs ys : List (ℕ × ℕ)) → IsPermutation xs ys → is_among (places xs) k ≡ true → is_among (places ys) k ≡ true
places_sorted k xs ys p m = sym ((alike (places xs) (places ys) (IsPermutation-map (λ q. q.1) xs ys p)).0 k) ∙ m
