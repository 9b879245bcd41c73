-- How often openers were polled, and how early.
use Rattle.std.proofs.Common.{◌≡◌, ◌≢◌, ℕ, ◌+◌, ◌-◌, ◌<◌, ◌≤◌, List, length, get_or, set, inl, inr, refl, sym, ap, ◌∙◌, subst, arith, get_or-set_same, get_or-set_other}
use Rattle.std.specs.Prelude.{◌⊎◌, Option, Bool, true, false}
use Rattle.std.proofs.lemmas.Bool.{cases_eq}
use Rattle.std.proofs.lemmas.List.{get_or_default}
use Rattle.scan_segments.specs.Faults.{Rose, RaisedBy}
use Rattle.scan_drive.specs.Files.{Told}
use Rattle.scan_drive.specs.Openers.{OpenerState, PolledOnce, as_number}
use Rattle.scan_drive.specs.Phases.{phase_at, is_unopened, IsSpent, SpentBelow}
use Rattle.scan_drive.specs.Polls.{IsPolledIn, StandsIn, OpenersRest, opener_at, PollsFirst, AllPolled, OpensFirst, PollsGrow, PollsStand, PollsFit, GivesUpTo, ArePolledLate, PollsOn}
use Rattle.scan_drive.specs.declared.files.ScanFile.{ScanFile}
use Rattle.scan_drive.specs.declared.phase.Phase.{Phase}
use Rattle.scan_drive.specs.declared.phase.Phase.TheVariants as phase
use Rattle.scan_drive.proofs.Handing.{le_or_lt}

-- ---- counts
rose_then : (a b c : ℕ) → Rose a b → RaisedBy 1 b c → Rose a c
rose_then a b c h r = let x = r.least in omega (arith, h, x)

rose_once : (a b c : ℕ) → a ≤ b → RaisedBy 1 b c → Rose a c
rose_once a b c h r = let x = r.least in omega (arith, h, x)

spent_open : {W F : Type 0} (p : Phase W F) → IsSpent p → is_unopened p ≡ 0
spent_open phase.Unopened h = absurd h
spent_open (phase.Queued ws rows) h = refl
spent_open (phase.Held f) h = absurd h

-- ---- one opener
module _ {I : Type 0} where
  -- what a poll does, if there is one
  record Goes (s t : OpenerState I) : Type 0 where
    grows : s.polled ≤ t.polled
    most : t.polled + t.turns ≤ s.polled + s.turns + 1
    rose : (n : ℕ) → Rose n s.polled → Rose n t.polled

  once_goes : (s t : OpenerState I) → PolledOnce s t → Goes s t
  once_goes s t h = record {
    grows = h.grows;
    most = let a = h.polled.most in let b = h.moves.turns in omega (arith, a, b);
    rose = λ n r. rose_then n s.polled t.polled r h.polled;
  }

module _ {O I : Type 0} (state : O → OpenerState I) where
  rests_goes : (a b : O) → b ≡ a → Goes (state a) (state b)
  rests_goes a b e = subst (λ (o : O). Goes (state a) (state o)) (sym e) (record { grows = omega arith; most = omega arith; rose = λ n r. r })

module _ {O W I F : Type 0} (state : O → OpenerState I) where
  goes : (p : Phase W F) (a b : O) → IsPolledIn state p a b → Goes (state a) (state b)
  goes phase.Unopened a b h = once_goes (state a) (state b) h
  goes (phase.Queued ws rows) a b h = rests_goes state a b h
  goes (phase.Held f) a b h = rests_goes state a b h

  -- it was polled, as far as its count can rise
  rises : (p : Phase W F) (s : OpenerState I) (a b : O) → StandsIn p s (state a) → IsPolledIn state p a b → Rose s.polled (state b).polled
  rises phase.Unopened s a b st h = rose_once s.polled (state a).polled (state b).polled st.grows h.polled
  rises (phase.Queued ws rows) s a b st h = subst (λ (o : O). Rose s.polled (state o).polled) (sym h) (st.rose refl)
  rises (phase.Held f) s a b st h = subst (λ (o : O). Rose s.polled (state o).polled) (sym h) (st.rose refl)

  -- whatever the answer is
  fit_one : (p : Phase W F) (s : OpenerState I) (a b : O) → StandsIn p s (state a) → IsPolledIn state p a b → (state b).polled + (state b).turns ≤ s.polled + s.turns + 1
  fit_one phase.Unopened s a b st h = let x = st.most in let y = h.polled.most in let z = h.moves.turns in omega (arith, x, y, z)
  fit_one (phase.Queued ws rows) s a b st h = let x = st.most in let y : (state b).polled + (state b).turns ≡ (state a).polled + (state a).turns = ap (λ (o : O). (state o).polled + (state o).turns) h in omega (arith, x, y)
  fit_one (phase.Held f) s a b st h = let x = st.most in let y : (state b).polled + (state b).turns ≡ (state a).polled + (state a).turns = ap (λ (o : O). (state o).polled + (state o).turns) h in omega (arith, x, y)

  was_shut : (p : Phase W F) → 1 ≤ is_unopened p → p ≡ phase.Unopened
  was_shut phase.Unopened l = refl
  was_shut (phase.Queued ws rows) l = absurd (omega (arith, l))
  was_shut (phase.Held f) l = absurd (omega (arith, l))

  -- after an answer
  stand_one : (p q : Phase W F) (answered : Bool) (s : OpenerState I) (a b : O) → StandsIn p s (state a) → IsPolledIn state p a b → is_unopened q + as_number answered ≤ is_unopened p → (answered ≡ false → p ≡ phase.Unopened → (state b).turns < (state a).turns) → StandsIn q s (state b)
  stand_one p q answered s a b st h le fell = record {
    grows = let x = st.grows in let y = (goes p a b h).grows in omega (arith, x, y);
    most = go (le_or_lt 1 (is_unopened q));
    rose = λ e. rises p s a b st h;
  }
    where
      shut : (c : Bool) → as_number c ≡ 0 → c ≡ false
      shut true e = absurd (omega (arith, e))
      shut false e = refl

      polled : (r : Phase W F) → r ≡ phase.Unopened → StandsIn r s (state a) → IsPolledIn state r a b → (state b).turns < (state a).turns → (state b).polled + (state b).turns ≤ s.polled + s.turns
      polled phase.Unopened e x y lt = let u = x.most in let v = y.polled.most in omega (arith, u, v, lt)
      polled (phase.Queued ws rows) e x y lt = let bad : 0 ≡ 1 = ap is_unopened e in absurd (omega (arith, bad))
      polled (phase.Held f) e x y lt = let bad : 0 ≡ 1 = ap is_unopened e in absurd (omega (arith, bad))

      one : (r : Phase W F) → is_unopened r ≤ 1
      one phase.Unopened = omega arith
      one (phase.Queued ws rows) = omega arith
      one (phase.Held f) = omega arith

      go : (1 ≤ is_unopened q) ⊎ (is_unopened q < 1) → (state b).polled + (state b).turns + is_unopened q ≤ s.polled + s.turns + 1
      go (inr none) = let x = fit_one p s a b st h in omega (arith, x, none)
      go (inl is) =
          let was : p ≡ phase.Unopened = was_shut p (omega (arith, is, le)) in
          let bound = one p in
          let no : as_number answered ≡ 0 = omega (arith, is, le, bound) in
          let x = polled p was st h (fell (shut answered no) was) in
          let top = one q in
          omega (arith, x, top)

-- ---- the openers of files
module _ {O S W F I : Type 0} (state : O → OpenerState I) where
  -- no count of polls has fallen where one file more is polled
  pub grows_set : (old now : List (ScanFile O S)) (i : ℕ) (x y : ScanFile O S) (p : Phase W F) → i < length now → x ≡ get_or now i x → IsPolledIn state p x.opener y.opener → PollsGrow state old now → PollsGrow state old (set now i y)
  grows_set old now i x y p lt e h g k f = go (cases_eq k i)
    where
      go : (k ≡ i) ⊎ (k ≢ i) → (opener_at state old k f).polled ≤ (opener_at state (set now i y) k f).polled
      go (inl same) =
          let is : opener_at state (set now i y) k f ≡ state y.opener = ap (λ j. opener_at state (set now i y) j f) same ∙ ap (λ (z : ScanFile O S). state z.opener) (get_or-set_same now i y f lt) in
          let was : opener_at state now k f ≡ state x.opener = ap (λ j. opener_at state now j f) same ∙ ap (λ (z : ScanFile O S). state z.opener) (sym (e ∙ get_or_default now i x f lt)) in
          let a = g k f in
          let b = (goes state p x.opener y.opener h).grows in
          let u = ap (λ (s : OpenerState I). s.polled) is in
          let v = ap (λ (s : OpenerState I). s.polled) was in
          omega (arith, a, b, u, v)
      go (inr ne) = subst (λ (s : OpenerState I). (opener_at state old k f).polled ≤ s.polled) (sym (ap (λ (z : ScanFile O S). state z.opener) (get_or-set_other now i k y f ne))) (g k f)

module _ {O S I : Type 0} (state : O → OpenerState I) where
  -- no opener was polled
  pub fit_rest : (start old now : List (ScanFile O S)) → ((k : ℕ) (f : ScanFile O S) → (get_or now k f).opener ≡ (get_or old k f).opener) → PollsFit state start old → PollsFit state start now
  fit_rest start old now e h = record {
    grows = λ k f. subst (λ (o : O). (opener_at state start k f).polled ≤ (state o).polled) (sym (e k f)) (h.grows k f);
    most = λ k f. subst (λ (o : O). (state o).polled + (state o).turns ≤ (opener_at state start k f).polled + (opener_at state start k f).turns + 1) (sym (e k f)) (h.most k f);
    first = λ i j f lt has was. subst (λ (o : O). Rose (opener_at state start i f).polled (state o).polled) (sym (e i f)) (h.first i j f lt has (subst (λ (o : O). (opener_at state start j f).polled < (state o).polled) (e j f) was));
  }

module _ {O S W I F : Type 0} (state : O → OpenerState I) where
  pub stand_fit : (start now : List (ScanFile O S)) (ps : List (Phase W F)) → PollsStand state start now ps → PollsFit state start now
  stand_fit start now ps h = record {
    grows = λ k f. (h.at k f).grows;
    most = λ k f. (let x = (h.at k f).most in omega (arith, x));
    first = h.first;
  }

  -- files that were opened stay so
  pub stand_phases : (start now : List (ScanFile O S)) (ps qs : List (Phase W F)) → ((k : ℕ) → is_unopened (phase_at qs k) ≡ is_unopened (phase_at ps k)) → PollsStand state start now ps → PollsStand state start now qs
  stand_phases start now ps qs e h = record {
    at = λ k f. (let x = h.at k f in record {
      grows = x.grows;
      most = subst (λ n. (opener_at state now k f).polled + (opener_at state now k f).turns + n ≤ (opener_at state start k f).polled + (opener_at state start k f).turns + 1) (sym (e k)) x.most;
      rose = λ o. x.rose (sym (e k) ∙ o);
    });
    first = h.first;
    opened = λ i j f lt has o. h.opened i j f lt has (sym (e j) ∙ o);
  }

  -- no opener was polled
  pub stand_rest : (start old now : List (ScanFile O S)) (ps : List (Phase W F)) → ((k : ℕ) (f : ScanFile O S) → (get_or now k f).opener ≡ (get_or old k f).opener) → PollsStand state start old ps → PollsStand state start now ps
  stand_rest start old now ps e h = record {
    at = λ k f. subst (λ (o : O). StandsIn (phase_at ps k) (opener_at state start k f) (state o)) (sym (e k f)) (h.at k f);
    first = λ i j f lt has was. subst (λ (o : O). Rose (opener_at state start i f).polled (state o).polled) (sym (e i f)) (h.first i j f lt has (subst (λ (o : O). (opener_at state start j f).polled < (state o).polled) (e j f) was));
    opened = λ i j f lt has is. subst (λ (o : O). Rose (opener_at state start i f).polled (state o).polled) (sym (e i f)) (h.opened i j f lt has is);
  }

  -- those of open files were polled
  pub polled_below : (start now : List (ScanFile O S)) (ps : List (Phase W F)) (n : ℕ) → PollsStand state start now ps → SpentBelow ps n → AllPolled state n start now
  polled_below start now ps n h below k f lt = (h.at k f).rose (spent_open (phase_at ps k) (below k lt))

  -- the opener of one file is polled, unless the file is open
  module _ (start now : List (ScanFile O S)) (ps : List (Phase W F)) (i : ℕ) (x y : ScanFile O S) (p q : Phase W F) (lt : i < length now) (e : x ≡ get_or now i x) (plt : i < length ps) (pe : p ≡ get_or ps i p) (h : IsPolledIn state p x.opener y.opener) (st : PollsStand state start now ps) where
    was : (f : ScanFile O S) → opener_at state now i f ≡ state x.opener
    was f = ap (λ (z : ScanFile O S). state z.opener) (sym (e ∙ get_or_default now i x f lt))

    is : (f : ScanFile O S) → opener_at state (set now i y) i f ≡ state y.opener
    is f = ap (λ (z : ScanFile O S). state z.opener) (get_or-set_same now i y f lt)

    other : (k : ℕ) (f : ScanFile O S) → k ≢ i → opener_at state (set now i y) k f ≡ opener_at state now k f
    other k f ne = ap (λ (z : ScanFile O S). state z.opener) (get_or-set_other now i k y f ne)

    there : (f : ScanFile O S) → StandsIn p (opener_at state start i f) (state x.opener)
    there f = subst (λ (r : Phase W F). StandsIn r (opener_at state start i f) (state x.opener)) (sym (pe ∙ get_or_default ps i p phase.Unopened plt)) (subst (StandsIn (phase_at ps i) (opener_at state start i f)) (was f) (st.at i f))

    -- a fact of the openers at a place, as they are then
    at_place : (P : ℕ → ScanFile O S → OpenerState I → Type 0) → ((f : ScanFile O S) → P i f (state y.opener)) → ((k : ℕ) (f : ScanFile O S) → k ≢ i → P k f (opener_at state now k f)) → (k : ℕ) (f : ScanFile O S) → P k f (opener_at state (set now i y) k f)
    at_place P here others k f = go (cases_eq k i)
      where
        go : (k ≡ i) ⊎ (k ≢ i) → P k f (opener_at state (set now i y) k f)
        go (inl same) = subst (λ j. P j f (opener_at state (set now i y) j f)) (sym same) (subst (P i f) (sym (is f)) (here f))
        go (inr ne) = subst (P k f) (sym (other k f ne)) (others k f ne)

    rose_kept : (n k : ℕ) (f : ScanFile O S) → Rose n (opener_at state now k f).polled → Rose n (opener_at state (set now i y) k f).polled
    rose_kept n = at_place (λ k f s. Rose n (opener_at state now k f).polled → Rose n s.polled)
        (λ f r. (goes state p x.opener y.opener h).rose n (subst (λ (s : OpenerState I). Rose n s.polled) (was f) r)) (λ k f ne r. r)

    first_set : AllPolled state i start now → PollsFirst state start (set now i y)
    first_set polled k j f less has now-polled = go (cases_eq j i)
      where
        go : (j ≡ i) ⊎ (j ≢ i) → Rose (opener_at state start k f).polled (opener_at state (set now i y) k f).polled
        go (inl same) = rose_kept (opener_at state start k f).polled k f (polled k f (omega (arith, less, same)))
        go (inr ne) = rose_kept (opener_at state start k f).polled k f (st.first k j f less has (subst (λ (s : OpenerState I). (opener_at state start j f).polled < s.polled) (other j f ne) now-polled))

    pub fit_set : AllPolled state i start now → PollsFit state start (set now i y)
    fit_set polled = record {
      grows = at_place (λ k f s. (opener_at state start k f).polled ≤ s.polled)
          (λ f. (let a = (there f).grows in let b = (goes state p x.opener y.opener h).grows in omega (arith, a, b))) (λ k f ne. (st.at k f).grows);
      most = at_place (λ k f s. s.polled + s.turns ≤ (opener_at state start k f).polled + (opener_at state start k f).turns + 1)
          (λ f. fit_one state p (opener_at state start i f) x.opener y.opener (there f) h) (λ k f ne. (let a = (st.at k f).most in omega (arith, a)));
      first = first_set polled;
    }

    pub polled_set : AllPolled state i start now → AllPolled state (i + 1) start (set now i y)
    polled_set polled = at_place (λ k f s. k < i + 1 → Rose (opener_at state start k f).polled s.polled)
        (λ f l. rises state p (opener_at state start i f) x.opener y.opener (there f) h) (λ k f ne l. polled k f (omega (arith, ne, l)))

    opened_set : AllPolled state i start now → OpensFirst state start (set now i y) (set ps i q)
    opened_set polled k j f less has is = go (cases_eq j i)
      where
        go : (j ≡ i) ⊎ (j ≢ i) → Rose (opener_at state start k f).polled (opener_at state (set now i y) k f).polled
        go (inl same) = rose_kept (opener_at state start k f).polled k f (polled k f (omega (arith, less, same)))
        go (inr ne) = rose_kept (opener_at state start k f).polled k f (st.opened k j f less has (sym (ap is_unopened (get_or-set_other ps i j q phase.Unopened ne)) ∙ is))

    pub stand_set : (answered : Bool) → AllPolled state i start now → is_unopened q + as_number answered ≤ is_unopened p → (answered ≡ false → p ≡ phase.Unopened → (state y.opener).turns < (state x.opener).turns) → PollsStand state start (set now i y) (set ps i q)
    stand_set answered polled le fell = record {
      at = at_place (λ k f s. StandsIn (phase_at (set ps i q) k) (opener_at state start k f) s)
          (λ f. subst (λ (r : Phase W F). StandsIn r (opener_at state start i f) (state y.opener)) (sym (get_or-set_same ps i q phase.Unopened plt)) (stand_one state p q answered (opener_at state start i f) x.opener y.opener (there f) h le fell))
          (λ k f ne. subst (λ (r : Phase W F). StandsIn r (opener_at state start k f) (opener_at state now k f)) (sym (get_or-set_other ps i k q phase.Unopened ne)) (st.at k f));
      first = first_set polled;
      opened = opened_set polled;
    }

pub rest_set : {O S : Type 0} (first i : ℕ) (old now : List (ScanFile O S)) (y : ScanFile O S) → first ≤ i → OpenersRest first i old now → OpenersRest first (i + 1) old (set now i y)
rest_set {O} {S} first i old now y from h k f c = ap (λ (z : ScanFile O S). z.opener) (get_or-set_other now i k y f (ne c)) ∙ h k f (less c)
  where
    ne : (k < first) ⊎ (i + 1 ≤ k) → k ≢ i
    ne (inl lt) e = absurd (omega (arith, lt, from, e))
    ne (inr le) e = absurd (omega (arith, le, e))

    less : (k < first) ⊎ (i + 1 ≤ k) → (k < first) ⊎ (i ≤ k)
    less (inl lt) = inl lt
    less (inr le) = inr (omega (arith, le))

pub rest_done : {O S : Type 0} (first i last : ℕ) (old now : List (ScanFile O S)) → ((k : ℕ) → first ≤ k → last ≤ k → i ≤ k) → OpenersRest first i old now → OpenersRest first last old now
rest_done first i last old now past h k f c = go (le_or_lt first k) c
  where
    go : (first ≤ k) ⊎ (k < first) → (k < first) ⊎ (last ≤ k) → (get_or now k f).opener ≡ (get_or old k f).opener
    go (inr lt) d = h k f (inl lt)
    go (inl from) (inl lt) = h k f (inl lt)
    go (inl from) (inr to) = h k f (inr (past k from to))

-- ---- how early
module _ {O S I R : Type 0} (state : O → OpenerState I) (items : R → List I) where
  pub late_rest : (b : Bool) (workers : ℕ) (limit : Option ℕ) (tale : List (Told I)) (start old now : List (ScanFile O S)) → ((k : ℕ) (f : ScanFile O S) → (get_or now k f).opener ≡ (get_or old k f).opener) → ArePolledLate state items b workers limit tale start old →
      ArePolledLate state items b workers limit tale start now
  late_rest b workers limit tale start old now e h k f was = h k f (subst (λ (o : O). (opener_at state start k f).polled < (state o).polled) (e k f) was)

  -- openers of files were polled while all before one had been given, which are as many as there are workers at most
  pub late_polled : (b : Bool) (workers first last : ℕ) (limit : Option ℕ) (tale : List (Told I)) (start old now : List (ScanFile O S)) → OpenersRest first last old now → ((k : ℕ) → first ≤ k → k < last → GivesUpTo items b workers limit tale k) →
      ArePolledLate state items b workers limit tale start old → ArePolledLate state items b workers limit tale start now
  late_polled b workers first last limit tale start old now rest g h k f was = go (le_or_lt last k) (le_or_lt first k)
    where
      before : (k < first) ⊎ (last ≤ k) → GivesUpTo items b workers limit tale k
      before c = h k f (subst (λ (o : O). (opener_at state start k f).polled < (state o).polled) (rest k f c) was)

      go : (last ≤ k) ⊎ (k < last) → (first ≤ k) ⊎ (k < first) → GivesUpTo items b workers limit tale k
      go (inl past) from = before (inr past)
      go (inr lt) (inr less) = before (inl less)
      go (inr lt) (inl from) = g k from lt

  -- at the start none was polled
  pub late_first : (b : Bool) (workers : ℕ) (limit : Option ℕ) (tale : List (Told I)) (files : List (ScanFile O S)) → ArePolledLate state items b workers limit tale files files
  late_first b workers limit tale files k f was = absurd (omega (arith, was))

  pub on_rest : {W F : Type 0} (b : Bool) (workers : ℕ) (limit : Option ℕ) (tale : List (Told I)) (P : Type 0) (ps : List (Phase W F)) (old mid new : List (ScanFile O S)) → ((k : ℕ) (f : ScanFile O S) → (get_or new k f).opener ≡ (get_or mid k f).opener) →
      PollsOn state items b workers limit tale P ps old mid → PollsOn state items b workers limit tale P ps old new
  on_rest b workers limit tale P ps old mid new e h = record {
    grows = λ k f. subst (λ (o : O). (opener_at state old k f).polled ≤ (state o).polled) (sym (e k f)) (h.grows k f);
    fit = λ start st. fit_rest state start mid new e (h.fit start st);
    late = λ p start l. late_rest b workers limit tale start mid new e (h.late p start l);
  }

pub stand_first : {O S W I F : Type 0} (state : O → OpenerState I) (files : List (ScanFile O S)) (ps : List (Phase W F)) → ((k : ℕ) → phase_at ps k ≡ phase.Unopened) → PollsStand state files files ps
stand_first {F = F} state files ps shut = record {
  at = λ k f. record {
    grows = omega arith;
    most = (let e : is_unopened (phase_at ps k) ≡ 1 = ap is_unopened (shut k) in omega (arith, e));
    rose = λ o. (let e : is_unopened (phase_at ps k) ≡ 1 = ap is_unopened (shut k) in absurd (omega (arith, e, o)));
  };
  first = λ i j f lt has was. absurd (omega (arith, was));
  opened = λ i j f lt has is. (let e : is_unopened (phase_at ps j) ≡ 1 = ap is_unopened (shut j) in absurd (omega (arith, e, is)));
}
