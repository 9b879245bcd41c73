-- How often openers are polled, and how early, where files stand at other places.
use Rattle.std.proofs.Common.{◌≡◌, ℕ, ◌+◌, ◌-◌, ◌<◌, ◌≤◌, List, [], ◌∷◌, ◌++◌, length, get_or, Bool, true, false, inl, inr, refl, sym, ap, ◌∙◌, subst, arith}
use Rattle.std.specs.Prelude.{◌⊎◌, Option}
use Rattle.std.specs.List.{swap}
use Rattle.std.specs.List.Sorted.{SwapsInRange}
use Rattle.std.proofs.lemmas.List.{length-map}
use Rattle.scan_segments.specs.Faults.{Rose}
use Rattle.scan_segments.specs.Source.{SourceState}
use Rattle.scan_drive.specs.Drivings.{GivesBefore, PollsEnd}
use Rattle.scan_drive.specs.Files.{Told}
use Rattle.scan_drive.specs.Forward.{LineEdge, LineGives, LinePolls}
use Rattle.scan_drive.specs.Line.{exchange, exchanged, restored, placed_by, GivesSome}
use Rattle.scan_drive.specs.Moves.{tell, tells}
use Rattle.scan_drive.specs.Openers.{OpenerState}
use Rattle.scan_drive.specs.Phases.{phase_at, is_unopened}
use Rattle.scan_drive.specs.Polls.{opener_at, AllPolled, PollsStand, PollsFirst, GivesUpTo, ArePolledLate}
use Rattle.scan_drive.specs.Rounds.{IsLawful}
use Rattle.scan_drive.specs.Wants.{Cache}
use Rattle.scan_drive.specs.declared.files.ScanFile.{ScanFile}
use Rattle.scan_drive.specs.declared.phase.Phase.{Phase}
use Rattle.scan_drive.proofs.ExchangedAnswer.{gives_some, some_placed}
use Rattle.scan_drive.proofs.Exchanging.{swap_at, exchange_twice, exchange_below, exchanged_at, exchanged_restored, length_restored, length_exchanged, placed_below, placed_behind, range_more, map_exchanged}
use Rattle.scan_drive.proofs.Handing.{le_or_lt}

-- ---- places
-- exchanges after others
pub range_append : (n : ℕ) (ss ts : List (ℕ × ℕ)) → SwapsInRange n ss → SwapsInRange n ts → SwapsInRange n (ss ++ ts)
range_append n [] ts p q = q
range_append n (s ∷ ss) ts p q = (p.0, p.1, range_append n ss ts p.2 q)

pub exchanged_append : {X : Type 0} (ss ts : List (ℕ × ℕ)) (xs : List X) → exchanged (ss ++ ts) xs ≡ exchanged ts (exchanged ss xs)
exchanged_append [] ts xs = refl
exchanged_append (s ∷ ss) ts xs = exchanged_append ss ts (swap xs s.0 s.1)

pub placed_append : (ss ts : List (ℕ × ℕ)) (k : ℕ) → placed_by (ss ++ ts) k ≡ placed_by ss (placed_by ts k)
placed_append [] ts k = refl
placed_append (s ∷ ss) ts k = ap (exchange s.0 s.1) (placed_append ss ts k)

-- where that stands now which stood here
abbrev pub place_of : List (ℕ × ℕ) → ℕ → ℕ
place_of [] k = k
place_of (s ∷ ss) k = place_of ss (exchange s.0 s.1 k)

pub placed_place : (ss : List (ℕ × ℕ)) (k : ℕ) → placed_by ss (place_of ss k) ≡ k
placed_place [] k = refl
placed_place (s ∷ ss) k = ap (exchange s.0 s.1) (placed_place ss (exchange s.0 s.1 k)) ∙ exchange_twice s.0 s.1 k

place_below : (n : ℕ) (ss : List (ℕ × ℕ)) (k : ℕ) → SwapsInRange n ss → k < n → place_of ss k < n
place_below n [] k r lt = lt
place_below n (s ∷ ss) k r lt = place_below n ss (exchange s.0 s.1 k) r.2 (exchange_below n s.0 s.1 k r.0 r.1 lt)

pub place_behind : (m : ℕ) (ss : List (ℕ × ℕ)) (k : ℕ) → SwapsInRange m ss → m ≤ k → place_of ss k ≡ k
place_behind m ss k r le = sym (placed_behind m ss (place_of ss k) r past) ∙ placed_place ss k
  where
    past : m ≤ place_of ss k
    past = go (le_or_lt m (place_of ss k))
      where
        go : (m ≤ place_of ss k) ⊎ (place_of ss k < m) → m ≤ place_of ss k
        go (inl h) = h
        go (inr lt) = let x = placed_below m ss (place_of ss k) r lt in let y = placed_place ss k in absurd (omega (arith, x, y, le))

module _ {O S I : Type 0} (state : O → OpenerState I) (log : List (ℕ × ℕ)) (a e : List (ScanFile O S)) (n : length e ≡ length a) (r : SwapsInRange (length a) log) where
  -- the opener of a file, first and at the end, at the place where it stood
  old_at : (k : ℕ) (f : ScanFile O S) → opener_at state (exchanged log a) (place_of log k) f ≡ opener_at state a k f
  old_at k f = ap (λ (x : ScanFile O S). state x.opener) (exchanged_at log a (place_of log k) f r ∙ ap (λ j. get_or a j f) (placed_place log k))

  range_e : SwapsInRange (length (restored log e)) log
  range_e = subst (λ m. SwapsInRange m log) (sym (length_restored log e ∙ n)) r

  back_e : exchanged log (restored log e) ≡ e
  back_e = exchanged_restored log e (subst (λ m. SwapsInRange m log) (sym n) r)

  new_at : (k : ℕ) (f : ScanFile O S) → opener_at state e (place_of log k) f ≡ opener_at state (restored log e) k f
  new_at k f = ap (λ (xs : List (ScanFile O S)). opener_at state xs (place_of log k) f) (sym back_e)
      ∙ ap (λ (x : ScanFile O S). state x.opener) (exchanged_at log (restored log e) (place_of log k) f range_e ∙ ap (λ j. get_or (restored log e) j f) (placed_place log k))

  -- a fact of the openers at places, of files
  pub polled_back : (P : OpenerState I → OpenerState I → Type 0) → ((k : ℕ) (f : ScanFile O S) → P (opener_at state (exchanged log a) k f) (opener_at state e k f)) → (k : ℕ) (f : ScanFile O S) → P (opener_at state a k f) (opener_at state (restored log e) k f)
  polled_back P h k f = subst (λ (s : OpenerState I). P s (opener_at state (restored log e) k f)) (old_at k f) (subst (λ (s : OpenerState I). P (opener_at state (exchanged log a) (place_of log k) f) s) (new_at k f) (h (place_of log k) f))

  rose_back : (k : ℕ) (f : ScanFile O S) → Rose (opener_at state (exchanged log a) (place_of log k) f).polled (opener_at state e (place_of log k) f).polled → Rose (opener_at state a k f).polled (opener_at state (restored log e) k f).polled
  rose_back k f h = subst (λ (s : OpenerState I). Rose s.polled (opener_at state (restored log e) k f).polled) (old_at k f) (subst (λ (s : OpenerState I). Rose (opener_at state (exchanged log a) (place_of log k) f).polled s.polled) (new_at k f) h)

  was_back : (k : ℕ) (f : ScanFile O S) → (opener_at state a k f).polled < (opener_at state (restored log e) k f).polled → (opener_at state (exchanged log a) (place_of log k) f).polled < (opener_at state e (place_of log k) f).polled
  was_back k f h = subst (λ (s : OpenerState I). s.polled < (opener_at state e (place_of log k) f).polled) (sym (old_at k f)) (subst (λ (s : OpenerState I). (opener_at state a k f).polled < s.polled) (sym (new_at k f)) h)

  pub first_back : LineEdge state log (exchanged log a) e → PollsFirst state (exchanged log a) e → PollsFirst state a (restored log e)
  first_back g h i j f lt has was = go (le_or_lt g.edge j)
    where
      go : (g.edge ≤ j) ⊎ (j < g.edge) → Rose (opener_at state a i f).polled (opener_at state (restored log e) i f).polled
      go (inr below) = rose_back i f (g.polled (place_of log i) f (place_below g.edge log i g.within (omega (arith, lt, below))))
      go (inl past) = by (le_or_lt g.edge i)
        where
          by : (g.edge ≤ i) ⊎ (i < g.edge) → Rose (opener_at state a i f).polled (opener_at state (restored log e) i f).polled
          by (inr below) = rose_back i f (g.polled (place_of log i) f (place_below g.edge log i g.within below))
          by (inl over) =
              let x = place_behind g.edge log i g.within over in
              let y = place_behind g.edge log j g.within past in
              let l = length_exchanged log a in
              rose_back i f (h (place_of log i) (place_of log j) f (omega (arith, x, y, lt)) (omega (arith, y, has, l)) (was_back j f was))

module _ {O S R I : Type 0} (state : O → OpenerState I) (source : S → SourceState) (items : R → List I) where
  -- over lawful objects openers were polled as late as they may be
  gives_back : (workers : ℕ) (limit : Option ℕ) (c : Cache) (log : List (ℕ × ℕ)) (a e : List (ScanFile O S)) → length e ≡ length a → SwapsInRange (length a) log → LineGives state source items workers limit c a log e → IsLawful state source a c → (k : ℕ) (f : ScanFile O S)
      → (opener_at state a k f).polled < (opener_at state (restored log e) k f).polled → GivesSome items limit (tells state source a) k (k + 1 - workers)
  gives_back workers limit c log a e n r g law k f was = subst (λ j. GivesSome items limit (tells state source a) j (j + 1 - workers)) (placed_place log k) (g law (place_of log k) f (was_back state log a e n r k f was))

  -- of all calls since no file was open, with the files where they stood
  pub polls_back : (ordered : Bool) (workers : ℕ) (limit : Option ℕ) (c : Cache) (log : List (ℕ × ℕ)) (a e : List (ScanFile O S)) → length e ≡ length a → SwapsInRange (length a) log → (ordered ≡ true → log ≡ []) → LinePolls state source items ordered workers limit c a log e →
      PollsEnd state source items limit ordered workers c a (restored log e)
  polls_back ordered workers limit c log a e n r order h = record {
    grows = polled_back state log a e n r (λ s t. s.polled ≤ t.polled) h.fit.grows;
    most = polled_back state log a e n r (λ s t. t.polled + t.turns ≤ s.polled + s.turns + 1) h.fit.most;
    first = first_back state log a e n r h.line h.fit.first;
    late = λ o law k f was. h.late o law k f (subst (λ (xs : List (ScanFile O S)). (opener_at state a k f).polled < (opener_at state xs k f).polled) (ap (λ ss. restored ss e) (order o)) was);
    some = λ o law. gives_back workers limit c log a e n r h.gives law;
  }

-- ---- how early
module _ {O S R I : Type 0} (state : O → OpenerState I) (source : S → SourceState) (items : R → List I) (workers : ℕ) (limit : Option ℕ) (c : Cache) (files : List (ScanFile O S)) where
  -- as many of the files up to each at the front had been given as that one may wait for, and so of others that were polled
  pub record LineKnown (log : List (ℕ × ℕ)) (now : List (ScanFile O S)) : Type 0 where
    pub edge : ℕ
    pub within : SwapsInRange edge log
    pub gives : IsLawful state source files c → (k : ℕ) → k < edge → GivesSome items limit (tells state source files) (placed_by log k) (placed_by log k + 1 - workers)
    pub later : IsLawful state source files c → (k : ℕ) (f : ScanFile O S) → edge ≤ k → (opener_at state (exchanged log files) k f).polled < (opener_at state now k f).polled → GivesSome items limit (tells state source files) k (k + 1 - workers)

  pub known_gives : (log : List (ℕ × ℕ)) (now : List (ScanFile O S)) → LineKnown log now → LineGives state source items workers limit c files log now
  known_gives log now h law k f was = go (le_or_lt h.edge k)
    where
      go : (h.edge ≤ k) ⊎ (k < h.edge) → GivesSome items limit (tells state source files) (placed_by log k) (placed_by log k + 1 - workers)
      go (inr below) = h.gives law k below
      go (inl past) = subst (λ j. GivesSome items limit (tells state source files) j (j + 1 - workers)) (sym (placed_behind h.edge log k h.within past)) (h.later law k f past was)

  pub known_start : LineKnown [] files
  known_start = record {
    edge = 0;
    within = tt;
    gives = λ law k lt. absurd (omega (arith, lt));
    later = λ law k f past was. absurd (omega (arith, was));
  }

  -- what was given before a file at its place was given of files up to it
  some_of : (b : Bool) (log : List (ℕ × ℕ)) (m k n : ℕ) → SwapsInRange (length files) log → SwapsInRange m log → m ≤ k → n ≤ k → GivesBefore items b limit (tells state source (exchanged log files)) n → GivesSome items limit (tells state source files) k n
  some_of b log m k n r w past le g = gives_some items limit (tells state source files) log m k n b (subst (λ j. SwapsInRange j log) (sym (length-map files (tell state source))) r) w past le
      (subst (λ (ts : List (Told I)). GivesBefore items b limit ts n) (map_exchanged (tell state source) log files r) g)

  -- so of files up to one at its place
  some_at : (log : List (ℕ × ℕ)) (m k n : ℕ) → SwapsInRange (length files) log → SwapsInRange m log → m ≤ k → GivesSome items limit (tells state source (exchanged log files)) k n → GivesSome items limit (tells state source files) k n
  some_at log m k n r w past g = some_placed items limit (tells state source files) log m k n (subst (λ j. SwapsInRange j log) (sym (length-map files (tell state source))) r) w past
      (subst (λ (ts : List (Told I)). GivesSome items limit ts k n) (map_exchanged (tell state source) log files r) g)

  some_up_to : (b : Bool) → 0 < workers → (log : List (ℕ × ℕ)) (m k : ℕ) → SwapsInRange (length files) log → SwapsInRange m log → m ≤ k → GivesUpTo items b workers limit (tells state source (exchanged log files)) k → GivesSome items limit (tells state source files) k (k + 1 - workers)
  some_up_to true pos log m k r w past g = some_of true log m k (k + 1 - workers) r w past (omega (arith, pos)) g
  some_up_to false pos log m k r w past g = some_at log m k (k + 1 - workers) r w past g

  pub known_wait : (b : Bool) → 0 < workers → (log : List (ℕ × ℕ)) (now new : List (ScanFile O S)) → SwapsInRange (length files) log → (IsLawful state source files c → ArePolledLate state items b workers limit (tells state source (exchanged log files)) now new) →
      LineKnown log now → LineKnown log new
  known_wait b pos log now new r late h = record {
    edge = h.edge;
    within = h.within;
    gives = h.gives;
    later = λ law k f past was. go law k f past was (le_or_lt (opener_at state now k f).polled (opener_at state (exchanged log files) k f).polled);
  }
    where
      go : IsLawful state source files c → (k : ℕ) (f : ScanFile O S) → h.edge ≤ k → (opener_at state (exchanged log files) k f).polled < (opener_at state new k f).polled →
          ((opener_at state now k f).polled ≤ (opener_at state (exchanged log files) k f).polled) ⊎ ((opener_at state (exchanged log files) k f).polled < (opener_at state now k f).polled) → GivesSome items limit (tells state source files) k (k + 1 - workers)
      go law k f past was (inr before) = h.later law k f past before
      go law k f past was (inl le) = some_up_to b pos log h.edge k r h.within past (late law k f (omega (arith, le, was)))

  -- places are exchanged, up to which all that may wait had been given
  pub known_line : (log places : List (ℕ × ℕ)) (now : List (ScanFile O S)) (last : ℕ) → length now ≡ length files → SwapsInRange (length files) log → SwapsInRange last places → last ≤ length files →
      (IsLawful state source files c → (k : ℕ) → k < last → GivesSome items limit (tells state source (exchanged log files)) k (k + 1 - workers)) → LineKnown log now → LineKnown (log ++ places) (exchanged places now)
  known_line log places now last n r w there g h = record {
    edge = top;
    within = range_append top log places (range_more h.edge top log (omega arith) h.within) range;
    gives = λ law k lt. subst (λ j. GivesSome items limit (tells state source files) j (j + 1 - workers)) (sym (placed_append log places k)) (front law (placed_by places k) (placed_below top places k range lt));
    later = λ law k f past was. h.later law k f (omega (arith, past)) (subst (λ (s : OpenerState I). (opener_at state (exchanged log files) k f).polled < s.polled) (new_is k f past)
        (subst (λ (s : OpenerState I). s.polled < (opener_at state (exchanged places now) k f).polled) (old_is k f past) was));
  }
    where
      top : ℕ
      top = h.edge + (last - h.edge)

      range : SwapsInRange (h.edge + (last - h.edge)) places
      range = range_more last (h.edge + (last - h.edge)) places (omega arith) w

      there_now : SwapsInRange (length now) places
      there_now = range_more last (length now) places (omega (arith, there, n)) w

      there_old : SwapsInRange (length (exchanged log files)) places
      there_old = let l = length_exchanged log files in range_more last (length (exchanged log files)) places (omega (arith, there, l)) w

      stays : (k : ℕ) → h.edge + (last - h.edge) ≤ k → placed_by places k ≡ k
      stays k past = placed_behind last places k w (omega (arith, past))

      new_is : (k : ℕ) (f : ScanFile O S) → h.edge + (last - h.edge) ≤ k → opener_at state (exchanged places now) k f ≡ opener_at state now k f
      new_is k f past = ap (λ (x : ScanFile O S). state x.opener) (exchanged_at places now k f there_now ∙ ap (λ j. get_or now j f) (stays k past))

      old_is : (k : ℕ) (f : ScanFile O S) → h.edge + (last - h.edge) ≤ k → opener_at state (exchanged (log ++ places) files) k f ≡ opener_at state (exchanged log files) k f
      old_is k f past = ap (λ (xs : List (ScanFile O S)). opener_at state xs k f) (exchanged_append log places files) ∙ ap (λ (x : ScanFile O S). state x.opener) (exchanged_at places (exchanged log files) k f there_old ∙ ap (λ j. get_or (exchanged log files) j f) (stays k past))

      front : IsLawful state source files c → (k : ℕ) → k < h.edge + (last - h.edge) → GivesSome items limit (tells state source files) (placed_by log k) (placed_by log k + 1 - workers)
      front law k lt = go (le_or_lt h.edge k)
        where
          go : (h.edge ≤ k) ⊎ (k < h.edge) → GivesSome items limit (tells state source files) (placed_by log k) (placed_by log k + 1 - workers)
          go (inr below) = h.gives law k below
          go (inl past) = subst (λ j. GivesSome items limit (tells state source files) j (j + 1 - workers)) (sym (placed_behind h.edge log k h.within past))
              (some_at log h.edge k (k + 1 - workers) r h.within past (g law k (omega (arith, past, lt))))

-- ---- one exchange more
module _ {O S W F I : Type 0} (state : O → OpenerState I) where
  -- the openers up to that of an open file were polled
  polled_to : (a b : List (ScanFile O S)) (ps : List (Phase W F)) (j : ℕ) → j < length a → is_unopened (phase_at ps j) ≡ 0 → PollsStand state a b ps → AllPolled state (j + 1) a b
  polled_to a b ps j has free st k f lt = go (le_or_lt j k)
    where
      go : (j ≤ k) ⊎ (k < j) → Rose (opener_at state a k f).polled (opener_at state b k f).polled
      go (inr below) = st.opened k j f below has free
      go (inl past) = let e : k ≡ j = omega (arith, past, lt) in (st.at k f).rose (ap (λ n. is_unopened (phase_at ps n)) e ∙ free)

  pub edge_swap : (log : List (ℕ × ℕ)) (i j : ℕ) (a b : List (ScanFile O S)) (ps : List (Phase W F)) → length b ≡ length a → i < j → j < length a → is_unopened (phase_at ps j) ≡ 0 → PollsStand state a b ps → LineEdge state log a b →
      LineEdge state (log ++ (i, j) ∷ []) (swap a i j) (swap b i j)
  edge_swap log i j a b ps n lt has free st g = record {
    edge = g.edge + (j + 1 - g.edge);
    within = range_append (g.edge + (j + 1 - g.edge)) log ((i, j) ∷ []) (range_more g.edge (g.edge + (j + 1 - g.edge)) log (omega arith) g.within) (omega (arith, lt), omega arith, tt);
    polled = λ k f below. subst (λ (s : OpenerState I). Rose s.polled (opener_at state (swap b i j) k f).polled) (sym (at_a k f)) (subst (λ (s : OpenerState I). Rose (opener_at state a (exchange i j k) f).polled s.polled) (sym (at_b k f))
        (all (exchange i j k) f (exchange_below (g.edge + (j + 1 - g.edge)) i j k (omega (arith, lt)) (omega arith) below)));
  }
    where
      at_a : (k : ℕ) (f : ScanFile O S) → opener_at state (swap a i j) k f ≡ opener_at state a (exchange i j k) f
      at_a k f = ap (λ (x : ScanFile O S). state x.opener) (swap_at a i j k f (omega (arith, lt, has)) has)

      at_b : (k : ℕ) (f : ScanFile O S) → opener_at state (swap b i j) k f ≡ opener_at state b (exchange i j k) f
      at_b k f = ap (λ (x : ScanFile O S). state x.opener) (swap_at b i j k f (omega (arith, lt, has, n)) (omega (arith, has, n)))

      all : AllPolled state (g.edge + (j + 1 - g.edge)) a b
      all k f below = go (le_or_lt g.edge k)
        where
          go : (g.edge ≤ k) ⊎ (k < g.edge) → Rose (opener_at state a k f).polled (opener_at state b k f).polled
          go (inr less) = g.polled k f less
          go (inl past) = polled_to a b ps j has free st k f (omega (arith, past, below))

module _ {O S I : Type 0} (state : O → OpenerState I) where
  pub edge_start : (a : List (ScanFile O S)) → LineEdge state [] a a
  edge_start a = record { edge = 0; within = tt; polled = λ k f lt. absurd (omega (arith, lt)) }

  -- openers that were polled once are polled
  pub edge_on : (log : List (ℕ × ℕ)) (a b e : List (ScanFile O S)) → ((k : ℕ) (f : ScanFile O S) → (opener_at state b k f).polled ≤ (opener_at state e k f).polled) → LineEdge state log a b → LineEdge state log a e
  edge_on log a b e h g = record { edge = g.edge; within = g.within; polled = λ k f lt. (let x = g.polled k f lt in let y = h k f in omega (arith, x, y)) }
