-- A drive in rounds since its start, of which places are exchanged after each answer of an opener.
use Rattle.std.proofs.Common.{◌≡◌, ℕ, ◌+◌, ◌-◌, ◌<◌, ◌≤◌, List, [], ◌∷◌, ◌++◌, length, Bool, true, refl, sym, ap, ◌∙◌, subst, arith}
use Rattle.std.specs.Prelude.{All, Option}
use Rattle.std.specs.List.{swap}
use Rattle.std.specs.List.Sorted.{SwapsInRange}
use Rattle.std.proofs.lemmas.List.{length-map}
use Rattle.std.proofs.lemmas.List.Edits.{length-swap}
use Rattle.scan_segments.specs.Source.{SourceState, Store}
use Rattle.scan_splits.specs.Arrivals.{Arrivals}
use Rattle.scan_drive.specs.Before.{SoundInOrder}
use Rattle.scan_drive.specs.Chunks.{HasRoom, KeepsRows}
use Rattle.scan_drive.specs.Desks.{Waiters}
use Rattle.scan_drive.specs.Drives.{DesksAgree, IsIdle}
use Rattle.scan_drive.specs.Ends.{limit_in}
use Rattle.scan_drive.specs.Files.{Told, AllTell}
use Rattle.scan_drive.specs.Forward.{LineEdge, LinePolls, KeepsLine}
use Rattle.scan_drive.specs.Grounds.{KeepsGrounds}
use Rattle.scan_drive.specs.Line.{exchanged, GivesSome}
use Rattle.scan_drive.specs.Moves.{EachMoves, tell, tells}
use Rattle.scan_drive.specs.Openers.{OpenerState}
use Rattle.scan_drive.specs.Phases.{is_unopened, unopened}
use Rattle.scan_drive.specs.Polls.{ArePolledLate, PollsOn}
use Rattle.scan_drive.specs.Rounds.{IsLawful, Sound}
use Rattle.scan_drive.specs.Runnings.{Starts, GoesOn}
use Rattle.scan_drive.specs.Splits.{SplitState, Event}
use Rattle.scan_drive.specs.Trades.{CacheAgrees, FilesTrade}
use Rattle.scan_drive.specs.Wants.{Cache}
use Rattle.scan_drive.specs.declared.files.ScanFile.{ScanFile}
use Rattle.scan_drive.specs.declared.phase.Phase.{Phase}
use Rattle.scan_drive.specs.declared.round.Drive.{Drive}
use Rattle.scan_drive.proofs.Accounting.{Goes}
use Rattle.scan_drive.proofs.Brought.{nil_right}
use Rattle.scan_drive.proofs.Exchanging.{length_exchanged, range_more, sum_by_swapped}
use Rattle.scan_drive.proofs.ExchangedFiles.{swap_lawful}
use Rattle.scan_drive.proofs.Forwarding.{runs_line}
use Rattle.scan_drive.proofs.LinePolls.{LineKnown, known_gives, known_start, known_wait, known_line, edge_start, edge_on, exchanged_append, range_append}
use Rattle.scan_drive.proofs.Lining.{Runs, runs_start, runs_wait, runs_fit, runs_told, runs_sound}
use Rattle.scan_drive.proofs.Tracking.{late_first}
use Rattle.scan_drive.proofs.Windows.{gives_freed}

-- as many files are open as before
unopened_exchanged : {W F : Type 0} (ss : List (ℕ × ℕ)) (ps : List (Phase W F)) → SwapsInRange (length ps) ss → unopened (exchanged ss ps) ≡ unopened ps
unopened_exchanged [] ps r = refl
unopened_exchanged (s ∷ ss) ps r = unopened_exchanged ss (swap ps s.0 s.1) (subst (λ n. SwapsInRange n ss) (sym (length-swap ps s.0 s.1)) r.2) ∙ sum_by_swapped is_unopened ps s.0 s.1 r.0 r.1

pub lawful_exchanged : {O S I : Type 0} (state : O → OpenerState I) (source : S → SourceState) (ss : List (ℕ × ℕ)) (a : List (ScanFile O S)) (c : Cache) → SwapsInRange (length a) ss → IsLawful state source a c → IsLawful state source (exchanged ss a) c
lawful_exchanged state source [] a c r h = h
lawful_exchanged state source (s ∷ ss) a c r h = lawful_exchanged state source ss (swap a s.0 s.1) c (subst (λ n. SwapsInRange n ss) (sym (length-swap a s.0 s.1)) r.2) (swap_lawful s.0 s.1 state source a c r.0 r.1 h)

module _ {O S W R I F : Type 0} (state : O → OpenerState I) (polls : O → O → Type 0) (refuses : O → O → F → Type 0) (admits : O → O → List W → Type 0) (source : S → SourceState)
    (split : W → SplitState I) (comes : W → Arrivals → Store → Event → Type 0) (items : R → List I) (c0 : Cache) (d0 : Drive W R F) where
  -- a drive since its start, with the places that were exchanged
  pub record Lined (workers : ℕ) (files : List (ScanFile O S)) (log : List (ℕ × ℕ)) (b : List (ScanFile O S)) (ks : List Waiters) (c : Cache) (v : Drive W R F) : Type 0 where
    pub places : SwapsInRange (length files) log
    pub order : d0.ordered ≡ true → log ≡ []
    pub runs : Runs state polls refuses admits source split comes items c0 d0 (exchanged log files) b ks c v
    pub late : d0.ordered ≡ true → IsLawful state source files c0 → ArePolledLate state items d0.ordered workers d0.left (tells state source files) files b
    pub edge : LineEdge state log (exchanged log files) b
    pub known : LineKnown state source items workers d0.left c0 files log b

  pub lined_start : (workers : ℕ) (files : List (ScanFile O S)) (log : List (ℕ × ℕ)) (ks : List Waiters) → log ≡ [] → Starts (length files) d0.left d0 → HasRoom d0.left → All (IsIdle source) files → DesksAgree source files ks → Lined workers files log files ks c0
      d0
  lined_start workers files log ks none s room idle agree = subst (λ ss. Lined workers files ss files ks c0 d0) (sym none) (record {
    places = tt;
    order = λ o. refl;
    runs = runs_start state polls refuses admits source split comes items c0 d0 (length files) d0.left files ks refl s room idle agree;
    late = λ o law. late_first state items d0.ordered workers d0.left (tells state source files) files;
    edge = edge_start state files;
    known = known_start state source items workers d0.left c0 files;
  })

  module _ (workers : ℕ) (pos : 0 < workers) (files : List (ScanFile O S)) (log : List (ℕ × ℕ)) (b : List (ScanFile O S)) (ks : List Waiters) (c : Cache) (v : Drive W R F) (lim : limit_in split comes items d0 ≡ d0.left)
      (h : Lined workers files log b ks c v) where
    a : List (ScanFile O S)
    a = exchanged log files

    pub lined_lawful : IsLawful state source files c0 → IsLawful state source (exchanged log files) c0
    lined_lawful law = lawful_exchanged state source log files c0 h.places law

    -- where files are read in order, none has moved
    pub lined_files : d0.ordered ≡ true → exchanged log files ≡ files
    lined_files o = ap (λ ss. exchanged ss files) (h.order o)

    told : tells state source b ≡ tells state source (exchanged log files)
    told = runs_told state polls refuses admits source split comes items c0 d0 (exchanged log files) b ks c v h.runs

    premise : IsLawful state source files c0 → CacheAgrees source b c × SoundInOrder split comes items (tells state source b) v
    premise law = (let l = lined_lawful law in (
      h.runs.trades.agrees l.cache,
      (subst AllTell (sym told) l.tell, runs_sound state polls refuses admits source split comes items c0 d0 (exchanged log files) b ks c v h.runs l.cache, h.runs.order),
    ))

    later : (e : List (ScanFile O S)) → PollsOn state items v.ordered workers (limit_in split comes items v) (tells state source b) (CacheAgrees source b c × SoundInOrder split comes items (tells state source b) v) v.phases.items b e → IsLawful state source files c0 →
        (start : List (ScanFile O S)) → ArePolledLate state items d0.ordered workers d0.left (tells state source (exchanged log files)) start b → ArePolledLate state items d0.ordered workers d0.left (tells state source (exchanged log files)) start e
    later e on law =
        subst (λ (x : Bool). (start : List (ScanFile O S)) → ArePolledLate state items x workers d0.left (tells state source (exchanged log files)) start b → ArePolledLate state items x workers d0.left (tells state source (exchanged log files)) start e) h.runs.ordered
        (subst (λ (o : Option ℕ). (start : List (ScanFile O S)) → ArePolledLate state items v.ordered workers o (tells state source (exchanged log files)) start b → ArePolledLate state items v.ordered workers o (tells state source (exchanged log files)) start e) (h.runs.limit ∙ lim)
        (subst (λ (ts : List (Told I)). (start : List (ScanFile O S)) → ArePolledLate state items v.ordered workers (limit_in split comes items v) ts start b → ArePolledLate state items v.ordered workers (limit_in split comes items v) ts start e) told (on.late (premise law))))

    late_on : (e : List (ScanFile O S)) → PollsOn state items v.ordered workers (limit_in split comes items v) (tells state source b) (CacheAgrees source b c × SoundInOrder split comes items (tells state source b) v) v.phases.items b e →
        d0.ordered ≡ true → IsLawful state source files c0 → ArePolledLate state items d0.ordered workers d0.left (tells state source files) files e
    late_on e on o law = subst (λ ss. ArePolledLate state items d0.ordered workers d0.left (tells state source (exchanged ss files)) files b → ArePolledLate state items d0.ordered workers d0.left (tells state source (exchanged ss files)) files e) (h.order o) (later e on law files) (h.late o law)

    known_on : (e : List (ScanFile O S)) → PollsOn state items v.ordered workers (limit_in split comes items v) (tells state source b) (CacheAgrees source b c × SoundInOrder split comes items (tells state source b) v) v.phases.items b e →
        LineKnown state source items workers d0.left c0 files log e
    known_on e on = known_wait state source items workers d0.left c0 files d0.ordered pos log b e h.places (λ law. later e on law b (late_first state items d0.ordered workers d0.left (tells state source (exchanged log files)) b)) h.known

    -- how early openers were polled, after rounds that follow
    pub polls_wait : (e : List (ScanFile O S)) → PollsOn state items v.ordered workers (limit_in split comes items v) (tells state source b) (CacheAgrees source b c × SoundInOrder split comes items (tells state source b) v) v.phases.items b e →
        LinePolls state source items d0.ordered workers d0.left c0 files log e
    polls_wait e on = record {
      fit = on.fit (exchanged log files) h.runs.stand;
      late = λ o law. subst (λ x. ArePolledLate state items x workers d0.left (tells state source files) files e) o (late_on e on o law);
      line = edge_on state log (exchanged log files) b e on.grows h.edge;
      gives = known_gives state source items workers d0.left c0 files log e (known_on e on);
    }

    pub polls_now : LinePolls state source items d0.ordered workers d0.left c0 files log b
    polls_now = record {
      fit = runs_fit state polls refuses admits source split comes items c0 d0 (exchanged log files) b ks c v h.runs;
      late = λ o law. subst (λ x. ArePolledLate state items x workers d0.left (tells state source files) files b) o (h.late o law);
      line = h.edge;
      gives = known_gives state source items workers d0.left c0 files log b h.known;
    }

    pub lined_wait : (e : List (ScanFile O S)) (ls : List Waiters) (d : Cache) (w : Drive W R F) → DesksAgree source e ls → EachMoves state polls source (CacheAgrees source b c × Sound split comes items (tells state source b) v) b e → FilesTrade source b e c d →
        GoesOn state polls refuses source split comes items 1 b e ls c v w → Goes source b e c d v.report w.report v.active.slots.items w.active.slots.items → KeepsRows items v.chunks.items w.chunks.items →
        KeepsGrounds state polls admits source b e c d v w →
        PollsOn state items v.ordered workers (limit_in split comes items v) (tells state source b) (CacheAgrees source b c × SoundInOrder split comes items (tells state source b) v) v.phases.items b e → Lined workers files log e ls d w
    lined_wait e ls d w agree m t g bal rows grounds on = record {
      places = h.places;
      order = h.order;
      runs = runs_wait state polls refuses admits source split comes items c0 d0 (exchanged log files) b ks c v h.runs e ls d w agree m t g bal rows grounds;
      late = late_on e on;
      edge = edge_on state log (exchanged log files) b e on.grows h.edge;
      known = known_on e on;
    }

    module _ (log' : List (ℕ × ℕ)) (b' : List (ScanFile O S)) (ks' : List Waiters) (w : Drive W R F) (k : KeepsLine workers log log' b b' ks ks' v w) where
      count : length b ≡ length files
      count = h.runs.moves.len ∙ length_exchanged log files

      range : SwapsInRange (length files) k.brings.places
      range = range_more k.last (length files) k.brings.places (let x = k.there in let y = count in omega (arith, x, y)) k.brings.within

      range_phases : SwapsInRange (length v.phases.items) k.brings.places
      range_phases = subst (λ n. SwapsInRange n k.brings.places) (sym (h.runs.stands.lens ∙ length_exchanged log files)) range

      pub line_unopened : unopened w.phases.items ≡ unopened v.phases.items
      line_unopened = ap unopened k.brings.rephased.phases_are ∙ unopened_exchanged k.brings.places v.phases.items range_phases

      gives_up_to : IsLawful state source files c0 → (j : ℕ) → j < k.last → GivesSome items d0.left (tells state source (exchanged log files)) j (j + 1 - workers)
      gives_up_to law j lt =
          let l = lined_lawful law in
          let frees = k.frees (omega (arith, lt)) in
          subst (λ (o : Option ℕ). GivesSome items o (tells state source (exchanged log files)) j (j + 1 - workers)) (h.runs.limit ∙ lim)
          (gives_freed split comes items workers k.last j (tells state source (exchanged log files)) v l.tell (h.runs.sound l.cache) h.runs.stands.below h.runs.stands.room
          (let f = h.runs.stands.first in let n = length-map (exchanged log files) (tell state source) in omega (arith, f, n)) frees.0 frees.1 lt)

      none_joined : (v.ordered ≡ true → log' ≡ log) → d0.ordered ≡ true → log ++ k.brings.places ≡ []
      none_joined same o = sym k.brings.log_is ∙ same (h.runs.ordered ∙ o) ∙ h.order o

      both : (v.ordered ≡ true → log' ≡ log) → Runs state polls refuses admits source split comes items c0 d0 (exchanged k.brings.places (exchanged log files)) (exchanged k.brings.places b) (exchanged k.brings.places ks) c w ×
          LineEdge state (log ++ k.brings.places) (exchanged k.brings.places (exchanged log files)) (exchanged k.brings.places b)
      both same = runs_line state polls refuses admits source split comes items c0 d0 k.brings.places log (exchanged log files) b ks c v w k.brings.spare k.brings.rephased k.brings.none (λ o. nil_right log k.brings.places (none_joined same (sym h.runs.ordered ∙ o))) h.runs h.edge

      joined : exchanged k.brings.places (exchanged log files) ≡ exchanged (log ++ k.brings.places) files
      joined = sym (exchanged_append log k.brings.places files)

      lined_there : (v.ordered ≡ true → log' ≡ log) → Lined workers files (log ++ k.brings.places) (exchanged k.brings.places b) (exchanged k.brings.places ks) c w
      lined_there same = record {
        places = range_append (length files) log k.brings.places h.places range;
        order = none_joined same;
        runs = subst (λ (xs : List (ScanFile O S)). Runs state polls refuses admits source split comes items c0 d0 xs (exchanged k.brings.places b) (exchanged k.brings.places ks) c w) joined (both same).0;
        late = λ o law. subst (λ ss. ArePolledLate state items d0.ordered workers d0.left (tells state source files) files (exchanged ss b)) (sym (nil_right log k.brings.places (none_joined same o))) (h.late o law);
        edge = subst (λ (xs : List (ScanFile O S)). LineEdge state (log ++ k.brings.places) xs (exchanged k.brings.places b)) joined (both same).1;
        known = known_line state source items workers d0.left c0 files log k.brings.places b k.last count h.places k.brings.within (let x = k.there in let y = count in omega (arith, x, y)) gives_up_to h.known;
      }

      pub lined_line : (v.ordered ≡ true → log' ≡ log) → Lined workers files log' b' ks' c w
      lined_line same =
          subst (λ ss. Lined workers files ss b' ks' c w) (sym k.brings.log_is)
          (subst (λ (xs : List (ScanFile O S)). Lined workers files (log ++ k.brings.places) xs ks' c w) (sym k.brings.files_are)
          (subst (λ (xs : List Waiters). Lined workers files (log ++ k.brings.places) (exchanged k.brings.places b) xs c w) (sym k.brings.desks_are) (lined_there same)))
