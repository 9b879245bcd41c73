-- A drive before its first round, and after its last.
use Rattle.std.proofs.Common.{◌≡◌, ℕ, suc, ◌+◌, ◌<◌, List, [], ◌∷◌, ◌++◌, length, map, take, drop, get_or, Bool, true, false, ◌||◌, Option, Some, None, inl, inr, refl, sym, ap, ◌∙◌, subst, arith}
use Rattle.std.specs.Prelude.{All, is_some}
use Rattle.std.proofs.lemmas.List.{length-map}
use Rattle.std.proofs.lemmas.List.Elements.{All-nil}
use Rattle.scan_values.specs.Selections.{is_among}
use Rattle.scan_segments.specs.Source.{SourceState, Store, none_live}
use Rattle.scan_splits.specs.Arrivals.{Arrivals}
use Rattle.scan_drive.specs.Accounts.{AllServed, RunEnds}
use Rattle.scan_drive.specs.Actives.{groups_left, groups_in}
use Rattle.scan_drive.specs.Budgets.{IsBudget}
use Rattle.scan_drive.specs.Chunks.{given, limit_of, HasRoom, HasRow, IsOf}
use Rattle.scan_drive.specs.Desks.{Waiters, waiters_at, is_in, waits, Agree, IsAwaited}
use Rattle.scan_drive.specs.Drives.{desk_at, EachLinked, DesksAgree, IsIdle, SourcesMove, NoneOf}
use Rattle.scan_drive.specs.Drivings.{PollsEnd}
use Rattle.scan_drive.specs.Ends.{limit_in}
use Rattle.scan_drive.specs.Files.{Told, told_at, answer, answer_from, part_groups, count}
use Rattle.scan_drive.specs.Ledger.{Ledger, books_of, FilesKeepLedger}
use Rattle.scan_drive.specs.Losses.{FilesBalance}
use Rattle.scan_drive.specs.Measures.{is_there}
use Rattle.scan_drive.specs.Moves.{tell, tells}
use Rattle.scan_drive.specs.Openers.{OpenerState}
use Rattle.scan_drive.specs.Grounds.{Grounded}
use Rattle.scan_drive.specs.Phases.{phase_at, phase_left, has_left, IsQueued, RowsOk, PhaseOk, rest, rest_from}
use Rattle.scan_drive.specs.Rounds.{Stands, Sound}
use Rattle.scan_drive.specs.Runnings.{Starts}
use Rattle.scan_drive.specs.Slots.{slot_at, is_fresh, stage_waits}
use Rattle.scan_drive.specs.Splits.{SplitState, Event}
use Rattle.scan_drive.specs.Trades.{FilesTrade}
use Rattle.scan_drive.specs.Traffic.{asked_since, ended_since, capped_report, IsReport, key_of, asked_keys}
use Rattle.scan_drive.specs.Turns.{rows_of}
use Rattle.scan_drive.specs.Wants.{Cache}
use Rattle.scan_drive.specs.declared.files.ScanFile.{ScanFile}
use Rattle.scan_drive.specs.declared.phase.Phase.{Phase}
use Rattle.scan_drive.specs.declared.phase.Phase.TheVariants as phase
use Rattle.scan_drive.specs.declared.report.ScanReport.{ScanReport}
use Rattle.scan_drive.specs.declared.round.Drive.{Drive}
use Rattle.scan_drive.specs.declared.slot.Slot.{Slot}
use Rattle.scan_drive.specs.declared.slot.Stage.TheVariants as stage
use Rattle.scan_drive.proofs.Balancing.{same_asked}
use Rattle.scan_drive.proofs.Desking.{no_ids}
use Rattle.scan_drive.proofs.Filing.{balance_starts}
use Rattle.scan_drive.proofs.Halting.{round_any}
use Rattle.scan_drive.proofs.Moving.{moves_none}
use Rattle.scan_drive.proofs.Same.{same_is}
use Rattle.scan_drive.proofs.Reckoning.{SameNames, ends_report}
use Rattle.scan_drive.proofs.Trading.{agrees_same}

-- ---- before the first round

-- nobody waits at the desk of a source without requests
idle_waits : (live : ℕ → Bool) (d : Waiters) → Agree live d → live ≡ none_live → (id place : ℕ) → waits d id place ≡ true → ⊥
idle_waits live d a none id place h = go (waiters_at d id) (a id) h
  where
    go : (o : Option (List ℕ)) → live id ≡ is_some o → is_in o place ≡ true → ⊥
    go None e w = absurd cc
    go (Some places) e w = let bad : false ≡ true = sym (ap (λ (f : ℕ → Bool). f id) none) ∙ e in absurd cc

module _ {W R F : Type 0} (n : ℕ) (limit : Option ℕ) (d : Drive W R F) (s : Starts n limit d) where
  none_turn : (place : ℕ) → is_among d.active.turns.items place ≡ true → ⊥
  none_turn place h = let bad : false ≡ true = sym (ap (λ ts. is_among ts place) s.turns) ∙ h in absurd cc

  none_there : (place : ℕ) → (slot_at d.active.slots.items place).stage ≡ stage.Empty
  none_there place = s.seated.empty place (ap (λ ts. is_among ts place) s.turns)

  pub starts_stands : HasRoom limit → Stands n d
  starts_stands room = record {
    lens = s.lens;
    first = (let f = s.first in omega (arith, f));
    below = λ k lt. (let f = s.first in absurd (omega (arith, f, lt)));
    ready = record {
      seated = s.seated;
      filled = λ place h. absurd (none_turn place h);
      within = λ place h. (let bad : false ≡ true = sym (ap is_there (none_there place)) ∙ h in absurd cc);
    };
    room = subst HasRoom (sym s.left) room;
    budget = subst (λ l. IsBudget d.ordered l d.budget) (sym s.left) s.budget;
  }

  pub starts_linked : {O S : Type 0} (source : S → SourceState) (files : List (ScanFile O S)) (desks : List Waiters) → All (IsIdle source) files → DesksAgree source files desks → EachLinked desks d.active.slots.items
  starts_linked source [] desks idle agree k lt = let l : length desks ≡ 0 = agree.len in absurd (omega (arith, l, lt))
  starts_linked {O} {S} source (f ∷ files) desks idle agree k lt =
      let l : length desks ≡ length (f ∷ files) = agree.len in
      let in_list : k < length (f ∷ files) = omega (arith, l, lt) in
      let none = idle_waits (source (get_or (f ∷ files) k f).source).live (desk_at desks k) (agree.at k f in_list) (idle k f in_list) in
      record {
        file_is = λ id place h. absurd (none id place h);
        takes = λ id place h. absurd (none id place h);
        live = λ id place is h. (let bad : false ≡ true = sym (ap (λ x. stage_waits x id) (none_there place)) ∙ h in absurd cc);
      }

  module _ {I : Type 0} (split : W → SplitState I) (comes : W → Arrivals → Store → Event → Type 0) (items : R → List I) where
    -- of files that are not open all is left
    rest_shut : (place : ℕ) (ts : List (Told I)) (ps : List (Phase W F)) → length ps ≡ length ts → ((k : ℕ) → phase_at ps k ≡ phase.Unopened) → rest_from split comes place ts ps ≡ answer_from place ts
    rest_shut place [] ps l h = refl
    rest_shut place (t ∷ ts) [] l h = absurd (omega arith)
    rest_shut place (t ∷ ts) (p ∷ ps) l h =
        ap (λ q. phase_left split comes place t q ++ rest_from split comes (place + 1) ts ps) (h 0)
        ∙ ap (λ gs. part_groups place t ++ gs) (rest_shut (place + 1) ts ps (omega arith) (λ k. h (suc k)))

    pub starts_sound : (tale : List (Told I)) → length tale ≡ n → Sound split comes items tale d
    starts_sound tale l = record {
      phases = λ k. subst (PhaseOk split comes (told_at tale k)) (sym (s.shut k)) tt;
      ok = λ place h. absurd (none_turn place h);
      tally = record {
        within = (let t = s.tally.0 in omega (arith, t));
        sum = λ all. s.tally.1 ∙ sym (ap (λ k. rows_of (take k tale)) s.tally.0);
      };
      sums = λ all. same_is d.ordered (given items d.chunks.items ++ (groups_left split comes items tale d.active ++ rest split comes tale d.phases.items)) (answer tale) (
          ap (λ chunks. given items chunks ++ (groups_left split comes items tale d.active ++ rest split comes tale d.phases.items)) s.chunks
          ∙ ap (λ turns. groups_in split comes items tale turns d.active.slots.items ++ rest split comes tale d.phases.items) s.turns
          ∙ rest_shut 0 tale d.phases.items (s.lens ∙ sym l) s.shut);
    }

    none_given : (o : Option ℕ) → limit_of 0 o ≡ o
    none_given None = refl
    none_given (Some k) = ap Some (omega arith)

    pub starts_limit : limit_in split comes items d ≡ limit
    starts_limit = ap (λ chunks. limit_of (count (given items chunks)) d.left) s.chunks ∙ none_given d.left ∙ s.left

  starts_none : All (IsOf d.tally.files) d.chunks.items
  starts_none = subst (All (IsOf d.tally.files)) (sym s.chunks) (All-nil (IsOf d.tally.files))

  -- nothing has come, and nothing was asked
  pub starts_grounded : {O S I : Type 0} (state : O → OpenerState I) (polls : O → O → Type 0) (admits : O → O → List W → Type 0) (source : S → SourceState) (split : W → SplitState I) (comes : W → Arrivals → Store → Event → Type 0) (items : R → List I)
      (files : List (ScanFile O S)) (c : Cache) → All (IsIdle source) files → n ≡ length files → Grounded state polls admits source files files c c d
  starts_grounded state polls admits source split comes items files c idle is = record {
    moves = moves_none state polls source ⊥ files;
    ledger = (balance_starts source files c idle).ledger;
    admitted = λ k q. absurd (subst IsQueued (s.shut k) q);
    some = λ k h. (let bad : false ≡ true = sym (ap has_left (s.shut k)) ∙ h in absurd cc);
    counted = record {
      from = (let f = s.first in omega (arith, f));
      queued = λ k lt. (let t = s.tally.0 in absurd (omega (arith, t, lt)));
    };
    quiet = λ k le f. refl;
    given = starts_none;
    rows = record {
      rows = λ k. subst (RowsOk (told_at (tells state source files) k)) (sym (s.shut k)) tt;
      tally = (starts_sound split comes items (tells state source files) (length-map files (tell state source) ∙ sym is)).tally;
    };
    slots = λ place h. (let bad : false ≡ true = sym (ap is_there (none_there place)) ∙ h in absurd cc);
  }

  pub starts_rows : {I : Type 0} (items : R → List I) → All (HasRow items) d.chunks.items
  starts_rows items = subst (All (HasRow items)) (sym s.chunks) (All-nil (HasRow items))

-- ---- after the last
module _ {O S : Type 0} (source : S → SourceState) where
  -- a call that asks for nothing leaves the keys that were asked for
  keys_same : (a b e : List (ScanFile O S)) → length b ≡ length a → length e ≡ length b → ((k : ℕ) (f : ScanFile O S) → (source (get_or e k f).source).asked ≡ (source (get_or b k f).source).asked) → asked_keys source a e ≡ asked_keys source a b
  keys_same [] b e n m h = refl
  keys_same (x ∷ a) [] e n m h = absurd (omega arith)
  keys_same (x ∷ a) (y ∷ b) [] n m h = absurd (omega arith)
  keys_same (x ∷ a) (y ∷ b) (z ∷ e) n m h =
      ap (λ (ids : List ℕ). map (key_of x.source_id) (drop (length (source x.source).asked) ids) ++ asked_keys source a e) (h 0 x)
      ∙ ap (λ keys. map (key_of x.source_id) (asked_since (source x.source) (source y.source)) ++ keys) (keys_same a b e (omega arith) (omega arith) (λ k f. h (suc k) f))

  -- no request is live where nobody waits
  pub served_idle : {W R : Type 0} (files : List (ScanFile O S)) (desks : List Waiters) (slots : List (Slot W R)) → DesksAgree source files desks → AllServed desks slots → ((k : ℕ) → k < length desks → IsAwaited (desk_at desks k)) → All (IsIdle source) files
  served_idle files desks slots agree served awaited k f lt = go (awaited k in_list)
    where
      in_list : k < length desks
      in_list = let l = agree.len in omega (arith, l, lt)

      go : IsAwaited (desk_at desks k) → (source (get_or files k f).source).live ≡ none_live
      go (inl none) = no_ids (desk_at desks k) (source (get_or files k f).source).live (agree.at k f lt) none
      go (inr w) = absurd (served.waits k in_list w)

  pub closed_trade : (b e : List (ScanFile O S)) (c : Cache) → SourcesMove source NoneOf b e → FilesKeepLedger source b e c c → FilesTrade source b e c c
  closed_trade b e c m ledger = record { len = m.len; agrees = agrees_same source b e c m.len m.name (λ i f. (m.moves i f).holds); ledger = ledger }

  pub ledger_all : (a e : List (ScanFile O S)) (c d : Cache) → All (IsIdle source) a → FilesTrade source a e c d → Ledger (books_of source a e) c d
  ledger_all a e c d idle t = t.ledger a c refl (balance_starts source a c idle).ledger

  from_zero : {W R : Type 0} (a b : List (ScanFile O S)) (c d : Cache) (r x : ScanReport) (slots : List (Slot W R)) → r ≡ capped_report 0 0 0 → FilesBalance source a b c d r x slots → FilesBalance source a b c d (capped_report 0 0 0) x slots
  from_zero a b c d r x slots e k = subst (λ (y : ScanReport). FilesBalance source a b c d y x slots) e k

  module _ {W R F : Type 0} (limit : Option ℕ) (a b e : List (ScanFile O S)) (desks : List Waiters) (c d : Cache) (old new : Drive W R F) (idle : All (IsIdle source) a) (names : SameNames source a b) (zeros : old.report ≡ capped_report 0 0 0) (k : RunEnds source limit a b desks c d old new)
      (n : length b ≡ length a) (m : SourcesMove source NoneOf b e) where
    pub driven_report : IsReport (length (asked_keys source a e)) (ended_since c d) new.report
    driven_report =
        let balance = from_zero a b c d old.report new.report k.slots zeros k.balance in
        subst (λ keys. IsReport (length keys) (ended_since c d) new.report) (sym (keys_same a b e n m.len (λ i f. same_asked (source (get_or b i f).source) (source (get_or e i f).source) (m.moves i f))))
        (ends_report source a b c d names new.report (balance.failed || false) (round_any source a b c d new.report k.slots idle balance))

-- ---- where nothing is done
module _ {O S R I : Type 0} (state : O → OpenerState I) (source : S → SourceState) (items : R → List I) where
  pub polls_self : (limit : Option ℕ) (ordered : Bool) (workers : ℕ) (c : Cache) (files : List (ScanFile O S)) → PollsEnd state source items limit ordered workers c files files
  polls_self limit ordered workers c files = record {
    grows = λ k f. omega arith;
    most = λ k f. omega arith;
    first = λ i j f l m h. absurd (omega arith);
    late = λ o law k f h. absurd (omega arith);
    some = λ o law k f h. absurd (omega arith);
  }
