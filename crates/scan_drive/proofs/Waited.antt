-- Rounds of a wait, after each of which chunks are handed over.
use Rattle.std.proofs.Common.{◌≡◌, ℕ, List, [], ◌∷◌, ◌++◌, ◌⊎◌, Bool, true, false, Result, Ok, Err, IfOk, IfErr, OnOk, inl, inr, length, refl, sym, ap, ◌∙◌, subst, append_assoc, append-nil}
use Rattle.scan_segments.specs.Source.{SourceState, Store}
use Rattle.scan_splits.specs.Arrivals.{Arrivals}
use Rattle.scan_drive.specs.Chunks.{given}
use Rattle.scan_drive.specs.Desks.{Waiters}
use Rattle.scan_drive.specs.Drives.{DesksAgree, EachLinked}
use Rattle.scan_drive.specs.Ends.{limit_in, gives_first}
use Rattle.scan_drive.specs.Files.{Told, AllTell, answer}
use Rattle.scan_drive.specs.Grants.{IsGivenFront}
use Rattle.scan_drive.specs.Handed.{with_taken, WaitTakes, WaitsFor}
use Rattle.scan_drive.specs.Moves.{tells}
use Rattle.scan_drive.specs.Openers.{OpenerState}
use Rattle.scan_drive.specs.Outgoing.{Outgoing}
use Rattle.scan_drive.specs.Rounds.{Stands, Sound}
use Rattle.scan_drive.specs.Splits.{SplitState, Event}
use Rattle.scan_drive.specs.Steps.{RoundsKeep, RoundComes, RoundStops, WaitComes, WaitStops}
use Rattle.scan_drive.specs.Trades.{CacheAgrees}
use Rattle.scan_drive.specs.Wants.{Cache}
use Rattle.scan_drive.specs.declared.delivery.Chunk.{Chunk}
use Rattle.scan_drive.specs.declared.delivery.DriveFault.TheVariants as fault
use Rattle.scan_drive.specs.declared.files.ScanFile.{ScanFile}
use Rattle.scan_drive.specs.declared.round.Drive.{Drive}
use Rattle.scan_drive.specs.declared.rounds.Round.{Round}
use Rattle.scan_drive.specs.declared.rounds.Round.TheVariants as round
use Rattle.scan_drive.specs.declared.rounds.Wait.{Wait}
use Rattle.scan_drive.specs.declared.rounds.Wait.TheVariants as wait
use Rattle.scan_drive.specs.declared.settling.RoundFault.{RoundFault}
use Rattle.scan_drive.specs.declared.settling.RoundFault.TheVariants as why
use Rattle.scan_drive.specs.declared.sink.Flow.{Flow}
use Rattle.scan_drive.specs.declared.sink.Flow.TheVariants as flow
use Rattle.scan_drive.proofs.Outgone.{stands_taken, moved_over}
use Rattle.scan_drive.proofs.RoundSteps.{stops_short}
use Rattle.scan_drive.proofs.Moving.{tells_stay}
use Rattle.scan_drive.proofs.Sinking.{takes_going, takes_done, takes_front}
use Rattle.scan_drive.proofs.Waiting.{Waits, waits_start, waits_keeps, waits_on, waits_opened, waits_done, waits_stops}

module _ {O S W R I F : Type 0} (state : O → OpenerState I) (polls : O → O → Type 0) (refuses : O → O → F → Type 0) (admits : O → O → List W → Type 0) (source : S → SourceState)
    (split : W → SplitState I) (comes : W → Arrivals → Store → Event → Type 0) (items : R → List I) where
  -- rounds since the first of a wait, in which these were handed over, whatever was taken before
  abbrev pub Waited : ℕ → List (ScanFile O S) → Cache → Drive W R F → List (ScanFile O S) → List Waiters → Cache → Drive W R F → List (Chunk R) → Type 0
  Waited workers a c0 d0 b ks c v us = (ts : List (Chunk R)) → Waits state polls refuses admits source split comes items workers a c0 (with_taken ts d0) b ks c (with_taken (ts ++ us) v)

  pub waited_start : (workers : ℕ) (a : List (ScanFile O S)) (ks : List Waiters) (c0 : Cache) (d0 : Drive W R F) → Stands (length a) d0 → EachLinked ks d0.active.slots.items → DesksAgree source a ks → Waited workers a c0 d0 a ks c0 d0 []
  waited_start workers a ks c0 d0 s l agree ts =
      subst (λ us. Waits state polls refuses admits source split comes items workers a c0 (with_taken ts d0) a ks c0 (with_taken us d0)) (sym (append-nil ts))
      (waits_start state polls refuses admits source split comes items workers a ks c0 (with_taken ts d0) (stands_taken ts (length a) d0 s) l agree)

  module _ (workers : ℕ) (a : List (ScanFile O S)) (c0 : Cache) (d0 : Drive W R F) (b : List (ScanFile O S)) (ks : List Waiters) (c : Cache) (v : Drive W R F) (us : List (Chunk R)) (w : Waited workers a c0 d0 b ks c v us) where
    -- what was handed over up to now
    pub takes_now : (ts : List (Chunk R)) → WaitTakes state source split comes items a c0 (with_taken ts d0) (ts ++ us)
    takes_now ts = takes_going state polls refuses source split comes items 0 a b ks c0 (with_taken ts d0) (with_taken (ts ++ us) v) (ts ++ us) v.chunks.items refl (w ts).rows (w ts).goes

    module _ (e : List (ScanFile O S)) (ls : List Waiters) (d : Cache) (k : (ts : List (Chunk R)) → RoundsKeep state polls source split comes items (Unit {0}) workers b e ls c d (with_taken ts v)) (v' : Drive W R F) where
      pub waited_keeps : (ts : List (Chunk R)) → RoundsKeep state polls source split comes items (CacheAgrees source a c0) workers a e ls c0 d (with_taken ts d0)
      waited_keeps ts = waits_keeps state polls refuses admits source split comes items workers a c0 (with_taken ts d0) b ks c (with_taken (ts ++ us) v) (w ts) e ls d (k (ts ++ us))

      on : ((ts : List (Chunk R)) → RoundComes state polls refuses admits source split comes items round.More b e ls c d (with_taken ts v) (with_taken ts v')) → Waited workers a c0 d0 e ls d v' us
      on r ts = waits_on state polls refuses admits source split comes items workers a c0 (with_taken ts d0) b ks c (with_taken (ts ++ us) v) (w ts) e ls d (k (ts ++ us)) (with_taken (ts ++ us) v') (r (ts ++ us))

      opened : ((ts : List (Chunk R)) → RoundComes state polls refuses admits source split comes items round.Opened b e ls c d (with_taken ts v) (with_taken ts v'))
          → (ts : List (Chunk R)) → WaitComes state polls refuses admits source split comes items round.Opened a e ls c0 d (with_taken ts d0) (with_taken (ts ++ us) v')
      opened r ts = waits_opened state polls refuses admits source split comes items workers a c0 (with_taken ts d0) b ks c (with_taken (ts ++ us) v) (w ts) e ls d (k (ts ++ us)) (with_taken (ts ++ us) v') (r (ts ++ us))

      done : ((ts : List (Chunk R)) → RoundComes state polls refuses admits source split comes items round.Done b e ls c d (with_taken ts v) (with_taken ts v'))
          → (ts : List (Chunk R)) → WaitComes state polls refuses admits source split comes items round.Done a e ls c0 d (with_taken ts d0) (with_taken (ts ++ us) v')
      done r ts = waits_done state polls refuses admits source split comes items workers a c0 (with_taken ts d0) b ks c (with_taken (ts ++ us) v) (w ts) e ls d (k (ts ++ us)) (with_taken (ts ++ us) v') (r (ts ++ us))

      -- why rounds end without all rows
      pub waited_stops : (x : RoundFault F) → ((ts : List (Chunk R)) → RoundStops state polls refuses admits source split comes items b e c (with_taken ts v) (with_taken ts v') x)
          → (ts : List (Chunk R)) → WaitStops state polls refuses admits source split comes items a e c0 (with_taken ts d0) (with_taken (ts ++ us) v') x
      waited_stops x r ts = waits_stops state polls refuses admits source split comes items workers a c0 (with_taken ts d0) b ks c (with_taken (ts ++ us) v) (w ts) e ls d (k (ts ++ us)) (with_taken (ts ++ us) v') x (r (ts ++ us))

      -- want of memory
      pub waited_short : (ts : List (Chunk R)) → WaitStops state polls refuses admits source split comes items a e c0 (with_taken ts d0) (with_taken (ts ++ us) v') (why.Split fault.NoMemory)
      waited_short = waited_stops (why.Split fault.NoMemory) (λ ts. stops_short state polls refuses admits source split comes items b e c (with_taken ts v) (with_taken ts v'))

      module _ (moved rest : List (Chunk R)) (were : v'.chunks.items ≡ moved ++ rest) where
        parts : (ts : List (Chunk R)) → (ts ++ us) ++ v'.chunks.items ≡ (ts ++ (us ++ moved)) ++ rest
        parts ts = ap (λ xs. (ts ++ us) ++ xs) were ∙ sym (append_assoc (ts ++ us) moved rest) ∙ ap (λ xs. xs ++ rest) (append_assoc ts us moved)

        -- what was handed over before a fault
        pub takes_first : (x : RoundFault F) → ((ts : List (Chunk R)) → RoundStops state polls refuses admits source split comes items b e c (with_taken ts v) (with_taken ts v') x) → gives_first v.ordered x ≡ true
            → (ts : List (Chunk R)) → WaitTakes state source split comes items a c0 (with_taken ts d0) (ts ++ (us ++ moved))
        takes_first x r first ts =
            let g = (r (ts ++ us)).gave first in
            let h = w ts in
            let t = tells_stay state polls source (CacheAgrees source a c0 × Sound split comes items (tells state source a) (with_taken ts d0)) a b h.keeps.moves in
            takes_front state source split comes items a c0 (with_taken ts d0) (with_taken (ts ++ us) v) (with_taken (ts ++ us) v') (ts ++ (us ++ moved)) rest (parts ts) (λ k. g.rows (h.rows k)) h.goes.ordered h.goes.limit
            (λ agrees all s. subst (λ (xs : List (Told I)). IsGivenFront v.ordered (limit_in split comes items (with_taken (ts ++ us) v)) (answer xs) (given items ((ts ++ us) ++ v'.chunks.items))) t
            (g.front (subst AllTell (sym t) all) (subst (λ (xs : List (Told I)). Sound split comes items xs (with_taken (ts ++ us) v)) (sym t) (h.goes.sound agrees s))))

        -- what was handed over with this round, whatever it has come to
        pub takes_then : (r : Round) → ((ts : List (Chunk R)) → RoundComes state polls refuses admits source split comes items r b e ls c d (with_taken ts v) (with_taken ts v'))
            → (ts : List (Chunk R)) → WaitTakes state source split comes items a c0 (with_taken ts d0) (ts ++ (us ++ moved))
        takes_then round.More r ts =
            let x = on r ts in
            takes_going state polls refuses source split comes items 0 a e ls c0 (with_taken ts d0) (with_taken (ts ++ us) v') (ts ++ (us ++ moved)) rest (parts ts) x.rows x.goes
        takes_then round.Opened r ts =
            let x = opened r ts in
            takes_going state polls refuses source split comes items 1 a e ls c0 (with_taken ts d0) (with_taken (ts ++ us) v') (ts ++ (us ++ moved)) rest (parts ts) x.rows x.comes_to
        takes_then round.Done r ts =
            let x = done r ts in
            takes_done state polls refuses source split comes items a c0 (with_taken ts d0) (with_taken (ts ++ us) v') (ts ++ (us ++ moved)) rest (parts ts) x.rows x.comes_to

        module _ (o : Outgoing (Chunk R)) (left : o.items ≡ rest) where
          abbrev after : Drive W R F
          after = record v' { chunks = o }

          pub waited_on : ((ts : List (Chunk R)) → RoundComes state polls refuses admits source split comes items round.More b e ls c d (with_taken ts v) (with_taken ts v')) → Waited workers a c0 d0 e ls d after (us ++ moved)
          waited_on r ts = subst (λ (z : Drive W R F). Waits state polls refuses admits source split comes items workers a c0 (with_taken ts d0) e ls d z) (moved_over ts us moved rest v' o were left) (on r ts)

          pub waited_opened : ((ts : List (Chunk R)) → RoundComes state polls refuses admits source split comes items round.Opened b e ls c d (with_taken ts v) (with_taken ts v'))
              → (ts : List (Chunk R)) → WaitComes state polls refuses admits source split comes items round.Opened a e ls c0 d (with_taken ts d0) (with_taken (ts ++ (us ++ moved)) after)
          waited_opened r ts = subst (λ (z : Drive W R F). WaitComes state polls refuses admits source split comes items round.Opened a e ls c0 d (with_taken ts d0) z) (moved_over ts us moved rest v' o were left) (opened r ts)

          pub waited_faulty : (x : RoundFault F) → ((ts : List (Chunk R)) → RoundStops state polls refuses admits source split comes items b e c (with_taken ts v) (with_taken ts v') x)
              → (ts : List (Chunk R)) → WaitStops state polls refuses admits source split comes items a e c0 (with_taken ts d0) (with_taken (ts ++ (us ++ moved)) after) x
          waited_faulty x r ts = subst (λ (z : Drive W R F). WaitStops state polls refuses admits source split comes items a e c0 (with_taken ts d0) z x) (moved_over ts us moved rest v' o were left) (waited_stops x r ts)

          pub waited_done : ((ts : List (Chunk R)) → RoundComes state polls refuses admits source split comes items round.Done b e ls c d (with_taken ts v) (with_taken ts v'))
              → (ts : List (Chunk R)) → WaitComes state polls refuses admits source split comes items round.Done a e ls c0 d (with_taken ts d0) (with_taken (ts ++ (us ++ moved)) after)
          waited_done r ts = subst (λ (z : Drive W R F). WaitComes state polls refuses admits source split comes items round.Done a e ls c0 d (with_taken ts d0) z) (moved_over ts us moved rest v' o were left) (done r ts)

-- ---- how a wait ends with a fault
module _ {F N : Type 0} where
  pub ends_stopped : (r : Result Wait (RoundFault F)) (handed : Result Flow N) (Full : Type 0) (P : Round → Type 0) → IfOk r (λ w. (w ≡ wait.Stopped) × (handed ≡ Ok flow.Stop)) → IfOk handed (λ f. f ≡ flow.Stop → Full)
      → IfOk r (λ w. WaitsFor w Full P)
  ends_stopped (Ok w) handed Full P h full = subst (λ z. WaitsFor z Full P) (sym h.0) (subst (λ z. IfOk z (λ f. f ≡ flow.Stop → Full)) h.1 full refl)
  ends_stopped (Err e) handed Full P h full = tt

  pub ends_faulty : (r : Result Wait (RoundFault F)) (handed : Result Flow N) (x : RoundFault F) (Left : Type 0) (P : RoundFault F → Type 0) → IfErr r (λ e. ((handed ≡ Ok flow.More) × (e ≡ x)) ⊎ (e ≡ why.Split fault.NoMemory)) → OnOk handed Left
      → (Left → P x) → P (why.Split fault.NoMemory) → IfErr r P
  ends_faulty (Ok w) handed x Left P h left to short = tt
  ends_faulty (Err e) handed x Left P (inl y) left to short = subst P (sym y.1) (to (subst (λ z. OnOk z Left) y.0 left))
  ends_faulty (Err e) handed x Left P (inr y) left to short = subst P (sym y) short
