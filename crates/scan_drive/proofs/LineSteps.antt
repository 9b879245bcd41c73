-- A run since its start, after rounds that follow, and what it has come to.
use Rattle.std.proofs.Common.{◌≡◌, ℕ, ◌<◌, ◌++◌, ◌∙◌, List, All, true, Result, sym, subst, arith}
use Rattle.std.specs.Prelude.{IfErr}
use Rattle.std.proofs.lemmas.Result.{IfErr-weaker}
use Rattle.scan_segments.specs.Source.{SourceState, Store}
use Rattle.scan_splits.specs.Arrivals.{Arrivals}
use Rattle.scan_drive.specs.Before.{StopsBefore}
use Rattle.scan_drive.specs.Chunks.{given, HasRow}
use Rattle.scan_drive.specs.Desks.{Waiters}
use Rattle.scan_drive.specs.Ends.{limit_in}
use Rattle.scan_drive.specs.Files.{Told, AllTell, answer}
use Rattle.scan_drive.specs.Forward.{KeepsLine}
use Rattle.scan_drive.specs.Grants.{IsGivenFront}
use Rattle.scan_drive.specs.Grounds.{IsGround}
use Rattle.scan_drive.specs.Handed.{with_taken, WaitTakes, DriveTakes}
use Rattle.scan_drive.specs.Line.{exchanged}
use Rattle.scan_drive.specs.Moves.{tells}
use Rattle.scan_drive.specs.Openers.{OpenerState}
use Rattle.scan_drive.specs.Phases.{unopened}
use Rattle.scan_drive.specs.Rounds.{IsLawful}
use Rattle.scan_drive.specs.Runnings.{StopsRun}
use Rattle.scan_drive.specs.Splits.{SplitState, Event}
use Rattle.scan_drive.specs.Steps.{RoundsKeep, WaitComes, WaitStops, LineKeeps, LineEnds, LineStops}
use Rattle.scan_drive.specs.Trades.{CacheAgrees}
use Rattle.scan_drive.specs.Wants.{Cache}
use Rattle.scan_drive.specs.declared.delivery.Chunk.{Chunk}
use Rattle.scan_drive.specs.declared.delivery.DriveFault.TheVariants as fault
use Rattle.scan_drive.specs.declared.files.ScanFile.{ScanFile}
use Rattle.scan_drive.specs.declared.round.Drive.{Drive}
use Rattle.scan_drive.specs.declared.rounds.Round.TheVariants as round
use Rattle.scan_drive.specs.declared.settling.RoundFault.{RoundFault}
use Rattle.scan_drive.specs.declared.settling.RoundFault.TheVariants as why
use Rattle.scan_drive.proofs.Exchanging.{length_exchanged}
use Rattle.scan_drive.proofs.Fronts.{front_sound, front_along}
use Rattle.scan_drive.proofs.Lined.{Lined, lined_wait, lined_line, line_unopened, lined_lawful, lined_files, polls_wait, polls_now}
use Rattle.scan_drive.proofs.Outgone.{all_first}
use Rattle.scan_drive.proofs.Lining.{runs_moves, runs_trades, runs_fault, runs_ends, runs_done, runs_opened, runs_ground, runs_before, runs_short, runs_told, runs_sound}

module _ {O S W R I F : Type 0} (state : O → OpenerState I) (polls : O → O → Type 0) (refuses : O → O → F → Type 0) (admits : O → O → List W → Type 0) (source : S → SourceState)
    (split : W → SplitState I) (comes : W → Arrivals → Store → Event → Type 0) (items : R → List I) (c0 : Cache) (d0 : Drive W R F) where
  module _ (workers : ℕ) (pos : 0 < workers) (files : List (ScanFile O S)) (log : List (ℕ × ℕ)) (b : List (ScanFile O S)) (ks : List Waiters) (c : Cache) (v : Drive W R F) (lim : limit_in split comes items d0 ≡ d0.left)
      (h : Lined state polls refuses admits source split comes items c0 d0 workers files log b ks c v) where
    told : tells state source b ≡ tells state source (exchanged log files)
    told = runs_told state polls refuses admits source split comes items c0 d0 (exchanged log files) b ks c v h.runs

    -- memory is short
    pub line_now : LineKeeps state polls source split comes items workers files log b ks c0 c d0
    line_now = record {
      places = h.places;
      order = h.order;
      agree = h.runs.agree;
      moves = h.runs.moves;
      trades = h.runs.trades;
      polled = polls_now state polls refuses admits source split comes items c0 d0 workers pos files log b ks c v lim h;
    }

    pub line_short : LineStops state polls refuses admits source split comes items files log b c0 d0 v (why.Split fault.NoMemory)
    line_short = record {
      fault = runs_short state polls refuses admits source split comes items c0 d0 (exchanged log files) b ks c v h.runs;
      before = λ o law. tt;
      ends = tt;
    }

    -- what was handed over, in a wait or before one
    pub line_takes : (us : List (Chunk R)) → WaitTakes state source split comes items b c v us → DriveTakes state source items d0.left d0.ordered (exchanged log files) c0 us
    line_takes us t = record {
      rows = t.rows h.runs.rows;
      front = λ law. front_along items d0.ordered v.ordered d0.left (limit_in split comes items v) (answer (tells state source (exchanged log files))) (given items us) h.runs.ordered (h.runs.limit ∙ lim)
          (subst (λ (ts : List (Told I)). IsGivenFront v.ordered (limit_in split comes items v) (answer ts) (given items us)) told
          (t.front (h.runs.trades.agrees law.cache) (subst AllTell (sym told) law.tell) (runs_sound state polls refuses admits source split comes items c0 d0 (exchanged log files) b ks c v h.runs law.cache)));
    }

    pub line_taken_now : (us vs : List (Chunk R)) → v.chunks.items ≡ us ++ vs → DriveTakes state source items d0.left d0.ordered (exchanged log files) c0 us
    line_taken_now us vs e = line_takes us (record {
      rows = λ all. all_first (HasRow items) us vs (subst (All (HasRow items)) e all);
      front = λ agrees all s. front_sound split comes items (tells state source b) v us vs e all s;
    })

    module _ (e : List (ScanFile O S)) (ls : List Waiters) (d : Cache) (w : Drive W R F) (k : RoundsKeep state polls source split comes items (CacheAgrees source b c) workers b e ls c d v) where
      -- what the run keeps
      pub line_keeps : LineKeeps state polls source split comes items workers files log e ls c0 d d0
      line_keeps = record {
        places = h.places;
        order = h.order;
        agree = k.agree;
        moves = runs_moves state polls refuses admits source split comes items c0 d0 (exchanged log files) b ks c v h.runs e k.moves;
        trades = runs_trades state polls refuses admits source split comes items c0 d0 (exchanged log files) b ks c v h.runs e d k.trades;
        polled = polls_wait state polls refuses admits source split comes items c0 d0 workers pos files log b ks c v lim h e k.polled;
      }

      -- all is given, or the limit is met
      pub line_ends : WaitComes state polls refuses admits source split comes items round.Done b e ls c d v w → LineEnds state polls refuses admits source split comes items files log e ls c0 d d0 w
      line_ends r = record {
        balance = runs_ends state polls refuses admits source split comes items c0 d0 (exchanged log files) b ks c v h.runs e ls d w r.balance;
        rows = r.rows h.runs.rows;
        done = runs_done state polls refuses admits source split comes items c0 d0 (exchanged log files) b ks c v h.runs w r.comes_to d0.left lim;
        opened = λ none j lt. runs_opened state polls refuses admits source split comes items c0 d0 (exchanged log files) b ks c v h.runs e r.grounds none j (let n = length_exchanged log files in omega (arith, n, lt));
      }

      -- a fault
      pub line_stops : (x : RoundFault F) → WaitStops state polls refuses admits source split comes items b e c v w x → LineStops state polls refuses admits source split comes items files log e c0 d0 w x
      line_stops x r = record {
        fault = runs_fault state polls refuses admits source split comes items c0 d0 (exchanged log files) b ks c v h.runs e w x k.moves r.fault;
        before = λ o law. subst (λ (xs : List (ScanFile O S)). StopsBefore items d0.left (tells state source xs) x) (lined_files state polls refuses admits source split comes items c0 d0 workers pos files log b ks c v lim h o)
            (runs_before state polls refuses admits source split comes items c0 d0 (exchanged log files) b ks c v h.runs x r.before d0.left lim o
            (lined_lawful state polls refuses admits source split comes items c0 d0 workers pos files log b ks c v lim h law));
        ends = runs_ground state polls refuses admits source split comes items c0 d0 (exchanged log files) b ks c v h.runs e x r.ends;
      }

      -- an opener has answered
      pub line_waits : WaitComes state polls refuses admits source split comes items round.Opened b e ls c d v w → Lined state polls refuses admits source split comes items c0 d0 workers files log e ls d w
      line_waits r = lined_wait state polls refuses admits source split comes items c0 d0 workers pos files log b ks c v lim h e ls d w k.agree k.moves k.trades r.comes_to r.balance r.rows r.grounds k.polled

      module _ (r : WaitComes state polls refuses admits source split comes items round.Opened b e ls c d v w) (log' : List (ℕ × ℕ)) (b' : List (ScanFile O S)) (ks' : List Waiters) (w' : Drive W R F) (line : KeepsLine workers log log' e b' ls ks' w w') where
        -- and open files are brought forward
        pub line_brought : (w.ordered ≡ true → log' ≡ log) → Lined state polls refuses admits source split comes items c0 d0 workers files log' b' ks' d w'
        line_brought same = lined_line state polls refuses admits source split comes items c0 d0 workers pos files log e ls d w lim (line_waits r) log' b' ks' w' line same

        pub line_fewer : unopened w'.phases.items < unopened v.phases.items
        line_fewer =
            let x = r.comes_to.opened in
            let y = line_unopened state polls refuses admits source split comes items c0 d0 workers pos files log e ls d w lim (line_waits r) log' b' ks' w' line in
            omega (arith, x, y)

  -- why a run ends without all rows, part by part
  module _ {A : Type 0} (done : Result A (RoundFault F)) (files : List (ScanFile O S)) (log : List (ℕ × ℕ)) (e : List (ScanFile O S)) (w : Drive W R F)
      (h : IfErr done (λ x. (us : List (Chunk R)) × LineStops state polls refuses admits source split comes items files log e c0 d0 (with_taken us w) x)) where
    abbrev Stopped : RoundFault F → Type 0
    Stopped x = (us : List (Chunk R)) × LineStops state polls refuses admits source split comes items files log e c0 d0 (with_taken us w) x

    pub stops_fault : IfErr done (λ x. (us : List (Chunk R)) × StopsRun state polls refuses source split comes items (exchanged log files) e c0 d0 (with_taken us w) x)
    stops_fault = IfErr-weaker done Stopped (λ x. (us : List (Chunk R)) × StopsRun state polls refuses source split comes items (exchanged log files) e c0 d0 (with_taken us w) x) (λ x s. (s.0, s.1.fault)) h

    pub stops_before : IfErr done (λ x. d0.ordered ≡ true → IsLawful state source files c0 → StopsBefore items d0.left (tells state source files) x)
    stops_before = IfErr-weaker done Stopped (λ x. d0.ordered ≡ true → IsLawful state source files c0 → StopsBefore items d0.left (tells state source files) x) (λ x s. s.1.before) h

    pub stops_ends : IfErr done (IsGround state polls admits source (exchanged log files) e c0)
    stops_ends = IfErr-weaker done Stopped (IsGround state polls admits source (exchanged log files) e c0) (λ x s. s.1.ends) h
