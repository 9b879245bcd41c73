-- Rounds of a wait, one after the other, in the words of the first.
use Rattle.std.proofs.Common.{◌≡◌, ℕ, List, length, refl, ◌∙◌}
use Rattle.scan_segments.specs.Source.{SourceState, Store}
use Rattle.scan_splits.specs.Arrivals.{Arrivals}
use Rattle.scan_drive.specs.Before.{SoundInOrder}
use Rattle.scan_drive.specs.Chunks.{given, KeepsRows}
use Rattle.scan_drive.specs.Desks.{Waiters}
use Rattle.scan_drive.specs.Drives.{DesksAgree, EachLinked}
use Rattle.scan_drive.specs.Ends.{limit_in}
use Rattle.scan_drive.specs.Files.{count}
use Rattle.scan_drive.specs.Grounds.{KeepsGrounds}
use Rattle.scan_drive.specs.Moves.{tells}
use Rattle.scan_drive.specs.Openers.{OpenerState}
use Rattle.scan_drive.specs.Rounds.{Stands, Sound}
use Rattle.scan_drive.specs.Runnings.{GoesOn}
use Rattle.scan_drive.specs.Splits.{SplitState, Event}
use Rattle.scan_drive.specs.Steps.{RoundsKeep, RoundComes, RoundStops, WaitComes, WaitStops}
use Rattle.scan_drive.specs.Trades.{CacheAgrees}
use Rattle.scan_drive.specs.Wants.{Cache}
use Rattle.scan_drive.specs.declared.files.ScanFile.{ScanFile}
use Rattle.scan_drive.specs.declared.round.Drive.{Drive}
use Rattle.scan_drive.specs.declared.rounds.Round.TheVariants as round
use Rattle.scan_drive.specs.declared.settling.RoundFault.{RoundFault}
use Rattle.scan_drive.proofs.Accounting.{Goes, run_self, run_then, run_last}
use Rattle.scan_drive.proofs.Looping.{goes_self, goes_then, moves_round, done_round, stops_round, order_now, polls_none, polls_then, before_then}
use Rattle.scan_drive.proofs.Moving.{each_under, moves_none}
use Rattle.scan_drive.proofs.Tracing.{left_none}
use Rattle.scan_drive.proofs.Trading.{files_self, files_then}

module _ {O S W R I F : Type 0} (state : O → OpenerState I) (polls : O → O → Type 0) (refuses : O → O → F → Type 0) (admits : O → O → List W → Type 0) (source : S → SourceState)
    (split : W → SplitState I) (comes : W → Arrivals → Store → Event → Type 0) (items : R → List I) where
  -- rounds since the first of a wait
  pub record Waits (workers : ℕ) (a : List (ScanFile O S)) (c0 : Cache) (d0 : Drive W R F) (b : List (ScanFile O S)) (ks : List Waiters) (c : Cache) (v : Drive W R F) : Type 0 where
    pub keeps : RoundsKeep state polls source split comes items (CacheAgrees source a c0) workers a b ks c0 c d0
    pub goes : GoesOn state polls refuses source split comes items 0 a b ks c0 d0 v
    pub balance : Goes source a b c0 c d0.report v.report d0.active.slots.items v.active.slots.items
    pub rows : KeepsRows items d0.chunks.items v.chunks.items
    pub grounds : KeepsGrounds state polls admits source a b c0 c d0 v

  pub waits_start : (workers : ℕ) (a : List (ScanFile O S)) (ks : List Waiters) (c0 : Cache) (d0 : Drive W R F) → Stands (length a) d0 → EachLinked ks d0.active.slots.items → DesksAgree source a ks → Waits workers a c0 d0 a ks c0 d0
  waits_start workers a ks c0 d0 s l agree = record {
    keeps = record {
      agree = agree;
      moves = moves_none state polls source (CacheAgrees source a c0 × Sound split comes items (tells state source a) d0) a;
      trades = files_self source a c0;
      polled = polls_none state polls refuses source split comes items workers (CacheAgrees source a c0 × SoundInOrder split comes items (tells state source a) d0) a d0;
    };
    goes = goes_self state polls refuses source split comes items a ks c0 d0 s l;
    balance = run_self source a c0 d0.report d0.active.slots.items;
    rows = λ h. h;
    grounds = λ first before h. h;
  }

  module _ (workers : ℕ) (a : List (ScanFile O S)) (c0 : Cache) (d0 : Drive W R F) (b : List (ScanFile O S)) (ks : List Waiters) (c : Cache) (v : Drive W R F) (w : Waits workers a c0 d0 b ks c v)
      (e : List (ScanFile O S)) (ls : List Waiters) (d : Cache) (k : RoundsKeep state polls source split comes items (Unit {0}) workers b e ls c d v) where
    abbrev First : Type 0
    First = CacheAgrees source a c0 × Sound split comes items (tells state source a) d0

    abbrev Now : Type 0
    Now = Unit {0} × Sound split comes items (tells state source b) v

    -- what all rounds keep, after one more
    pub waits_keeps : RoundsKeep state polls source split comes items (CacheAgrees source a c0) workers a e ls c0 d d0
    waits_keeps = record {
      agree = k.agree;
      moves = moves_round state polls refuses source split comes items a b e ks c0 d0 v w.keeps.moves w.goes
          (each_under state polls source (Unit {0} × Sound split comes items (tells state source b) v) (Sound split comes items (tells state source b) v) (λ h. (tt, h)) b e k.moves);
      trades = files_then source a b e c0 c d w.keeps.trades k.trades;
      polled = polls_then state polls refuses source split comes items workers (CacheAgrees source a c0 × SoundInOrder split comes items (tells state source a) d0)
          (Unit {0} × SoundInOrder split comes items (tells state source b) v) (CacheAgrees source a c0 × Sound split comes items (tells state source a) d0) a b e ks c0 d0 v w.keeps.moves w.goes
          (λ h. (tt, order_now state polls refuses source split comes items (CacheAgrees source a c0 × Sound split comes items (tells state source a) d0) a b ks c0 0 d0 v w.keeps.moves w.goes h.0 h.1)) w.keeps.polled k.polled;
    }

    pub waits_on : (v' : Drive W R F) → RoundComes state polls refuses admits source split comes items round.More b e ls c d v v' → Waits workers a c0 d0 e ls d v'
    waits_on v' r = record {
      keeps = waits_keeps;
      goes = goes_then state polls refuses source split comes items First Now 0 a b e ks ls c0 c d0 v v' w.keeps.moves k.moves w.keeps.trades w.goes r.comes_to.0;
      balance = run_then source a b e c0 c d d0.report v.report v'.report d0.active.slots.items v.active.slots.items v'.active.slots.items w.keeps.moves.len w.balance r.balance;
      rows = λ h. r.rows (w.rows h);
      grounds = λ first before h. r.grounds first before (w.grounds first before h);
    }

    pub waits_opened : (v' : Drive W R F) → RoundComes state polls refuses admits source split comes items round.Opened b e ls c d v v' → WaitComes state polls refuses admits source split comes items round.Opened a e ls c0 d d0 v'
    waits_opened v' r = record {
      comes_to = goes_then state polls refuses source split comes items First Now 1 a b e ks ls c0 c d0 v v' w.keeps.moves k.moves w.keeps.trades w.goes r.comes_to;
      balance = run_then source a b e c0 c d d0.report v.report v'.report d0.active.slots.items v.active.slots.items v'.active.slots.items w.keeps.moves.len w.balance r.balance;
      rows = λ h. r.rows (w.rows h);
      grounds = λ first before h. r.grounds first before (w.grounds first before h);
    }

    pub waits_done : (v' : Drive W R F) → RoundComes state polls refuses admits source split comes items round.Done b e ls c d v v' → WaitComes state polls refuses admits source split comes items round.Done a e ls c0 d d0 v'
    waits_done v' r = record {
      comes_to = done_round state polls refuses source split comes items First a b ks c0 d0 v v' w.keeps.moves w.goes r.comes_to;
      balance = run_last source (limit_in split comes items d0) a b e ls c0 c d d0 v v' w.keeps.moves.len w.balance r.balance (λ none. r.out refl (w.goes.limit ∙ none));
      rows = λ h. r.rows (w.rows h);
      grounds = λ first before h none. r.grounds first before (w.grounds first before h) (left_none (count (given items v.chunks.items)) (count (given items d0.chunks.items)) v.left d0.left w.goes.limit none);
    }

    pub waits_stops : (v' : Drive W R F) (x : RoundFault F) → RoundStops state polls refuses admits source split comes items b e c v v' x → WaitStops state polls refuses admits source split comes items a e c0 d0 v' x
    waits_stops v' x r = record {
      fault = stops_round state polls refuses source split comes items First Now a b e ks c0 d0 v v' x w.keeps.moves k.moves w.goes r.fault;
      before = λ o h s. before_then state polls refuses source split comes items First a b ks c0 d0 v x w.keeps.moves w.goes
          (r.before (w.goes.ordered ∙ o) (order_now state polls refuses source split comes items First a b ks c0 0 d0 v w.keeps.moves w.goes h s));
      ends = λ first before h. r.ends first before (w.grounds first before h);
    }
