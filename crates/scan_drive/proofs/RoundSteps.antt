-- One round: openers are polled, splits are polled and their rows given, and segments are wanted.
use Rattle.std.proofs.Common.{ap, ◌≡◌, ℕ, ◌+◌, ◌≤◌, List, length, Bool, true, false, refl, sym, ◌∙◌, subst, inl}
use Rattle.std.specs.Prelude.{All}
use Rattle.scan_segments.specs.Source.{SourceState, Store}
use Rattle.scan_splits.specs.Arrivals.{Arrivals}
use Rattle.scan_drive.specs.Asks.{IsWantedBy}
use Rattle.scan_drive.specs.Before.{SoundInOrder, StopsBefore}
use Rattle.scan_drive.specs.Chunks.{given, HasRow, KeepsRows}
use Rattle.scan_drive.specs.Desks.{Waiters}
use Rattle.scan_drive.specs.Drives.{DesksAgree, SourcesMove, EachLinked, NoneOf}
use Rattle.scan_drive.specs.Ends.{Settles, limit_in, gives_first}
use Rattle.scan_drive.specs.Files.{answer}
use Rattle.scan_drive.specs.Grounds.{KeepsGrounds}
use Rattle.scan_drive.specs.Losses.{FilesBalance, HaltsStay}
use Rattle.scan_drive.specs.Lost.{EachFollows}
use Rattle.scan_drive.specs.Moves.{EachMoves, KeepsSources, tells}
use Rattle.scan_drive.specs.Openers.{OpenerState, as_number}
use Rattle.scan_drive.specs.Order.{Rises}
use Rattle.scan_drive.specs.Phases.{unopened}
use Rattle.scan_drive.specs.Polls.{PollsOn, PollsStand}
use Rattle.scan_drive.specs.Rounds.{Stands, Sound}
use Rattle.scan_drive.specs.Runnings.{GoesOn}
use Rattle.scan_drive.specs.Splits.{SplitState, Event}
use Rattle.scan_drive.specs.Steps.{SettlesAll, SettlesNot, BringsIn, Serves, RoundsKeep, RoundComes, RoundStops}
use Rattle.scan_drive.specs.Trades.{FilesTrade}
use Rattle.scan_drive.specs.Wants.{Cache}
use Rattle.scan_drive.specs.declared.delivery.DriveFault.TheVariants as fault
use Rattle.scan_drive.specs.declared.files.ScanFile.{ScanFile}
use Rattle.scan_drive.specs.declared.phase.Phase.{Phase}
use Rattle.scan_drive.specs.declared.report.ScanReport.{ScanReport}
use Rattle.scan_drive.specs.declared.round.Drive.{Drive}
use Rattle.scan_drive.specs.declared.rounds.Round.TheVariants as round
use Rattle.scan_drive.specs.declared.settling.RoundFault.{RoundFault}
use Rattle.scan_drive.specs.declared.settling.RoundFault.TheVariants as why
use Rattle.scan_drive.proofs.Fronts.{front_along}
use Rattle.scan_drive.proofs.Accounting.{out_before}
use Rattle.scan_drive.proofs.Going.{agree_kept, trade_kept, limit_same, moves_all, sound_served, stands_served, why_same, round_steps}
use Rattle.scan_drive.proofs.Halting.{round_same, round_served}
use Rattle.scan_drive.proofs.Losing.{halts_advance, halts_then}
use Rattle.scan_drive.proofs.Moving.{each_under}
use Rattle.scan_drive.proofs.Ordering.{order_files}
use Rattle.scan_drive.proofs.Same.{given_along}
use Rattle.scan_drive.proofs.Stopping.{held_by}
use Rattle.scan_drive.proofs.Tracing.{polled_grounds, served_grounds, settled_ground, all_admitted}
use Rattle.scan_drive.proofs.Tracking.{stand_rest, on_rest}
use Rattle.scan_drive.proofs.Trading.{files_then}

module _ {W R F : Type 0} where
  -- slots and report alone are others
  pub record IsServed (d e : Drive W R F) : Type 0 where
    pub turns : e.active.turns ≡ d.active.turns
    pub free : e.active.free ≡ d.active.free
    pub phases : e.phases ≡ d.phases
    pub chunks : e.chunks ≡ d.chunks
    pub first : e.first ≡ d.first
    pub tally : e.tally ≡ d.tally
    pub left : e.left ≡ d.left
    pub ordered : e.ordered ≡ d.ordered
    pub budget : e.budget ≡ d.budget

module _ {O S W R I F : Type 0} (state : O → OpenerState I) (polls : O → O → Type 0) (refuses : O → O → F → Type 0) (admits : O → O → List W → Type 0) (source : S → SourceState)
    (split : W → SplitState I) (comes : W → Arrivals → Store → Event → Type 0) (items : R → List I) where
  -- memory is short
  pub stops_short : (a b : List (ScanFile O S)) (c : Cache) (d w : Drive W R F) → RoundStops state polls refuses admits source split comes items a b c d w (why.Split fault.NoMemory)
  stops_short a b c d w = record {
    fault = record { mid = d; limit = refl; why = λ k x is. inl is; held = tt; sound = λ h. h; stops = λ h. tt };
    before = λ o h. tt;
    ends = λ first before h. tt;
    gave = λ first. absurd cc;
  }

  -- openers were polled
  module _ (workers : ℕ) (a b : List (ScanFile O S)) (ks : List Waiters) (c : Cache) (d0 d1 : Drive W R F) (agree : DesksAgree source a ks)
      (m : EachMoves state polls source (Unit {0}) a b) (k : KeepsSources a b)
      (p : PollsOn state items d0.ordered workers (limit_in split comes items d0) (tells state source a) (SoundInOrder split comes items (tells state source a) d0) d0.phases.items a b) where
    pub keeps_brought : RoundsKeep state polls source split comes items (Unit {0}) workers a b ks c c d0
    keeps_brought = record {
      agree = agree_kept state polls source a b ks m.len k agree;
      moves = each_under state polls source (Unit {0}) (Unit {0} × Sound split comes items (tells state source a) d0) (λ h. tt) a b m;
      trades = trade_kept state polls source (Unit {0}) a b c k m;
      polled = record { grows = p.grows; fit = p.fit; late = λ h. p.late h.1 };
    }

    -- splits have become active
    module _ (rest : (d1.chunks ≡ d0.chunks) × (d1.left ≡ d0.left) × (d1.report ≡ d0.report) × (d1.ordered ≡ d0.ordered) × (d1.budget ≡ d0.budget))
        (answers : Bool) (br : BringsIn state polls refuses admits source split comes items answers a b d0 d1) where
      limit : limit_in split comes items d1 ≡ limit_in split comes items d0
      limit = limit_same split comes items d0 d1 rest.0 rest.1

      same_length : length d1.phases.items ≡ length b
      same_length = br.stands.lens ∙ sym m.len

      -- all is given, or the limit is met
      pub comes_done : (d2 : Drive W R F) → EachLinked ks d0.active.slots.items → d2.report ≡ d1.report → KeepsRows items d1.chunks.items d2.chunks.items → SettlesAll split comes items d1 d2 →
          RoundComes state polls refuses admits source split comes items round.Done a b ks c c d0 d2
      comes_done d2 links report rows s = record {
        comes_to = λ all h. given_along d0.ordered d1.ordered (limit_in split comes items d0) (limit_in split comes items d1) (answer (tells state source a)) (given items d2.chunks.items) rest.3 limit
            (s.done (tells state source a) all (br.sound h));
        balance = subst (λ (x : ScanReport). FilesBalance source a b c c d0.report x d0.active.slots.items) (sym (report ∙ rest.2)) (round_same source a b c d0.report d0.active.slots.items m.len k (λ j f. (m.at j f).name));
        out = λ e free. out_before d0.active.slots.items d1.active.slots.items br.halts br.links (s.out (limit ∙ free)) ks links;
        rows = λ h. rows (subst (λ chunks. All (HasRow items) chunks.items) (sym rest.0) h);
        grounds = λ first before h none j lt. all_admitted state polls admits source first before b c d1 (s.spent (rest.1 ∙ none)) br.stands.below same_length (br.grounds c first before h) j lt;
      }

      -- a split was given up, or a file is not read
      pub comes_not : (d2 : Drive W R F) (x : RoundFault F) → SettlesNot split comes items d1 d2 x → RoundStops state polls refuses admits source split comes items a b c d0 d2 x
      comes_not d2 x s = record {
        fault = record { mid = d1; limit = limit; why = br.why; held = held_by d1 x s.settles; sound = br.sound; stops = λ h. s.fault (tells state source a) (br.sound h) };
        before = λ o h. subst (λ l. StopsBefore items l (tells state source a) x) limit (s.before (rest.3 ∙ o) (tells state source a) (h.0, br.sound h.1, br.order h.2));
        ends = λ first before h. settled_ground state polls admits source first before b c d1 x same_length s.settles (br.grounds c first before h);
        gave = λ first.
            (let g = s.gave (ap (λ o. gives_first o x) rest.3 ∙ first) (tells state source a) in
            record {
              rows = λ h. g.rows (subst (λ chunks. All (HasRow items) chunks.items) (sym rest.0) h);
              front = λ all h. front_along items d0.ordered d1.ordered (limit_in split comes items d0) (limit_in split comes items d1) (answer (tells state source a)) (given items d2.chunks.items) rest.3 limit (g.front all (br.sound h));
            });
      }

      -- splits were polled, and segments wanted
      module _ (asking : List ℕ) (d2 : Drive W R F) (s : Settles split comes items asking d1 d2) (e : List (ScanFile O S)) (ls : List Waiters) (d : Cache) (n : SourcesMove source (IsWantedBy asking d2.active.slots.items) b e) (t : FilesTrade source b e c d)
          (agreed : DesksAgree source e ls) where
        stands : Stands (length a) d2
        stands = s.stands (length a) br.stands

        trade : FilesTrade source a b c c
        trade = trade_kept state polls source (Unit {0}) a b c k m

        pub keeps_served : RoundsKeep state polls source split comes items (Unit {0}) workers a e ls c d d0
        keeps_served = record {
          agree = agreed;
          moves = each_under state polls source (Sound split comes items (tells state source a) d0) (Unit {0} × Sound split comes items (tells state source a) d0) (λ h. h.1) a e
              (moves_all state polls source split comes items asking a b e d0 d1 d2 m br.sound s stands n);
          trades = files_then source a b e c c d trade t;
          polled = on_rest state items d0.ordered workers (limit_in split comes items d0) (tells state source a) (Unit {0} × SoundInOrder split comes items (tells state source a) d0) d0.phases.items a b e n.opener keeps_brought.polled;
        }

        module _ (d3 : Drive W R F) (q : IsServed d2 d3) (followed : EachFollows NoneOf NoneOf d1.active.slots.items d2.active.slots.items) (rows : KeepsRows items d1.chunks.items d2.chunks.items)
            (v : Serves source split comes items d2.active.turns.items d2.first b e ls c d d2.report d3.report d2.active.slots.items d3.active.slots.items) where
          phases_are : d3.phases.items ≡ d1.phases.items
          phases_are = (λ i. (q.phases i).items) ∙ s.phases

          goes : GoesOn state polls refuses source split comes items (as_number answers) a e ls c d0 d3
          goes = record {
            stands = stands_served state polls source split comes items (length a) d2 d3 v.advances q.turns q.free q.phases q.first q.left q.ordered q.budget stands;
            links = v.links;
            limit = limit_same split comes items d2 d3 q.chunks q.left ∙ s.limit ∙ limit;
            opened = subst (λ (ps : List (Phase W F)). unopened ps + as_number answers ≤ unopened d0.phases.items) (sym phases_are) br.opened;
            why = why_same state polls refuses source (IsWantedBy asking d2.active.slots.items) a b e n d0.phases.items d1.phases.items d3.phases.items phases_are br.why;
            sound = λ h w. sound_served state polls source split comes items a b d2 d3 m v.advances (v.keeps (trade.agrees h)) q.turns q.phases q.chunks q.ordered q.tally stands (s.sound (tells state source a) (br.sound w));
            order = λ h. order_files d2.active d3.active (λ i. (q.turns i).items) (λ x. (v.advances.at x).file_is) 0 d3.first
                (subst (λ y. Rises 0 y d2.active.turns.items d2.active.slots.items) (sym (q.first ∙ s.first)) (s.order 0 d1.first (br.order h)));
            ordered = q.ordered ∙ s.ordered ∙ rest.3;
            polled = λ start h. stand_rest state start b e d3.phases.items n.opener (subst (λ (ps : List (Phase W F)). PollsStand state start b ps) (sym phases_are) (br.polled start h));
          }

          stay : HaltsStay d2.active.slots.items d3.active.slots.items
          stay = halts_advance split d2.active.slots.items d3.active.slots.items v.advances

          balance : HaltsStay d0.active.slots.items d3.active.slots.items × FilesBalance source a e c d d0.report d3.report d3.active.slots.items
          balance = (
            halts_then d0.active.slots.items d1.active.slots.items d3.active.slots.items br.halts (halts_then d1.active.slots.items d2.active.slots.items d3.active.slots.items s.halts stay),
            round_served source a b e c d d0.report d2.report d3.report d2.active.slots.items d3.active.slots.items m.len k (λ j f. (m.at j f).name) (s.report ∙ rest.2) stay v.balance,
          )

          keeps_rows : KeepsRows items d0.chunks.items d3.chunks.items
          keeps_rows h = subst (λ chunks. All (HasRow items) chunks.items) (sym q.chunks) (rows (subst (λ chunks. All (HasRow items) chunks.items) (sym rest.0) h))

          grounds : KeepsGrounds state polls admits source a e c d d0 d3
          grounds first before h = served_grounds state polls admits source first before asking b e c d d2 d3 n t v.follows (λ i. (q.phases i).items) q.first q.tally (λ i. (q.chunks i).items)
              (polled_grounds state polls admits source first before b c d1 d2 followed s.phases s.first s.tally s.files (br.grounds c first before h))

          pub comes_opened : answers ≡ true → RoundComes state polls refuses admits source split comes items round.Opened a e ls c d d0 d3
          comes_opened is = record {
            comes_to = subst (λ (x : Bool). GoesOn state polls refuses source split comes items (as_number x) a e ls c d0 d3) is goes;
            balance = balance;
            out = λ h. absurd cc;
            rows = keeps_rows;
            grounds = grounds;
          }

          pub comes_more : answers ≡ false → RoundComes state polls refuses admits source split comes items round.More a e ls c d d0 d3
          comes_more is = record {
            comes_to = (
              subst (λ (x : Bool). GoesOn state polls refuses source split comes items (as_number x) a e ls c d0 d3) is goes,
              round_steps state polls source split comes items (IsWantedBy asking d2.active.slots.items) asking a b e d0 d1 d2 d3 (br.steps is) s
                  (subst (λ x. Stands x d2) (sym m.len) stands) n v.advances (λ i. (q.phases i).items) q.first v.nearer,
            );
            balance = balance;
            out = λ h. absurd cc;
            rows = keeps_rows;
            grounds = grounds;
          }
