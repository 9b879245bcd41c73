-- A drive since its start, of which places are exchanged.
use Rattle.std.proofs.Common.{◌≡◌, ℕ, ◌<◌, List, length, get_or, true, inl, inr, refl, sym, ◌∙◌, subst}
use Rattle.std.specs.Prelude.{◌⊎◌, All, Option, None}
use Rattle.scan_segments.specs.Source.{SourceState, Store}
use Rattle.scan_splits.specs.Arrivals.{Arrivals}
use Rattle.scan_drive.specs.Accounts.{RunEnds}
use Rattle.scan_drive.specs.Before.{InOrder, SoundInOrder, StopsBefore}
use Rattle.scan_drive.specs.Chunks.{given, HasRoom, HasRow, KeepsRows}
use Rattle.scan_drive.specs.Desks.{Waiters}
use Rattle.scan_drive.specs.Drives.{DesksAgree, EachLinked, IsIdle}
use Rattle.scan_drive.specs.Drivings.{WasAdmitted}
use Rattle.scan_drive.specs.Ends.{Stops, limit_in}
use Rattle.scan_drive.specs.Files.{Told, AllTell, answer, count}
use Rattle.scan_drive.specs.Grants.{AreGiven}
use Rattle.scan_drive.specs.Grounds.{Grounded, At, IsGround, KeepsGrounds, AdmitsAll, EndsGrounded}
use Rattle.scan_drive.specs.Moves.{EachMoves, HoldsWhy, tell, tells}
use Rattle.scan_drive.specs.Openers.{OpenerState, IsRefused}
use Rattle.scan_drive.specs.Phases.{phase_at}
use Rattle.scan_drive.specs.Polls.{PollsStand, PollsFit}
use Rattle.scan_drive.specs.Rounds.{IsLawful, Stands, Sound}
use Rattle.scan_drive.specs.Runnings.{Starts, GoesOn, StopsRun}
use Rattle.scan_drive.specs.Splits.{SplitState, Event}
use Rattle.scan_drive.specs.Trades.{CacheAgrees, FilesTrade}
use Rattle.scan_drive.specs.Wants.{Cache}
use Rattle.scan_drive.specs.declared.files.ScanFile.{ScanFile}
use Rattle.scan_drive.specs.declared.phase.Phase.{Phase}
use Rattle.scan_drive.specs.declared.phase.Phase.TheVariants as phase
use Rattle.scan_drive.specs.declared.round.Drive.{Drive}
use Rattle.scan_drive.specs.declared.delivery.DriveFault.TheVariants as fault
use Rattle.scan_drive.specs.declared.settling.RoundFault.{RoundFault}
use Rattle.scan_drive.specs.declared.settling.RoundFault.TheVariants as why
use Rattle.std.proofs.lemmas.List.{length-map}
use Rattle.scan_drive.proofs.Accounting.{Goes, run_self, run_then, run_end}
use Rattle.scan_drive.proofs.Moving.{moves_none, opens_then, each_then, each_under, tells_stay}
use Rattle.scan_drive.proofs.Ordering.{rises_none}
use Rattle.scan_drive.proofs.Starting.{starts_stands, starts_linked, starts_sound, starts_grounded, starts_rows}
use Rattle.scan_drive.proofs.Tracing.{left_none}
use Rattle.scan_drive.proofs.Tracking.{stand_first, stand_fit}
use Rattle.scan_drive.proofs.Trading.{files_self, files_then}

module _ {O S W R I F : Type 0} (state : O → OpenerState I) (polls : O → O → Type 0) (refuses : O → O → F → Type 0) (admits : O → O → List W → Type 0) (source : S → SourceState)
    (split : W → SplitState I) (comes : W → Arrivals → Store → Event → Type 0) (items : R → List I) (c0 : Cache) (d0 : Drive W R F) where
  -- why files are not read: one of the polls of its opener said so
  abbrev pub AreRefused : List (ScanFile O S) → List (ScanFile O S) → List (Phase W F) → Type 0
  AreRefused a b ps = (k : ℕ) (why : F) → phase_at ps k ≡ phase.Held why → (f : ScanFile O S) → IsRefused state polls refuses (get_or a k f).opener (get_or b k f).opener why

  -- a drive since its start with these files: what it has done to files, desks and cache, and how it stands
  pub record Runs (a b : List (ScanFile O S)) (ks : List Waiters) (c : Cache) (v : Drive W R F) : Type 0 where
    pub agree : DesksAgree source b ks
    pub moves : EachMoves state polls source (CacheAgrees source a c0) a b
    pub trades : FilesTrade source a b c0 c
    pub grounded : Grounded state polls admits source a b c0 c v
    pub keeps : Goes source a b c0 c d0.report v.report d0.active.slots.items v.active.slots.items
    pub rows : All (HasRow items) v.chunks.items
    pub stands : Stands (length a) v
    pub links : EachLinked ks v.active.slots.items
    pub limit : limit_in split comes items v ≡ limit_in split comes items d0
    pub why : AreRefused a b v.phases.items
    pub sound : CacheAgrees source a c0 → Sound split comes items (tells state source a) v
    pub order : InOrder v
    pub ordered : v.ordered ≡ d0.ordered
    pub stand : PollsStand state a b v.phases.items

  pub runs_start : (n : ℕ) (limit : Option ℕ) (a : List (ScanFile O S)) (ks : List Waiters) → n ≡ length a → Starts n limit d0 → HasRoom limit → All (IsIdle source) a → DesksAgree source a ks → Runs a a ks c0 d0
  runs_start n limit a ks n_is s room idle agree = record {
    agree = agree;
    moves = moves_none state polls source (CacheAgrees source a c0) a;
    trades = files_self source a c0;
    grounded = starts_grounded n limit d0 s state polls admits source split comes items a c0 idle n_is;
    keeps = run_self source a c0 d0.report d0.active.slots.items;
    rows = starts_rows n limit d0 s items;
    stands = subst (λ m. Stands m d0) n_is (starts_stands n limit d0 s room);
    links = starts_linked n limit d0 s source a ks idle agree;
    limit = refl;
    why = λ k why is f. (let bad : phase.Unopened ≡ phase.Held why = sym (s.shut k) ∙ is in absurd cc);
    sound = λ h. starts_sound n limit d0 s split comes items (tells state source a) (length-map a (tell state source) ∙ sym n_is);
    order = rises_none d0.first d0.active.turns.items d0.active.slots.items s.turns;
    ordered = refl;
    stand = stand_first state a d0.phases.items s.shut;
  }

  module _ (a b : List (ScanFile O S)) (ks : List Waiters) (c : Cache) (v : Drive W R F) (r : Runs a b ks c v) where
    -- what was told is told
    pub runs_told : tells state source b ≡ tells state source a
    runs_told = tells_stay state polls source (CacheAgrees source a c0) a b r.moves

    pub runs_sound : CacheAgrees source a c0 → Sound split comes items (tells state source b) v
    runs_sound h = subst (λ (ts : List (Told I)). Sound split comes items ts v) (sym runs_told) (r.sound h)

    premise : CacheAgrees source a c0 → CacheAgrees source b c × Sound split comes items (tells state source b) v
    premise h = (r.trades.agrees h, runs_sound h)

    pub runs_moves : (e : List (ScanFile O S)) → EachMoves state polls source (CacheAgrees source b c × Sound split comes items (tells state source b) v) b e → EachMoves state polls source (CacheAgrees source a c0) a e
    runs_moves e m = each_then state polls source (CacheAgrees source a c0) a b e r.moves (each_under state polls source (CacheAgrees source b c × Sound split comes items (tells state source b) v) (CacheAgrees source a c0) premise b e m)

    pub runs_trades : (e : List (ScanFile O S)) (d : Cache) → FilesTrade source b e c d → FilesTrade source a e c0 d
    runs_trades e d t = files_then source a b e c0 c d r.trades t

    -- files that are not read, after a step
    why_after : (P : Type 0) (e : List (ScanFile O S)) (qs : List (Phase W F)) → EachMoves state polls source P b e → HoldsWhy state polls refuses b e v.phases.items qs → AreRefused a e qs
    why_after P e qs m h k why is f = go (h k why is)
      where
        go : (phase_at v.phases.items k ≡ phase.Held why) ⊎ ((g : ScanFile O S) → IsRefused state polls refuses (get_or b k g).opener (get_or e k g).opener why) → IsRefused state polls refuses (get_or a k f).opener (get_or e k f).opener why
        go (inl was) = let x = r.why k why was f in record { before = x.before; after = x.after; opens = x.opens; said = x.said; later = opens_then state polls x.after (get_or b k f).opener (get_or e k f).opener x.later (m.at k f).opens }
        go (inr y) = let x = y f in record { before = x.before; after = x.after; opens = opens_then state polls (get_or a k f).opener (get_or b k f).opener x.before (r.moves.at k f).opens x.opens; said = x.said; later = x.later }

    -- rounds until an opener answers
    pub runs_wait : (e : List (ScanFile O S)) (ls : List Waiters) (d : Cache) (w : Drive W R F) → DesksAgree source e ls → EachMoves state polls source (CacheAgrees source b c × Sound split comes items (tells state source b) v) b e → FilesTrade source b e c d →
        GoesOn state polls refuses source split comes items 1 b e ls c v w → Goes source b e c d v.report w.report v.active.slots.items w.active.slots.items → KeepsRows items v.chunks.items w.chunks.items →
        KeepsGrounds state polls admits source b e c d v w → Runs a e ls d w
    runs_wait e ls d w agree m t g bal rows grounds = record {
      agree = agree;
      moves = runs_moves e m;
      trades = runs_trades e d t;
      grounded = grounds a c0 r.grounded;
      keeps = run_then source a b e c0 c d d0.report v.report w.report d0.active.slots.items v.active.slots.items w.active.slots.items r.moves.len r.keeps bal;
      rows = rows r.rows;
      stands = subst (λ n. Stands n w) r.moves.len g.stands;
      links = g.links;
      limit = g.limit ∙ r.limit;
      why = why_after (CacheAgrees source b c × Sound split comes items (tells state source b) v) e w.phases.items m g.why;
      sound = λ h. subst (λ (ts : List (Told I)). Sound split comes items ts w) runs_told (g.sound (r.trades.agrees h) (runs_sound h));
      order = g.order r.order;
      ordered = g.ordered ∙ r.ordered;
      stand = g.polled a r.stand;
    }

    pub runs_fault : (e : List (ScanFile O S)) (w : Drive W R F) (x : RoundFault F) → EachMoves state polls source (CacheAgrees source b c × Sound split comes items (tells state source b) v) b e → StopsRun state polls refuses source split comes items b e c v w x →
        StopsRun state polls refuses source split comes items a e c0 d0 w x
    runs_fault e w x m s = record {
      mid = s.mid;
      limit = s.limit ∙ r.limit;
      why = λ k why is. inr (λ f. why_after (CacheAgrees source b c × Sound split comes items (tells state source b) v) e s.mid.phases.items m s.why k why is f);
      held = s.held;
      sound = λ h z. subst (λ (ts : List (Told I)). Sound split comes items ts s.mid) runs_told (s.sound (r.trades.agrees h) (runs_sound h));
      stops = λ h z. subst (λ (ts : List (Told I)). Stops split comes items ts s.mid w x) runs_told (s.stops (r.trades.agrees h) (runs_sound h));
    }

    pub runs_ends : (e : List (ScanFile O S)) (ls : List Waiters) (d : Cache) (w : Drive W R F) → RunEnds source (limit_in split comes items v) b e ls c d v w → RunEnds source (limit_in split comes items d0) a e ls c0 d d0 w
    runs_ends e ls d w k = run_end source (limit_in split comes items d0) (limit_in split comes items v) a b e ls c0 c d d0 v w r.moves.len r.limit r.keeps k

    pub runs_done : (w : Drive W R F) → (CacheAgrees source b c → AllTell (tells state source b) → Sound split comes items (tells state source b) v → AreGiven v.ordered (limit_in split comes items v) (answer (tells state source b)) (given items w.chunks.items)) →
        (limit : Option ℕ) → limit_in split comes items d0 ≡ limit → IsLawful state source a c0 → AreGiven d0.ordered limit (answer (tells state source a)) (given items w.chunks.items)
    runs_done w done limit is law =
        subst (λ (ts : List (Told I)). AreGiven d0.ordered limit (answer ts) (given items w.chunks.items)) runs_told
        (subst (λ l. AreGiven d0.ordered l (answer (tells state source b)) (given items w.chunks.items)) (r.limit ∙ is)
        (subst (λ o. AreGiven o (limit_in split comes items v) (answer (tells state source b)) (given items w.chunks.items)) r.ordered
        (done (r.trades.agrees law.cache) (subst AllTell (sym runs_told) law.tell) (runs_sound law.cache))))

    pub runs_opened : (e : List (ScanFile O S)) → AdmitsAll state polls admits source b e c v → d0.left ≡ None → (k : ℕ) → k < length a → At a e (WasAdmitted state polls admits) k
    runs_opened e h none = h a c0 r.grounded (left_none (count (given items v.chunks.items)) (count (given items d0.chunks.items)) v.left d0.left r.limit none)

    pub runs_ground : (e : List (ScanFile O S)) (x : RoundFault F) → EndsGrounded state polls admits source b e c v x → IsGround state polls admits source a e c0 x
    runs_ground e x h = h a c0 r.grounded

    -- what stands before a fault, where the first files are these
    pub runs_before : (x : RoundFault F) → (v.ordered ≡ true → CacheAgrees source b c → SoundInOrder split comes items (tells state source b) v → StopsBefore items (limit_in split comes items v) (tells state source b) x) →
        (limit : Option ℕ) → limit_in split comes items d0 ≡ limit → d0.ordered ≡ true → IsLawful state source a c0 → StopsBefore items limit (tells state source a) x
    runs_before x h limit is o law =
        subst (λ (ts : List (Told I)). StopsBefore items limit ts x) runs_told (subst (λ o. StopsBefore items o (tells state source b) x) (r.limit ∙ is)
        (h (r.ordered ∙ o) (r.trades.agrees law.cache) (subst AllTell (sym runs_told) law.tell, runs_sound law.cache, r.order)))

    pub runs_fit : PollsFit state a b
    runs_fit = stand_fit state a b v.phases.items r.stand

    -- memory may be short at any time
    pub runs_short : StopsRun state polls refuses source split comes items a b c0 d0 v (why.Split fault.NoMemory)
    runs_short = record {
      mid = v;
      limit = r.limit;
      why = λ k why is. inr (λ f. r.why k why is f);
      held = tt;
      sound = λ h z. r.sound h;
      stops = λ h z. tt;
    }
