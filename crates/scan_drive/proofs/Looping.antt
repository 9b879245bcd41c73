-- Rounds, one after the other.
use Rattle.std.proofs.Common.{◌≡◌, ℕ, List, length, get_or, inl, inr, refl, sym, ◌∙◌, subst, arith}
use Rattle.std.specs.Prelude.{◌⊎◌}
use Rattle.scan_segments.specs.Source.{SourceState, Store}
use Rattle.scan_splits.specs.Arrivals.{Arrivals}
use Rattle.scan_drive.specs.Before.{SoundInOrder, StopsBefore}
use Rattle.scan_drive.specs.Chunks.{given}
use Rattle.scan_drive.specs.Desks.{Waiters}
use Rattle.scan_drive.specs.Drives.{EachLinked}
use Rattle.scan_drive.specs.Ends.{Stops, limit_in}
use Rattle.scan_drive.specs.Files.{Told, AllTell, answer}
use Rattle.scan_drive.specs.Grants.{AreGiven}
use Rattle.scan_drive.specs.Moves.{EachMoves, HoldsWhy, tells}
use Rattle.scan_drive.specs.Openers.{OpenerState, IsRefused}
use Rattle.scan_drive.specs.Phases.{phase_at}
use Rattle.scan_drive.specs.Polls.{PollsOn}
use Rattle.scan_drive.specs.Rounds.{Stands, Sound}
use Rattle.scan_drive.specs.Runnings.{GoesOn, StopsIn, StopsRun}
use Rattle.scan_drive.specs.Splits.{SplitState, Event}
use Rattle.scan_drive.specs.Trades.{CacheAgrees, FilesTrade}
use Rattle.scan_drive.specs.Wants.{Cache}
use Rattle.scan_drive.specs.declared.files.ScanFile.{ScanFile}
use Rattle.scan_drive.specs.declared.phase.Phase.{Phase}
use Rattle.scan_drive.specs.declared.phase.Phase.TheVariants as phase
use Rattle.scan_drive.specs.declared.round.Drive.{Drive}
use Rattle.scan_drive.specs.declared.settling.RoundFault.{RoundFault}
use Rattle.scan_drive.proofs.Moving.{opens_then, each_then, each_under, tells_stay}
use Rattle.scan_drive.proofs.Same.{given_along}
use Rattle.scan_drive.proofs.Tracking.{stand_fit}

module _ {O S W I R F : Type 0} (state : O → OpenerState I) (polls : O → O → Type 0) (refuses : O → O → F → Type 0) (source : S → SourceState) (split : W → SplitState I) (comes : W → Arrivals → Store → Event → Type 0) (items : R → List I) where
  -- why files are not read, by what was said before and then
  why_then : (P Q : Type 0) (a b c : List (ScanFile O S)) (old mid new : List (Phase W F)) → EachMoves state polls source P a b → EachMoves state polls source Q b c → HoldsWhy state polls refuses a b old mid → HoldsWhy state polls refuses b c mid new → HoldsWhy state polls refuses a c old new
  why_then P Q a b c old mid new m n p q k why is = go (q k why is)
    where
      Why : ScanFile O S → ScanFile O S → Type 0
      Why x y = IsRefused state polls refuses x.opener y.opener why

      Goal : Type 0
      Goal = (phase_at old k ≡ phase.Held why) ⊎ ((f : ScanFile O S) → Why (get_or a k f) (get_or c k f))

      before : (phase_at old k ≡ phase.Held why) ⊎ ((f : ScanFile O S) → Why (get_or a k f) (get_or b k f)) → Goal
      before (inl was) = inl was
      before (inr r) = inr (λ f. (let x = r f in record { before = x.before; after = x.after; opens = x.opens; said = x.said; later = opens_then state polls x.after (get_or b k f).opener (get_or c k f).opener x.later (n.at k f).opens }))

      go : (phase_at mid k ≡ phase.Held why) ⊎ ((f : ScanFile O S) → Why (get_or b k f) (get_or c k f)) → Goal
      go (inl was) = before (p k why was)
      go (inr r) = inr (λ f. (let x = r f in record { before = x.before; after = x.after; opens = opens_then state polls (get_or a k f).opener (get_or b k f).opener x.before (m.at k f).opens x.opens; said = x.said; later = x.later }))

  abbrev pub Agrees : List (ScanFile O S) → Cache → Drive W R F → Type 0
  Agrees files c d = CacheAgrees source files c × Sound split comes items (tells state source files) d

  pub goes_self : (files : List (ScanFile O S)) (desks : List Waiters) (c : Cache) (d : Drive W R F) → Stands (length files) d → EachLinked desks d.active.slots.items → GoesOn state polls refuses source split comes items 0 files files desks c d d
  goes_self files desks c d s l = record { stands = s; links = l; limit = refl; opened = omega arith; why = λ k w is. inl is; sound = λ h x. x; order = λ h. h; ordered = refl; polled = λ start h. h }

  -- what was sound at first is so later, in the words of the files as they are then
  sound_now : (P : Type 0) (a b : List (ScanFile O S)) (desks : List Waiters) (c : Cache) (n : ℕ) (d e : Drive W R F) → EachMoves state polls source P a b
      → GoesOn state polls refuses source split comes items n a b desks c d e → CacheAgrees source a c → Sound split comes items (tells state source a) d
      → Sound split comes items (tells state source b) e
  sound_now P a b desks c n d e m g h s = subst (λ (ts : List (Told I)). Sound split comes items ts e) (sym (tells_stay state polls source P a b m)) (g.sound h s)

  pub goes_then : (P Q : Type 0) (n : ℕ) (a b e : List (ScanFile O S)) (desks desks' : List Waiters) (c c' : Cache) (d0 d1 d2 : Drive W R F) → EachMoves state polls source P a b
      → EachMoves state polls source Q b e → FilesTrade source a b c c' → GoesOn state polls refuses source split comes items 0 a b desks c d0 d1
      → GoesOn state polls refuses source split comes items n b e desks' c' d1 d2 → GoesOn state polls refuses source split comes items n a e desks' c d0 d2
  goes_then P Q n a b e desks desks' c c' d0 d1 d2 m k t p q = record {
    stands = subst (λ j. Stands j d2) m.len q.stands;
    links = q.links;
    limit = q.limit ∙ p.limit;
    opened = (let x = p.opened in let y = q.opened in omega (arith, x, y));
    why = why_then P Q a b e d0.phases.items d1.phases.items d2.phases.items m k p.why q.why;
    sound = λ h s. subst (λ (ts : List (Told I)). Sound split comes items ts d2) (tells_stay state polls source P a b m) (q.sound (t.agrees h) (sound_now P a b desks c 0 d0 d1 m p h s));
    order = λ h. q.order (p.order h);
    ordered = q.ordered ∙ p.ordered;
    polled = λ start h. q.polled start (p.polled start h);
  }

  pub moves_round : (a b e : List (ScanFile O S)) (desks : List Waiters) (c : Cache) (d0 d1 : Drive W R F) → EachMoves state polls source (Agrees a c d0) a b
      → GoesOn state polls refuses source split comes items 0 a b desks c d0 d1 → EachMoves state polls source (Sound split comes items (tells state source b) d1) b e
      → EachMoves state polls source (Agrees a c d0) a e
  moves_round a b e desks c d0 d1 m g k = each_then state polls source (Agrees a c d0) a b e m (each_under state polls source (Sound split comes items (tells state source b) d1) (Agrees a c d0) (λ h. sound_now (Agrees a c d0) a b desks c 0 d0 d1 m g h.0 h.1) b e k)

  pub done_round : (P : Type 0) (a b : List (ScanFile O S)) (desks : List Waiters) (c : Cache) (d0 d1 d2 : Drive W R F) → EachMoves state polls source P a b
      → GoesOn state polls refuses source split comes items 0 a b desks c d0 d1
      → (AllTell (tells state source b) → Sound split comes items (tells state source b) d1 → AreGiven d1.ordered (limit_in split comes items d1) (answer (tells state source b)) (given items d2.chunks.items)) →
      CacheAgrees source a c → AllTell (tells state source a) → Sound split comes items (tells state source a) d0
      → AreGiven d0.ordered (limit_in split comes items d0) (answer (tells state source a)) (given items d2.chunks.items)
  done_round P a b desks c d0 d1 d2 m g done h all s =
      let t = tells_stay state polls source P a b m in
      let now = done (subst AllTell (sym t) all) (sound_now P a b desks c 0 d0 d1 m g h s) in
      let was = given_along d0.ordered d1.ordered (limit_in split comes items d0) (limit_in split comes items d1) (answer (tells state source b)) (given items d2.chunks.items) g.ordered g.limit now in
      subst (λ (ts : List (Told I)). AreGiven d0.ordered (limit_in split comes items d0) (answer ts) (given items d2.chunks.items)) t was

  pub stops_round : (P Q : Type 0) (a b e : List (ScanFile O S)) (desks : List Waiters) (c : Cache) (d0 d1 d2 : Drive W R F) (x : RoundFault F) → EachMoves state polls source P a b
      → EachMoves state polls source Q b e → GoesOn state polls refuses source split comes items 0 a b desks c d0 d1 → StopsIn state polls refuses source split comes items b e d1 d2 x
      → StopsRun state polls refuses source split comes items a e c d0 d2 x
  stops_round P Q a b e desks c d0 d1 d2 x m k g s =
      let t = tells_stay state polls source P a b m in
      record {
        mid = s.mid;
        limit = s.limit ∙ g.limit;
        why = why_then P Q a b e d0.phases.items d1.phases.items s.mid.phases.items m k g.why s.why;
        held = s.held;
        sound = λ h w. subst (λ (ts : List (Told I)). Sound split comes items ts s.mid) t (s.sound (sound_now P a b desks c 0 d0 d1 m g h w));
        stops = λ h w. subst (λ (ts : List (Told I)). Stops split comes items ts s.mid d2 x) t (s.stops (sound_now P a b desks c 0 d0 d1 m g h w));
      }

  -- the same of a drive whose splits are in order
  pub order_now : (P : Type 0) (a b : List (ScanFile O S)) (desks : List Waiters) (c : Cache) (n : ℕ) (d e : Drive W R F) → EachMoves state polls source P a b → GoesOn state polls refuses source split comes items n a b desks c d e → CacheAgrees source a c →
      SoundInOrder split comes items (tells state source a) d → SoundInOrder split comes items (tells state source b) e
  order_now P a b desks c n d e m g h s = (subst AllTell (sym (tells_stay state polls source P a b m)) s.0, sound_now P a b desks c n d e m g h s.1, g.order s.2)

  -- polls of openers, in rounds that follow others
  pub polls_none : (workers : ℕ) (P : Type 0) (a : List (ScanFile O S)) (d : Drive W R F) → PollsOn state items d.ordered workers (limit_in split comes items d) (tells state source a) P d.phases.items a a
  polls_none workers P a d = record { grows = λ k f. omega arith; fit = λ start h. stand_fit state start a d.phases.items h; late = λ p start h. h }

  pub polls_then : (workers : ℕ) (P Q N : Type 0) (a b e : List (ScanFile O S)) (desks : List Waiters) (c : Cache) (d0 d1 : Drive W R F) → EachMoves state polls source N a b → GoesOn state polls refuses source split comes items 0 a b desks c d0 d1 → (P → Q) →
      PollsOn state items d0.ordered workers (limit_in split comes items d0) (tells state source a) P d0.phases.items a b → PollsOn state items d1.ordered workers (limit_in split comes items d1) (tells state source b) Q d1.phases.items b e
      → PollsOn state items d0.ordered workers (limit_in split comes items d0) (tells state source a) P d0.phases.items a e
  polls_then workers P Q N a b e desks c d0 d1 m g w p q = record {
    grows = λ k f. (let x = p.grows k f in let y = q.grows k f in omega (arith, x, y));
    fit = λ start h. q.fit start (g.polled start h);
    late = λ h start l. r.late (w h) start (p.late h start l);
  }
    where
      r : PollsOn state items d0.ordered workers (limit_in split comes items d0) (tells state source a) Q d1.phases.items b e
      r =
          subst (λ (ts : List (Told I)). PollsOn state items d0.ordered workers (limit_in split comes items d0) ts Q d1.phases.items b e) (tells_stay state polls source N a b m)
          (subst (λ o. PollsOn state items d0.ordered workers o (tells state source b) Q d1.phases.items b e) g.limit
          (subst (λ f. PollsOn state items f workers (limit_in split comes items d1) (tells state source b) Q d1.phases.items b e) g.ordered q))

  -- what stands before a fault, in the words of the first state
  pub before_then : (N : Type 0) (a b : List (ScanFile O S)) (desks : List Waiters) (c : Cache) (d0 d1 : Drive W R F) (x : RoundFault F) → EachMoves state polls source N a b → GoesOn state polls refuses source split comes items 0 a b desks c d0 d1 →
      StopsBefore items (limit_in split comes items d1) (tells state source b) x → StopsBefore items (limit_in split comes items d0) (tells state source a) x
  before_then N a b desks c d0 d1 x m g h =
      subst (λ (ts : List (Told I)). StopsBefore items (limit_in split comes items d0) ts x) (tells_stay state polls source N a b m) (subst (λ o. StopsBefore items o (tells state source b) x) g.limit h)
