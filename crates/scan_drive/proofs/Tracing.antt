-- The steps of a round keep what a drive is grounded in.
use Rattle.std.proofs.Common.{◌≡◌, ℕ, suc, ◌+◌, ◌<◌, ◌≤◌, List, length, get_or, Bool, true, false, not, is_none, Option, Some, None, inl, inr, refl, sym, ap, ◌∙◌, subst, arith}
use Rattle.std.specs.Prelude.{◌⊎◌, All, IsSome, IfSome, take}
use Rattle.std.specs.FinMap as finite
use Rattle.std.specs.Ordering.{nat_cmp}
use Rattle.std.proofs.lemmas.List.{get_or_past, length-map}
use Rattle.scan_values.specs.Selections.{is_among}
use Rattle.scan_segments.specs.Source.{SourceState}
use Rattle.scan_splits.specs.declared.inbox.Arrival.{Arrival}
use Rattle.scan_drive.specs.Asks.{IsWantedBy}
use Rattle.scan_drive.specs.Chunks.{limit_of, IsOf, KeepsFiles}
use Rattle.scan_drive.specs.Drives.{SourcesMove, NoneOf}
use Rattle.scan_drive.specs.Drivings.{WasAdmitted, HasSplits}
use Rattle.scan_drive.specs.Files.{Item, Told, told_at, untold, AllGive}
use Rattle.scan_drive.specs.Filling.{AreCounted, IsTakenBy, Fills, OpensBy}
use Rattle.scan_drive.specs.Grounds.{MayCome, MayFail, SlotsFollow, PolledStops, SettlesBy, At, Came, Failed, IsReason, IsSlotGrounded, Grounded, IsRowCount, IsGround, ArePast}
use Rattle.scan_drive.specs.Ledger.{Ledger, books_of}
use Rattle.scan_drive.specs.Lost.{has_come, IsLost, EachFollows, HasLost}
use Rattle.scan_drive.specs.Measures.{is_there}
use Rattle.scan_drive.specs.Moves.{EachMoves, KeepsSources, tell, tells}
use Rattle.scan_drive.specs.Openers.{OpenerState, Opens, IsAdmitted, IsOpen}
use Rattle.scan_drive.specs.Phases.{phase_at, has_left, is_some_of, IsQueued, RowsOk, AllRowsOk, SpentBelow}
use Rattle.scan_drive.specs.Runs.{new_run}
use Rattle.scan_drive.specs.Slots.{slot_at, wanted_in}
use Rattle.scan_drive.specs.Sources.{NoId}
use Rattle.scan_drive.specs.Trades.{FilesTrade}
use Rattle.scan_drive.specs.Turns.{IsTally, IsTooMany, rows_in, rows_of}
use Rattle.scan_drive.specs.Wants.{Cache}
use Rattle.scan_drive.specs.declared.delivery.DriveFault.{DriveFault}
use Rattle.scan_drive.specs.declared.delivery.DriveFault.TheVariants as fault
use Rattle.scan_drive.specs.declared.files.ScanFile.{ScanFile}
use Rattle.scan_drive.specs.declared.phase.Phase.{Phase}
use Rattle.scan_drive.specs.declared.phase.Phase.TheVariants as phase
use Rattle.scan_drive.specs.declared.phase.Tally.{Tally}
use Rattle.scan_drive.specs.declared.round.Drive.{Drive}
use Rattle.scan_drive.specs.declared.settling.RoundFault.{RoundFault}
use Rattle.scan_drive.specs.declared.settling.RoundFault.TheVariants as why
use Rattle.scan_drive.specs.declared.slot.Halt.{Halt}
use Rattle.scan_drive.specs.declared.slot.Halt.TheVariants as halt
use Rattle.scan_drive.specs.declared.slot.Slot.{Slot}
use Rattle.scan_drive.specs.declared.slot.Stage.{Stage}
use Rattle.scan_drive.specs.declared.slot.Stage.TheVariants as stage
use Rattle.scan_drive.proofs.Admitting.{admitted_before}
use Rattle.scan_drive.proofs.Asking.{moves_weaker}
use Rattle.scan_drive.proofs.Balancing.{same_asked}
use Rattle.scan_drive.proofs.Fillings.{spent_queued}
use Rattle.scan_drive.proofs.Filing.{files_ledger_same}
use Rattle.scan_drive.proofs.Following.{lost_there, follows_same}
use Rattle.scan_drive.proofs.Grounding.{Moved, moved_self, moved_sources, moved_each, came_more, failed_on, may_come, may_fail, admitted_on, splits_on, slot_follows}
use Rattle.scan_drive.proofs.Handing.{le_or_lt}
use Rattle.scan_drive.proofs.Moving.{get_or-map, opens_self, each_then, each_sources, each_under, tells_stay}
use Rattle.scan_drive.proofs.Rounding.{sources_self}
use Rattle.scan_drive.proofs.Turning.{rows_one}

wanted_there : {W R : Type 0} (x : Stage W R) (id : ℕ) → is_among (wanted_in x) id ≡ true → is_there x ≡ true
wanted_there stage.Empty id h = absurd cc
wanted_there (stage.Reads r) id h = refl
wanted_there (stage.Read rows) id h = absurd cc
wanted_there (stage.Halted r g) id h = absurd cc

module _ {W F : Type 0} where
  queued_there : (ps : List (Phase W F)) (k : ℕ) → IsQueued (phase_at ps k) → k < length ps
  queued_there ps k q = go (le_or_lt (length ps) k)
    where
      go : (length ps ≤ k) ⊎ (k < length ps) → k < length ps
      go (inr lt) = lt
      go (inl le) = absurd (subst (λ (z : Phase W F). IsQueued z) (get_or_past ps k phase.Unopened le) q)

  too_many_queued : (k : ℕ) (t : Tally) (p : Phase W F) → IsTooMany k t p → IsQueued p × (t.files ≡ k)
  too_many_queued k t phase.Unopened h = absurd h
  too_many_queued k t (phase.Queued ws rows) h = (tt, h.0)
  too_many_queued k t (phase.Held x) h = absurd h

  held_there : (ps : List (Phase W F)) (k : ℕ) (x : F) → phase_at ps k ≡ phase.Held x → k < length ps
  held_there ps k x e = go (le_or_lt (length ps) k)
    where
      is_held : Phase W F → Bool
      is_held phase.Unopened = false
      is_held (phase.Queued ws rows) = false
      is_held (phase.Held y) = true

      go : (length ps ≤ k) ⊎ (k < length ps) → k < length ps
      go (inr lt) = lt
      go (inl le) = let bad : false ≡ true = ap is_held (sym (get_or_past ps k phase.Unopened le) ∙ e) in absurd cc

-- where there was no limit there is none
pub left_none : (n m : ℕ) (x y : Option ℕ) → limit_of n x ≡ limit_of m y → y ≡ None → x ≡ None
left_none n m None y e h = refl
left_none n m (Some k) None e h = absurd cc
left_none n m (Some k) (Some l) e h = absurd cc

-- nothing has arrived for a split that is new
empty_come : {W : Type 0} (R : Type 0) (w : W) (id : ℕ) → has_come {R = R} (stage.Reads (new_run w)) id ≡ true → ⊥
empty_come R w id h = let none : not (is_none (finite.get {X = Arrival} (new_run w).inbox id)) ≡ false = ap (λ (o : Option Arrival). not (is_none o)) (finite.get-empty nat_cmp id) in let bad = sym none ∙ h in absurd cc

module _ {O S I : Type 0} (state : O → OpenerState I) (polls : O → O → Type 0) (source : S → SourceState) where
  same_openers : (May : ℕ → ℕ → Type 0) (a b : List (ScanFile O S)) → SourcesMove source May a b → (k : ℕ) (f : ScanFile O S) → Opens state polls (get_or a k f).opener (get_or b k f).opener
  same_openers May a b m k f = subst (λ (o : O). Opens state polls (get_or a k f).opener o) (sym (m.opener k f)) (opens_self state polls (get_or a k f).opener)

module _ {O S W R I F : Type 0} (state : O → OpenerState I) (polls : O → O → Type 0) (admits : O → O → List W → Type 0) (source : S → SourceState)
    (first : List (ScanFile O S)) (c : Cache) where
  -- a split is of one of the files
  file_there : (a : List (ScanFile O S)) (d : Cache) (v : Drive W R F) (place : ℕ) → Grounded state polls admits source first a c d v → is_there (slot_at v.active.slots.items place).stage ≡ true → (slot_at v.active.slots.items place).file < length first
  file_there a d v place g t =
      let l = (g.slots place t).counted in
      let w = g.rows.tally.within in
      let n = length-map first (tell state source) in
      omega (arith, l, w, n)

  -- sources were called, and what came to the splits is told
  pub grounds_after : (a b : List (ScanFile O S)) (d e : Cache) (May Comes Fails : ℕ → ℕ → Type 0) (v w : Drive W R F) → SourcesMove source May a b → Ledger (books_of source first b) c e
      → ((k : ℕ) (f : ScanFile O S) → v.tally.files ≤ k → (source (get_or b k f).source).asked ≡ (source (get_or a k f).source).asked) →
      EachFollows Comes Fails v.active.slots.items w.active.slots.items → ((k id : ℕ) → k < length first → Comes k id → Came source first b c k id) → ((k id : ℕ) → k < length first → Fails k id → Failed source first b c k id) →
      w.phases.items ≡ v.phases.items → w.first ≡ v.first → w.tally ≡ v.tally → (All (IsOf v.tally.files) v.chunks.items → All (IsOf v.tally.files) w.chunks.items)
      → Grounded state polls admits source first a c d v → Grounded state polls admits source first b c e w
  grounds_after a b d e May Comes Fails v w m ledger quiet follows came failed ps fs ts given g = record {
    moves = each_then state polls source ⊥ first a b g.moves (each_sources state polls source ⊥ May a b m (λ k id f h z. absurd z));
    ledger = ledger;
    admitted = λ k q. admitted_on state polls admits k first a b (same_openers state polls source May a b m k) (g.admitted k (subst (λ (z : List (Phase W F)). IsQueued (phase_at z k)) ps q));
    some = λ k q. splits_on state polls admits k first a b (same_openers state polls source May a b m k) (g.some k (sym (ap (λ (z : List (Phase W F)). has_left (phase_at z k)) ps) ∙ q));
    counted = subst (λ n. AreCounted n w.tally w.phases.items) (sym fs) (subst (λ (t : Tally). AreCounted v.first t w.phases.items) (sym ts) (subst (λ (z : List (Phase W F)). AreCounted v.first v.tally z) (sym ps) g.counted));
    quiet = λ k l f. quiet k f (subst (λ (t : Tally). t.files ≤ k) ts l) ∙ g.quiet k (subst (λ (t : Tally). t.files ≤ k) ts l) f;
    rows = record { rows = λ k. subst (λ (z : List (Phase W F)). RowsOk (told_at (tells state source first) k) (phase_at z k)) (sym ps) (g.rows.rows k); tally = subst (IsTally (tells state source first)) (sym ts) g.rows.tally };
    given = subst (λ (t : Tally). All (IsOf t.files) w.chunks.items) (sym ts) (given g.given);
    slots = λ place t. subst (λ (u : Tally). IsSlotGrounded state polls admits source first b c u (slot_at w.active.slots.items place)) (sym ts) (slot place t);
  }
    where
      slot : (place : ℕ) → is_there (slot_at w.active.slots.items place).stage ≡ true → IsSlotGrounded state polls admits source first b c v.tally (slot_at w.active.slots.items place)
      slot place t =
          let s = slot_at v.active.slots.items place in
          let x = slot_at w.active.slots.items place in
          let lt = file_there a d v place g ((follows place).there t).0 in
          slot_follows state polls admits source first a b c (Comes s.file) (Fails s.file) v.tally s x (moved_sources source May a b m) (same_openers state polls source May a b m) (follows place) (λ id k. came s.file id lt k) (λ id k. failed s.file id lt k) t (g.slots place)

  -- splits were polled
  pub polled_grounds : (a : List (ScanFile O S)) (d : Cache) (v w : Drive W R F) → EachFollows NoneOf NoneOf v.active.slots.items w.active.slots.items → w.phases.items ≡ v.phases.items
      → w.first ≡ v.first → w.tally ≡ v.tally → KeepsFiles v.active.slots.items v.chunks.items w.chunks.items → Grounded state polls admits source first a c d v → Grounded state polls admits source first a c d w
  polled_grounds a d v w follows ps fs ts files g = grounds_after a a d d NoneOf NoneOf NoneOf v w (sources_self source NoneOf a) g.ledger (λ k f l. refl) follows (λ k id lt h. absurd h) (λ k id lt h. absurd h) ps fs ts (files v.tally.files (λ place there. (g.slots place there).counted)) g

  -- splits were served
  pub served_grounds : (asking : List ℕ) (a b : List (ScanFile O S)) (d e : Cache) (v w : Drive W R F) → SourcesMove source (IsWantedBy asking v.active.slots.items) a b → FilesTrade source a b d e
      → SlotsFollow source d a b v.active.slots.items w.active.slots.items → w.phases.items ≡ v.phases.items → w.first ≡ v.first → w.tally ≡ v.tally → w.chunks.items ≡ v.chunks.items →
      Grounded state polls admits source first a c d v → Grounded state polls admits source first b c e w
  served_grounds asking a b d e v w m trade follows ps fs ts chunks g =
      grounds_after a b d e (IsWantedBy asking v.active.slots.items) (MayCome source d a b) (MayFail source a b) v w m (trade.ledger first c g.moves.len g.ledger) quiet follows
      (λ k id lt h. may_come source first a b c d k id (moved_each source state polls ⊥ first a g.moves) lt (moved_sources source (IsWantedBy asking v.active.slots.items) a b m) g.ledger h)
      (λ k id lt h. may_fail source first a b c d k id (moved_each source state polls ⊥ first a g.moves) lt (moved_sources source (IsWantedBy asking v.active.slots.items) a b m) g.ledger h)
      ps fs ts (λ all. subst (All (IsOf v.tally.files)) (sym chunks) all) g
    where
      none : (k id : ℕ) → v.tally.files ≤ k → IsWantedBy asking v.active.slots.items k id → ⊥
      none k id l h =
          let t = wanted_there (slot_at v.active.slots.items h.place).stage id h.wanted in
          let less = (g.slots h.place t).counted in
          let is = h.file_is in
          omega (arith, less, is, l)

      quiet : (k : ℕ) (f : ScanFile O S) → v.tally.files ≤ k → (source (get_or b k f).source).asked ≡ (source (get_or a k f).source).asked
      quiet k f l = same_asked (source (get_or a k f).source) (source (get_or b k f).source) (moves_weaker (IsWantedBy asking v.active.slots.items k) NoId (source (get_or a k f).source) (source (get_or b k f).source) (λ id h. none k id l h) (m.moves k f))

  -- ---- openers were polled, and splits became active
  pub brought_grounds : (a b : List (ScanFile O S)) (d : Cache) (v w : Drive W R F) (mid : List (Phase W F)) → EachMoves state polls source (Unit {0}) a b → KeepsSources a b → OpensBy state polls admits a b v.phases.items mid → length v.phases.items ≡ length a → length mid ≡ length v.phases.items →
      (AllRowsOk (tells state source a) v.phases.items → AllRowsOk (tells state source a) mid) → (AllRowsOk (tells state source first) mid → IsTally (tells state source first) v.tally → AllRowsOk (tells state source first) w.phases.items × IsTally (tells state source first) w.tally) →
      Fills v.first w.first v.tally w.tally mid w.phases.items v.active.slots.items w.active.slots.items → w.chunks.items ≡ v.chunks.items →
      Grounded state polls admits source first a c d v → Grounded state polls admits source first b c d w
  brought_grounds a b d v w mid m same opens lens midlen rows tallied fills chunks g = record {
    moves = each_then state polls source ⊥ first a b g.moves later;
    ledger = files_ledger_same source a b d m.len same (λ k f. (m.at k f).name) first c g.moves.len g.ledger;
    admitted = λ k q. admitted k (phase_at mid k) refl (fills.queued k q);
    some = λ k q. some k (phase_at mid k) refl (fills.left k q);
    counted = fills.counted counted;
    quiet = λ k l f. ap (λ (s : S). (source s).asked) (same k f) ∙ g.quiet k (let n = fills.grows in omega (arith, l, n)) f;
    rows = record { rows = (tallied rows_mid g.rows.tally).0; tally = (tallied rows_mid g.rows.tally).1 };
    given = subst (All (IsOf w.tally.files)) (sym chunks) (λ i x lt. let h = g.given i x lt in let n = fills.grows in omega (arith, h, n));
    slots = λ place t. slot place t (fills.slots counted place);
  }
    where
      later : EachMoves state polls source ⊥ a b
      later = each_under state polls source (Unit {0}) ⊥ (λ z. absurd z) a b m

      moved : Moved source a b
      moved = moved_each source state polls (Unit {0}) a b m

      counted : AreCounted v.first v.tally mid
      counted = record { from = g.counted.from; queued = λ k lt. (opens k).stays (g.counted.queued k lt) }

      told : tells state source a ≡ tells state source first
      told = tells_stay state polls source ⊥ first a g.moves

      rows_mid : AllRowsOk (tells state source first) mid
      rows_mid = subst (λ (t : List (Told I)). AllRowsOk t mid) told (rows (subst (λ (t : List (Told I)). AllRowsOk t v.phases.items) (sym told) g.rows.rows))

      now : (k : ℕ) (f : ScanFile O S) (ws : List W) → IsAdmitted state polls admits (get_or a k f).opener (get_or b k f).opener ws → IsAdmitted state polls admits (get_or first k f).opener (get_or b k f).opener ws
      now k f ws = admitted_before state polls admits (get_or first k f).opener (get_or a k f).opener (get_or b k f).opener ws (g.moves.at k f).opens

      admitted : (k : ℕ) (p : Phase W F) → phase_at mid k ≡ p → IsQueued (phase_at mid k) → At first b (WasAdmitted state polls admits) k
      admitted k phase.Unopened e q = absurd (subst (λ (z : Phase W F). IsQueued z) e q)
      admitted k (phase.Held x) e q = absurd (subst (λ (z : Phase W F). IsQueued z) e q)
      admitted k (phase.Queued ws n) e q = by (subst (λ (z : Phase W F). IsOpen (λ us. (f : ScanFile O S) → IsAdmitted state polls admits (get_or a k f).opener (get_or b k f).opener us) (phase_at v.phases.items k) z) e (opens k).said)
        where
          by : (phase_at v.phases.items k ≡ phase.Queued ws n) ⊎ ((f : ScanFile O S) → IsAdmitted state polls admits (get_or a k f).opener (get_or b k f).opener ws.items) → At first b (WasAdmitted state polls admits) k
          by (inl was) = admitted_on state polls admits k first a b (λ f. (m.at k f).opens) (g.admitted k (subst (λ (z : Phase W F). IsQueued z) (sym was) tt))
          by (inr said) = λ f. (ws.items, now k f ws.items (said f))

      some : (k : ℕ) (p : Phase W F) → phase_at mid k ≡ p → has_left (phase_at mid k) ≡ true → At first b (HasSplits state polls admits) k
      some k phase.Unopened e q = let bad = sym q ∙ ap has_left e in absurd cc
      some k (phase.Held x) e q = let bad = sym q ∙ ap has_left e in absurd cc
      some k (phase.Queued ws n) e q = by (subst (λ (z : Phase W F). IsOpen (λ us. (f : ScanFile O S) → IsAdmitted state polls admits (get_or a k f).opener (get_or b k f).opener us) (phase_at v.phases.items k) z) e (opens k).said)
        where
          any : is_some_of ws.items ≡ true
          any = sym (ap has_left e) ∙ q

          by : (phase_at v.phases.items k ≡ phase.Queued ws n) ⊎ ((f : ScanFile O S) → IsAdmitted state polls admits (get_or a k f).opener (get_or b k f).opener ws.items) → At first b (HasSplits state polls admits) k
          by (inl was) = splits_on state polls admits k first a b (λ f. (m.at k f).opens) (g.some k (ap has_left was ∙ any))
          by (inr said) = λ f. (ws.items, now k f ws.items (said f), λ none. (let bad = sym any ∙ ap is_some_of none in absurd cc))

      slot : (place : ℕ) → is_there (slot_at w.active.slots.items place).stage ≡ true
          → (slot_at w.active.slots.items place ≡ slot_at v.active.slots.items place) ⊎ IsTakenBy w.tally mid (slot_at w.active.slots.items place)
          → IsSlotGrounded state polls admits source first b c w.tally (slot_at w.active.slots.items place)
      slot place t (inl e) =
          let s = slot_at v.active.slots.items place in
          let x = slot_at w.active.slots.items place in
          let h = slot_follows state polls admits source first a b c (λ id. ⊥) (λ id. ⊥) v.tally s x moved (λ k f. (m.at k f).opens) (follows_same (λ id. ⊥) (λ id. ⊥) s x e) (λ id z. absurd z) (λ id z. absurd z) t (g.slots place) in
          record { counted = (let l = h.counted in let n = fills.grows in omega (arith, l, n)); some = h.some; came = h.came; lost = h.lost }
      slot place t (inr h) =
          let x = slot_at w.active.slots.items place in
          record {
            counted = h.counted;
            some = some x.file (phase_at mid x.file) refl h.had;
            came = λ id k. absurd (empty_come R h.work id (sym (ap (λ (z : Stage W R). has_come z id) h.now) ∙ k));
            lost = λ e k. absurd (subst (λ (z : Stage W R). IsLost e z) h.now k);
          }

  -- ---- why a drive ends
  past_tally : (tale : List (Told I)) (k : ℕ) (v : Drive W R F) (p : Phase W F) → phase_at v.phases.items k ≡ p → k < length tale → IsTooMany k v.tally p → IsRowCount tale v → ArePast tale k
  past_tally tale k v phase.Unopened e lt m r all = absurd m
  past_tally tale k v (phase.Held x) e lt m r all = absurd m
  past_tally tale k v (phase.Queued ws rows) e lt m r all =
      let s : v.tally.rows ≡ rows_of (take k tale) = r.tally.sum all ∙ ap (λ n. rows_of (take n tale)) m.0 in
      let o = rows_one tale k lt in
      let here : IfSome (told_at tale k).part (λ p. rows ≡ p.row_count) = subst (λ (z : Phase W F). RowsOk (told_at tale k) z) e (r.rows k) in
      let row : rows ≡ rows_in (told_at tale k).part = told (told_at tale k).part (all k untold lt) here in
      let next : k + 1 ≡ suc k = omega arith in
      let one : rows_of (take (k + 1) tale) ≡ rows_of (take (suc k) tale) = ap (λ n. rows_of (take n tale)) next in
      let most = m.1 in
      omega (arith, s, o, row, one, most)
    where
      told : (o : Option (Rattle.scan_drive.specs.Files.Part I)) → IsSome o → IfSome o (λ p. rows ≡ p.row_count) → rows ≡ rows_in o
      told None a b = absurd cc
      told (Some p) a b = b

  -- a file with which there are too many has rows
  some_rows : (k : ℕ) (v : Drive W R F) (f : ScanFile O S) (p : Phase W F) → phase_at v.phases.items k ≡ p → k < length first → IsTooMany k v.tally p → AllRowsOk (tells state source first) v.phases.items → IfSome (state (get_or first k f).opener).gives (λ q. 0 < q.row_count)
  some_rows k v f phase.Unopened e lt m r = absurd m
  some_rows k v f (phase.Held x) e lt m r = absurd m
  some_rows k v f (phase.Queued ws rows) e lt m r =
      let here : IfSome (told_at (tells state source first) k).part (λ p. rows ≡ p.row_count) = subst (λ (z : Phase W F). RowsOk (told_at (tells state source first) k) z) e (r k) in
      let at : (told_at (tells state source first) k).part ≡ (state (get_or first k f).opener).gives = ap (λ (t : Told I). t.part) (get_or-map state polls source ⊥ first k untold f lt) in
      more (state (get_or first k f).opener).gives (subst (λ (o : Option (Rattle.scan_drive.specs.Files.Part I)). IfSome o (λ p. rows ≡ p.row_count)) at here)
    where
      more : (o : Option (Rattle.scan_drive.specs.Files.Part I)) → IfSome o (λ p. rows ≡ p.row_count) → IfSome o (λ p. 0 < p.row_count)
      more None h = tt
      more (Some p) h = let some = m.2 in omega (arith, h, some)

  -- a file that is too many, or is not read, has not been counted
  uncounted : (v : Drive W R F) (x : F) → phase_at v.phases.items v.first ≡ phase.Held x → AreCounted v.first v.tally v.phases.items → v.tally.files ≤ v.first
  uncounted v x e h = go (le_or_lt v.tally.files v.first)
    where
      go : (v.tally.files ≤ v.first) ⊎ (v.first < v.tally.files) → v.tally.files ≤ v.first
      go (inl le) = le
      go (inr lt) = absurd (subst (λ (z : Phase W F). IsQueued z) e (h.queued v.first lt))

  lost_ground : (a : List (ScanFile O S)) (d : Cache) (v : Drive W R F) (mid : List (Slot W R)) (file : ℕ) (h : Halt) → EachFollows NoneOf NoneOf v.active.slots.items mid → HasLost mid file h → Grounded state polls admits source first a c d v →
      (file < length first) × At first a (HasSplits state polls admits) file × IsReason source first a c file h
  lost_ground a d v mid file h follows l g = (lt, some, reason)
    where
      place : ℕ
      place = l.place

      there : is_there (slot_at mid l.place).stage ≡ true
      there = lost_there (slot_at mid l.place).stage h l.lost

      was : (is_there (slot_at v.active.slots.items l.place).stage ≡ true) × ((slot_at mid l.place).file ≡ (slot_at v.active.slots.items l.place).file)
      was = (follows l.place).there there

      here : IsSlotGrounded state polls admits source first a c v.tally (slot_at mid l.place)
      here = slot_follows state polls admits source first a a c (λ id. ⊥) (λ id. ⊥) v.tally (slot_at v.active.slots.items l.place) (slot_at mid l.place) (moved_self source a)
          (λ k f. opens_self state polls (get_or a k f).opener) (follows l.place) (λ id z. absurd z) (λ id z. absurd z) there (g.slots l.place)

      lt : file < length first
      lt = let n = file_there a d v l.place g was.0 in let e = was.1 in let q = l.file_is in omega (arith, n, e, q)

      some : At first a (HasSplits state polls admits) file
      some = subst (λ k. At first a (HasSplits state polls admits) k) l.file_is here.some

      reason : IsReason source first a c file h
      reason = subst (λ k. IsReason source first a c k h) l.file_is (here.lost h l.lost)

  split_ground : (a : List (ScanFile O S)) (d : Cache) (v : Drive W R F) (e : DriveFault) → PolledStops v.active.slots.items e → Grounded state polls admits source first a c d v → IsGround state polls admits source first a c {F = F} (why.Split e)
  split_ground a d v fault.NoMemory p g = tt
  split_ground a d v (fault.Source k id) p g =
      let r = lost_ground a d v p.mid k (halt.Source id) p.follows p.stops g in
      record { there = r.0; fact = λ f. ((r.2 f).0, (r.2 f).1, r.1 f) }
  split_ground a d v (fault.Corrupt k id) p g =
      let r = lost_ground a d v p.mid k (halt.Corrupt id) p.follows p.stops g in
      record { there = r.0; fact = λ f. (r.2 f, r.1 f) }
  split_ground a d v (fault.Overflow k) p g = (lost_ground a d v p.mid k halt.Overflow p.follows p.stops g).0

  -- a drive ends for its splits, or at the first file that has splits left
  pub settled_ground : (a : List (ScanFile O S)) (d : Cache) (v : Drive W R F) (e : RoundFault F) → length v.phases.items ≡ length a → SettlesBy v e → Grounded state polls admits source first a c d v → IsGround state polls admits source first a c e
  settled_ground a d v (why.Split e) n h g = split_ground a d v e h g
  settled_ground a d v (why.TooManyRows k) n h g =
      let q = too_many_queued k v.tally (phase_at v.phases.items k) h.1 in
      let lt : k < length first = (let l = queued_there v.phases.items k q.0 in let m = g.moves.len in omega (arith, l, n, m)) in
      let quiet : v.tally.files ≤ k = (let e = q.1 in omega (arith, e)) in (
        record { there = lt; fact = λ f. (g.quiet k quiet f, g.admitted k q.0 f, some_rows k v f (phase_at v.phases.items k) refl lt h.1 g.rows.rows) },
        past_tally (tells state source first) k v (phase_at v.phases.items k) refl (let l = length-map first (tell state source) in omega (arith, lt, l)) h.1 g.rows,
      )
  settled_ground a d v (why.Refused k x) n h g =
      let at : phase_at v.phases.items v.first ≡ phase.Held x = sym (ap (phase_at v.phases.items) h.0) ∙ h.1 in
      let quiet : v.tally.files ≤ k = (let l = uncounted v x at g.counted in let e = h.0 in omega (arith, l, e)) in
      record { there = (let l = held_there v.phases.items k x h.1 in let m = g.moves.len in omega (arith, l, n, m)); fact = g.quiet k quiet }

  -- all files are open where all are spent
  pub all_admitted : (a : List (ScanFile O S)) (d : Cache) (v : Drive W R F) → length v.phases.items ≤ v.first → SpentBelow v.phases.items v.first → length v.phases.items ≡ length a
      → Grounded state polls admits source first a c d v → (k : ℕ) → k < length first → At first a (WasAdmitted state polls admits) k
  all_admitted a d v past spent n g k lt = g.admitted k (spent_queued (phase_at v.phases.items k) (spent k (let m = g.moves.len in omega (arith, lt, past, n, m))))

module _ {O S W I F : Type 0} (state : O → OpenerState I) (polls : O → O → Type 0) (admits : O → O → List W → Type 0) (source : S → SourceState)
    (first : List (ScanFile O S)) (c : Cache) where
  -- once the requests that are live are dropped
  pub ground_closed : (a b : List (ScanFile O S)) (e : RoundFault F) → SourcesMove source NoneOf a b → IsGround state polls admits source first a c e → IsGround state polls admits source first b c e
  ground_closed a b (why.Split fault.NoMemory) m h = tt
  ground_closed a b (why.Split (fault.Source k id)) m h =
      let r = failed_on source first a b c k id (moved_sources source NoneOf a b m) (λ f. ((h.fact f).0, (h.fact f).1)) in
      record { there = h.there; fact = λ f. ((r f).0, (r f).1, splits_on state polls admits k first a b (same_openers state polls source NoneOf a b m k) (λ z. (h.fact z).2) f) }
  ground_closed a b (why.Split (fault.Corrupt k id)) m h = record {
    there = h.there;
    fact = λ f. (came_more source first a b c (get_or first k f).source_id id (moved_sources source NoneOf a b m) (h.fact f).0, splits_on state polls admits k first a b (same_openers state polls source NoneOf a b m k) (λ z. (h.fact z).1) f);
  }
  ground_closed a b (why.Split (fault.Overflow k)) m h = h
  ground_closed a b (why.TooManyRows k) m h = (
    record {
      there = h.0.there;
      fact = λ f. (same_asked (source (get_or a k f).source) (source (get_or b k f).source) (m.moves k f) ∙ (h.0.fact f).0, admitted_on state polls admits k first a b (same_openers state polls source NoneOf a b m k) (λ z. (h.0.fact z).1) f, (h.0.fact f).2);
    },
    h.1,
  )
  ground_closed a b (why.Refused k x) m h = record { there = h.there; fact = λ f. same_asked (source (get_or a k f).source) (source (get_or b k f).source) (m.moves k f) ∙ h.fact f }

module _ {O S W I : Type 0} (state : O → OpenerState I) (polls : O → O → Type 0) (admits : O → O → List W → Type 0) (source : S → SourceState)
    (first : List (ScanFile O S)) where
  pub admitted_closed : (k : ℕ) (a b : List (ScanFile O S)) → SourcesMove source NoneOf a b → At first a (WasAdmitted state polls admits) k → At first b (WasAdmitted state polls admits) k
  admitted_closed k a b m h = admitted_on state polls admits k first a b (same_openers state polls source NoneOf a b m k) h
