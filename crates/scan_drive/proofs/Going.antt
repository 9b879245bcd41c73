-- A round keeps how the state of a drive stands for its answer.
use Rattle.std.proofs.Common.{◌≡◌, ℕ, ◌+◌, ◌<◌, ◌≤◌, List, [], ◌∷◌, ◌++◌, length, get_or, true, false, inl, inr, refl, sym, ap, ◌∙◌, subst, arith}
use Rattle.std.specs.Prelude.{◌⊎◌}
use Rattle.scan_values.specs.Selections.{is_among}
use Rattle.scan_segments.specs.Source.{SourceState, Store}
use Rattle.scan_splits.specs.Arrivals.{Arrivals}
use Rattle.scan_drive.specs.Actives.{AllOk, groups_left, groups_in}
use Rattle.scan_drive.specs.Asks.{IsWantedBy}
use Rattle.scan_drive.specs.Chunks.{given}
use Rattle.scan_drive.specs.Desks.{Waiters}
use Rattle.scan_drive.specs.Drives.{DesksAgree, SourcesMove, SlotsKeep}
use Rattle.scan_drive.specs.Ends.{Settles, limit_in}
use Rattle.scan_drive.specs.Files.{Told, told_at, untold, answer, AllTell}
use Rattle.scan_drive.specs.Measures.{is_there, slots_steps, EachAdvances}
use Rattle.scan_drive.specs.Moves.{IsNamed, KeepsSources, EachMoves, tell, tells}
use Rattle.scan_drive.specs.Openers.{OpenerState}
use Rattle.scan_drive.specs.Phases.{rest}
use Rattle.scan_drive.specs.Rounds.{Stands, Sound, IsEnd, ServesFront, files_turns, steps_left}
use Rattle.scan_drive.specs.Slots.{slot_at, is_read, is_reading, is_halted}
use Rattle.scan_drive.specs.Splits.{SplitState, Event}
use Rattle.scan_drive.specs.Trades.{FilesTrade}
use Rattle.scan_drive.specs.Turns.{TurnsWait, FrontWaits}
use Rattle.scan_drive.specs.Wants.{Cache}
use Rattle.scan_drive.specs.declared.files.ScanFile.{ScanFile}
use Rattle.scan_drive.specs.declared.round.Drive.{Drive}
use Rattle.scan_drive.specs.declared.slot.Stage.{Stage}
use Rattle.scan_drive.specs.declared.slot.Stage.TheVariants as stage
use Rattle.scan_drive.proofs.Asked.{reading_there}
use Rattle.scan_drive.proofs.Filing.{files_ledger_same}
use Rattle.scan_drive.proofs.Handing.{among_head}
use Rattle.scan_drive.proofs.Same.{same_flag}
use Rattle.scan_drive.proofs.Lasting.{sources_le, source_lt, budget_kept}
use Rattle.scan_drive.proofs.Moving.{get_or-map, told_same, each_under, each_then, each_sources}
use Rattle.scan_drive.proofs.Standing.{keeps_from, seated_advances, within_advances}
use Rattle.scan_drive.proofs.Trading.{agrees_same}
use Rattle.scan_drive.proofs.Turning.{sum_advanced, sum_nearer}

module _ {O S I : Type 0} (state : O → OpenerState I) (polls : O → O → Type 0) (source : S → SourceState) where
  -- openers alone were polled
  pub agree_kept : (a b : List (ScanFile O S)) (desks : List Waiters) → length b ≡ length a → KeepsSources a b → DesksAgree source a desks → DesksAgree source b desks
  agree_kept a b desks n k g = record {
    len = g.len ∙ sym n;
    at = λ j f lt id. ap (λ s. (source s).live id) (k j f) ∙ g.at j f (omega (arith, lt, n)) id;
  }

  pub trade_kept : (P : Type 0) (a b : List (ScanFile O S)) (c : Cache) → KeepsSources a b → EachMoves state polls source P a b → FilesTrade source a b c c
  trade_kept P a b c k m = record { len = m.len; ledger = files_ledger_same source a b c m.len k (λ j f. (m.at j f).name); agrees = λ h. agrees_same source a b c m.len (λ k f. (m.at k f).name) (λ k f. (m.at k f).source_moves.holds) h }

is_read_on : {W R : Type 0} (x : Stage W R) → is_there x ≡ true → is_read x ≡ false → is_halted x ≡ false → is_reading x ≡ true
is_read_on stage.Empty t r h = absurd cc
is_read_on (stage.Reads x) t r h = refl
is_read_on (stage.Read rows) t r h = absurd cc
is_read_on (stage.Halted x k) t r h = absurd cc

module _ {O S W I R F : Type 0} (state : O → OpenerState I) (polls : O → O → Type 0) (source : S → SourceState) (split : W → SplitState I) (comes : W → Arrivals → Store → Event → Type 0) (items : R → List I) where
  -- files after a whole round, which were asked only for what they name, where the drive was sound
  pub moves_all : (asking : List ℕ) (a b c : List (ScanFile O S)) (d0 d1 d2 : Drive W R F) → EachMoves state polls source (Unit {0}) a b
      → (Sound split comes items (tells state source a) d0 → Sound split comes items (tells state source a) d1) → Settles split comes items asking d1 d2 → Stands (length a) d2
      → SourcesMove source (IsWantedBy asking d2.active.slots.items) b c → EachMoves state polls source (Sound split comes items (tells state source a) d0) a c
  moves_all asking a b c d0 d1 d2 m sound s stands n =
      each_then state polls source If a b c (each_under state polls source (Unit {0}) If (λ h. tt) a b m) (each_sources state polls source If (IsWantedBy asking d2.active.slots.items) b c n named)
    where
      If : Type 0
      If = Sound split comes items (tells state source a) d0

      named : (k id : ℕ) (f : ScanFile O S) → IsWantedBy asking d2.active.slots.items k id → If → IsNamed (tell state source (get_or b k f)) id
      named k id f w h =
          let there = reading_there (slot_at d2.active.slots.items w.place).stage (s.asks.waiting w.place w.listed).reading in
          let lt : k < length a = (let x = stands.ready.within w.place there in let e = w.file_is in omega (arith, x, e)) in
          let told : told_at (tells state source a) k ≡ tell state source (get_or b k f) = get_or-map state polls source (Unit {0}) a k untold f lt ∙ sym (told_same state polls source (Unit {0}) (get_or a k f) (get_or b k f) (m.at k f)) in
          subst (λ (t : Told I). IsNamed t id) told (s.named (tells state source a) (sound h).ok k id w)

  -- slots after wants and polls
  pub sound_served : (a b : List (ScanFile O S)) (d e : Drive W R F) → EachMoves state polls source (Unit {0}) a b → EachAdvances split d.active.slots.items e.active.slots.items
      → SlotsKeep source split comes items b d.active.slots.items e.active.slots.items → e.active.turns ≡ d.active.turns → e.phases ≡ d.phases → e.chunks ≡ d.chunks → e.ordered ≡ d.ordered → e.tally ≡ d.tally
      → Stands (length a) d →
      Sound split comes items (tells state source a) d → Sound split comes items (tells state source a) e
  sound_served a b d e m adv keep turns phases chunks ordered tally stands s = record {
    phases = subst (λ ps. Rattle.scan_drive.specs.Phases.PhasesOk split comes tale ps.items) (sym phases) s.phases;
    ok = subst (λ ts. Rattle.scan_drive.specs.Actives.EachOk split comes items tale ts.items e.active.slots.items) (sym turns) (keeps.ok s.ok);
    tally = subst (Rattle.scan_drive.specs.Turns.IsTally tale) (sym tally) s.tally;
    sums = λ all. same_flag d.ordered e.ordered (given items e.chunks.items ++ (groups_left split comes items tale e.active ++ rest split comes tale e.phases.items))
        (given items d.chunks.items ++ (groups_left split comes items tale d.active ++ rest split comes tale d.phases.items)) (answer tale) ordered
        ((λ j. given items (chunks j).items ++ (groups_in split comes items tale ((turns j).items) e.active.slots.items ++ rest split comes tale ((phases j).items)))
        ∙ ap (λ gs. given items d.chunks.items ++ (gs ++ rest split comes tale d.phases.items)) (keeps.left all s.ok))
        (s.sums all);
  }
    where
      tale : List (Told I)
      tale = tells state source a

      some_file : (x : List (ScanFile O S)) → 0 < length x → ScanFile O S
      some_file [] lt = absurd (omega (arith, lt))
      some_file (f ∷ x) lt = f

      keeps : Rattle.scan_drive.specs.Actives.Keeps split comes items tale d.active.turns.items d.active.slots.items e.active.slots.items
      keeps = keeps_from split comes items tale d.active.turns.items d.active.slots.items e.active.slots.items (λ q. (adv.at q).file_is) (λ q p store among told.
          (let k = (slot_at d.active.slots.items q).file in
          let lt : k < length a = stands.ready.within q (stands.ready.filled q among) in
          let f = some_file a (omega (arith, lt)) in
          let same : told_at tale k ≡ tell state source (get_or b k f) = get_or-map state polls source (Unit {0}) a k untold f lt ∙ sym (told_same state polls source (Unit {0}) (get_or a k f) (get_or b k f) (m.at k f)) in
          keep f p store q (sym (ap (λ (t : Told I). t.store) same) ∙ told)))

  pub stands_served : (n : ℕ) (d e : Drive W R F) → EachAdvances split d.active.slots.items e.active.slots.items
      → e.active.turns ≡ d.active.turns → e.active.free ≡ d.active.free → e.phases ≡ d.phases
      → e.first ≡ d.first → e.left ≡ d.left → e.ordered ≡ d.ordered → e.budget ≡ d.budget → Stands n d → Stands n e
  stands_served n d e adv turns free phases first left ordered budget s = record {
    lens = ap (λ ps. length ps.items) phases ∙ s.lens;
    first = subst (λ k. k ≤ n) (sym first) s.first;
    below = subst (λ k. Rattle.scan_drive.specs.Phases.SpentBelow e.phases.items k) (sym first) (subst (λ ps. Rattle.scan_drive.specs.Phases.SpentBelow ps.items d.first) (sym phases) s.below);
    ready = record {
      seated = subst (λ ts. Rattle.scan_drive.specs.Actives.AreSeats ts.items e.active.free.items e.active.slots.items) (sym turns)
          (subst (λ fs. Rattle.scan_drive.specs.Actives.AreSeats d.active.turns.items fs.items e.active.slots.items) (sym free)
          (seated_advances split d.active.turns.items d.active.free.items d.active.slots.items e.active.slots.items adv s.ready.seated));
      filled = λ q m. (adv.at q).there ∙ s.ready.filled q (sym (ap (λ ts. is_among ts.items q) turns) ∙ m);
      within = within_advances split n d.active.slots.items e.active.slots.items adv s.ready.within;
    };
    room = subst Rattle.scan_drive.specs.Chunks.HasRoom (sym left) s.room;
    budget = budget_kept d.ordered e.ordered d.left e.left d.budget e.budget ordered left budget s.budget;
  }

  -- less is left after a round in which no opener has answered
  pub round_steps : (May : ℕ → ℕ → Type 0) (asking : List ℕ) (a b c : List (ScanFile O S)) (d0 d1 d2 d3 : Drive W R F) →
      (steps_left state source split b d1 < steps_left state source split a d0) ⊎ ((steps_left state source split b d1 ≤ steps_left state source split a d0) × (d1.active.turns.items ≡ [] → IsEnd d1.first d1.tally d1.phases.items)) →
      Settles split comes items asking d1 d2 → Stands (length b) d2 → SourcesMove source May b c → EachAdvances split d2.active.slots.items d3.active.slots.items → d3.phases.items ≡ d2.phases.items → d3.first ≡ d2.first →
      ((place : ℕ) (later : List ℕ) → d2.active.turns.items ≡ place ∷ later → is_reading (slot_at d2.active.slots.items place).stage ≡ true → ServesFront source split place b c d2.active.slots.items d3.active.slots.items) → steps_left state source split c d3 < steps_left state source split a d0
  round_steps May asking a b c d0 d1 d2 d3 brought s stands n adv phases first served = go brought
    where
      turns_le : files_turns state source c ≤ files_turns state source b
      turns_le = sources_le state source May b c n

      slots_le : slots_steps split d3.active.slots.items ≤ slots_steps split d2.active.slots.items
      slots_le = sum_advanced split d2.active.slots.items d3.active.slots.items adv

      rest_of : Drive W R F → ℕ
      rest_of d = Rattle.scan_drive.specs.Measures.phases_steps split d.phases.items + (Rattle.std.specs.Prelude.◌-◌ (length d.phases.items) d.first)

      rest_same : (x y : Drive W R F) → y.phases.items ≡ x.phases.items → y.first ≡ x.first → rest_of y ≡ rest_of x
      rest_same x y p f = λ i. Rattle.scan_drive.specs.Measures.phases_steps split (p i) + (Rattle.std.specs.Prelude.◌-◌ (length (p i)) (f i))

      r21 : rest_of d2 ≡ rest_of d1
      r21 = rest_same d1 d2 s.phases s.first

      r32 : rest_of d3 ≡ rest_of d2
      r32 = rest_same d2 d3 phases first

      Goal : Type 0
      Goal = steps_left state source split c d3 < steps_left state source split a d0

      -- nothing else has fallen: it is the turn of a split that is served
      front : slots_steps split d2.active.slots.items ≤ slots_steps split d1.active.slots.items → steps_left state source split b d1 ≤ steps_left state source split a d0 → FrontWaits d2.active → Goal
      front le m f = by (served f.place f.later f.turns (is_read_on (slot_at d2.active.slots.items f.place).stage there f.unread f.wanted))
        where
          there : is_there (slot_at d2.active.slots.items f.place).stage ≡ true
          there = stands.ready.filled f.place (ap (λ ts. is_among ts f.place) f.turns ∙ among_head f.place f.later)

          by : ServesFront source split f.place b c d2.active.slots.items d3.active.slots.items → Goal
          by (inl near) = let l = sum_nearer split f.place d2.active.slots.items d3.active.slots.items adv near in omega (arith, l, le, m, turns_le, r21, r32)
          by (inr fell) = let l = source_lt state source May (slot_at d2.active.slots.items f.place).file b c (stands.ready.within f.place there) n fell in omega (arith, l, le, m, slots_le, r21, r32)

      go : (steps_left state source split b d1 < steps_left state source split a d0) ⊎ ((steps_left state source split b d1 ≤ steps_left state source split a d0) × (d1.active.turns.items ≡ [] → IsEnd d1.first d1.tally d1.phases.items)) → Goal
      go (inl l) = some s.steps
        where
          some : (slots_steps split d2.active.slots.items < slots_steps split d1.active.slots.items) ⊎ ((slots_steps split d2.active.slots.items ≤ slots_steps split d1.active.slots.items) × (d2.active.turns.items ≡ d1.active.turns.items)) → Goal
          some (inl k) = omega (arith, l, k, turns_le, slots_le, r21, r32)
          some (inr k) = let e = k.0 in omega (arith, l, e, turns_le, slots_le, r21, r32)
      go (inr h) = some s.steps
        where
          end : d2.active.turns.items ≡ d1.active.turns.items → d2.active.turns.items ≡ [] → IsEnd d2.first d2.tally d2.phases.items
          end e z = as_two (h.1 (sym e ∙ z))
            where
              as_two : IsEnd d1.first d1.tally d1.phases.items → IsEnd d2.first d2.tally d2.phases.items
              as_two w = subst (λ k. IsEnd k d2.tally d2.phases.items) (sym s.first) (subst (λ t. IsEnd d1.first t d2.phases.items) (sym s.tally) (subst (λ ps. IsEnd d1.first d1.tally ps) (sym s.phases) w))

          waits : slots_steps split d2.active.slots.items ≤ slots_steps split d1.active.slots.items → d2.active.turns.items ≡ d1.active.turns.items → TurnsWait d2.active → Goal
          waits le e (inl z) = absurd (s.goes z (end e z))
          waits le e (inr f) = front le h.0 f

          some : (slots_steps split d2.active.slots.items < slots_steps split d1.active.slots.items) ⊎ ((slots_steps split d2.active.slots.items ≤ slots_steps split d1.active.slots.items) × (d2.active.turns.items ≡ d1.active.turns.items)) → Goal
          some (inl k) = let m = h.0 in omega (arith, m, k, turns_le, slots_le, r21, r32)
          some (inr k) = waits k.0 k.1 s.waits

module _ {W I R F : Type 0} (split : W → SplitState I) (comes : W → Arrivals → Store → Event → Type 0) (items : R → List I) where
  pub limit_same : (d e : Drive W R F) → e.chunks ≡ d.chunks → e.left ≡ d.left → limit_in split comes items e ≡ limit_in split comes items d
  limit_same d e c l = λ i. Rattle.scan_drive.specs.Chunks.limit_of (Rattle.scan_drive.specs.Files.count (given items (c i).items)) (l i)

-- sources alone have moved: why files are not read stays
pub why_same : {O S W I F : Type 0} (state : O → OpenerState I) (polls : O → O → Type 0) (refuses : O → O → F → Type 0) (source : S → SourceState) (May : ℕ → ℕ → Type 0)
    (files mid now : List (ScanFile O S)) → SourcesMove source May mid now → (old : List (Rattle.scan_drive.specs.declared.phase.Phase.Phase W F))
    (ps new : List (Rattle.scan_drive.specs.declared.phase.Phase.Phase W F)) → new ≡ ps → Rattle.scan_drive.specs.Moves.HoldsWhy state polls refuses files mid old ps
    → Rattle.scan_drive.specs.Moves.HoldsWhy state polls refuses files now old new
why_same {O} {S} state polls refuses source May files mid now m old ps new e h k why is = go (h k why (sym (ap (λ qs. Rattle.scan_drive.specs.Phases.phase_at qs k) e) ∙ is))
  where
    go : (Rattle.scan_drive.specs.Phases.phase_at old k ≡ Rattle.scan_drive.specs.declared.phase.Phase.TheVariants.Held why)
        ⊎ ((f : ScanFile O S) → Rattle.scan_drive.specs.Openers.IsRefused state polls refuses (get_or files k f).opener (get_or mid k f).opener why)
        → (Rattle.scan_drive.specs.Phases.phase_at old k ≡ Rattle.scan_drive.specs.declared.phase.Phase.TheVariants.Held why)
        ⊎ ((f : ScanFile O S) → Rattle.scan_drive.specs.Openers.IsRefused state polls refuses (get_or files k f).opener (get_or now k f).opener why)
    go (inl was) = inl was
    go (inr r) = inr (λ f. subst (λ (o : O). Rattle.scan_drive.specs.Openers.IsRefused state polls refuses (get_or files k f).opener o why) (sym (m.opener k f)) (r f))
