-- How much is left, as openers are polled and requests answered.
use Rattle.std.proofs.Common.{◌≡◌, ℕ, suc, zero, ◌+◌, ◌-◌, ◌<◌, ◌≤◌, List, [], ◌∷◌, ◌++◌, length, get_or, Bool, true, false, Option, Result, Ok, Err, OnOk, inl, inr, refl, sym, ap, ◌∙◌, subst, arith}
use Rattle.std.specs.Prelude.{◌⊎◌, filter}
use Rattle.scan_values.specs.Selections.{is_among}
use Rattle.scan_segments.specs.Source.{SourceState, Store}
use Rattle.scan_splits.specs.Arrivals.{Arrivals}
use Rattle.scan_drive.specs.Actives.{AllOk, groups_left}
use Rattle.scan_drive.specs.Budgets.{BudgetData, IsBudget}
use Rattle.scan_drive.specs.Chunks.{given}
use Rattle.scan_drive.specs.Desks.{Waiters, waits}
use Rattle.scan_drive.specs.Drives.{desk_at, EachLinked, SourcesMove, BringsFileNearer}
use Rattle.scan_drive.specs.Files.{answer, Told}
use Rattle.scan_drive.specs.Measures.{slots_steps, phases_steps, IsNearer, EachAdvances}
use Rattle.scan_drive.specs.Moves.{EachMoves, AllWait, HoldsWhy, KeepsRest}
use Rattle.scan_drive.specs.Openers.{OpenerState}
use Rattle.scan_drive.specs.Phases.{phase_at, IsShut, SpentBelow, PhasesOk, rest}
use Rattle.scan_drive.specs.Rounds.{Stands, IsEnd, Sound, ServesFront, files_turns, steps_left}
use Rattle.scan_drive.specs.Runs.{is_nil}
use Rattle.scan_drive.specs.Slots.{slot_at, is_fresh, is_reading, stage_waits}
use Rattle.scan_drive.specs.Splits.{SplitState, Event, lacks}
use Rattle.scan_drive.specs.Turns.{IsSeated, SameTurns, SeatsOn, seats_steps, IsStuck, IsTally}
use Rattle.scan_drive.specs.declared.files.ScanFile.{ScanFile}
use Rattle.scan_drive.specs.declared.phase.Phase.{Phase}
use Rattle.scan_drive.specs.declared.phase.Phase.TheVariants as phase
use Rattle.scan_drive.specs.declared.round.Drive.{Drive}
use Rattle.scan_drive.specs.declared.slot.Slot.{Slot}
use Rattle.scan_drive.specs.declared.slot.Stage.{Stage}
use Rattle.scan_drive.specs.declared.slot.Stage.TheVariants as stage
use Rattle.scan_drive.proofs.Handing.{le_or_lt, among_head, among_later}
use Rattle.scan_drive.proofs.Moving.{rest_stays}
use Rattle.scan_drive.proofs.Nearing.{nearer_then}
use Rattle.scan_drive.proofs.Standing.{within_seated}
use Rattle.scan_drive.proofs.Same.{same_flag}

pub same_head : (x y : ℕ) (xs ys : List ℕ) → x ∷ xs ≡ y ∷ ys → x ≡ y
same_head x y xs ys e = ap (λ (zs : List ℕ). get_or zs 0 x) e

pub on_both : {U N : Type 0} {A B C : Type 0} (r : Result U N) → (A → B → C) → OnOk r A → OnOk r B → OnOk r C
on_both (Ok x) f a b = f a b
on_both (Err e) f a b = tt

module _ {O S I : Type 0} (state : O → OpenerState I) (source : S → SourceState) where
  pub turns_le : (a b : List (ScanFile O S)) → length b ≡ length a → ((k : ℕ) (f : ScanFile O S) → (state (get_or b k f).opener).turns ≤ (state (get_or a k f).opener).turns)
      → ((k : ℕ) (f : ScanFile O S) → (source (get_or b k f).source).turns ≤ (source (get_or a k f).source).turns) → files_turns state source b ≤ files_turns state source a
  turns_le [] [] n o s = omega arith
  turns_le [] (y ∷ b) n o s = absurd (omega arith)
  turns_le (x ∷ a) [] n o s = absurd (omega arith)
  turns_le (x ∷ a) (y ∷ b) n o s = let r = turns_le a b (omega (arith, n)) (λ k f. o (suc k) f) (λ k f. s (suc k) f) in let p = o 0 x in let q = s 0 x in omega (arith, r, p, q)

  pub turns_lt : (k : ℕ) (a b : List (ScanFile O S)) → k < length a → length b ≡ length a → ((k : ℕ) (f : ScanFile O S) → (state (get_or b k f).opener).turns ≤ (state (get_or a k f).opener).turns)
      → ((k : ℕ) (f : ScanFile O S) → (source (get_or b k f).source).turns ≤ (source (get_or a k f).source).turns) →
      ((f : ScanFile O S) → (state (get_or b k f).opener).turns + (source (get_or b k f).source).turns < (state (get_or a k f).opener).turns + (source (get_or a k f).source).turns) → files_turns state source b < files_turns state source a
  turns_lt k [] b lt n o s h = absurd (omega (arith, lt))
  turns_lt k (x ∷ a) [] lt n o s h = absurd (omega arith)
  turns_lt zero (x ∷ a) (y ∷ b) lt n o s h = let r = turns_le a b (omega (arith, n)) (λ k f. o (suc k) f) (λ k f. s (suc k) f) in let p = h x in omega (arith, r, p)
  turns_lt (suc k) (x ∷ a) (y ∷ b) lt n o s h = let r = turns_lt k a b (omega (arith, lt)) (omega (arith, n)) (λ j f. o (suc j) f) (λ j f. s (suc j) f) h in let p = o 0 x in let q = s 0 x in omega (arith, r, p, q)

  pub moves_le : (polls : O → O → Type 0) (P : Type 0) (a b : List (ScanFile O S)) → EachMoves state polls source P a b → files_turns state source b ≤ files_turns state source a
  moves_le polls P a b m = turns_le a b m.len (λ k f. (m.at k f).opens.moves.turns) (λ k f. (m.at k f).source_moves.turns)

  pub opener_lt : (polls : O → O → Type 0) (P : Type 0) (k : ℕ) (a b : List (ScanFile O S)) → k < length a → EachMoves state polls source P a b → ((f : ScanFile O S) → (state (get_or b k f).opener).turns < (state (get_or a k f).opener).turns) → files_turns state source b < files_turns state source a
  opener_lt polls P k a b lt m h = turns_lt k a b lt m.len (λ j f. (m.at j f).opens.moves.turns) (λ j f. (m.at j f).source_moves.turns) (λ f. (let p = h f in let q = (m.at k f).source_moves.turns in omega (arith, p, q)))

  same_turns : (May : ℕ → ℕ → Type 0) (a b : List (ScanFile O S)) → SourcesMove source May a b → (k : ℕ) (f : ScanFile O S) → (state (get_or b k f).opener).turns ≤ (state (get_or a k f).opener).turns
  same_turns May a b m k f = let e : (state (get_or b k f).opener).turns ≡ (state (get_or a k f).opener).turns = ap (λ (o : O). (state o).turns) (m.opener k f) in omega (arith, e)

  pub sources_le : (May : ℕ → ℕ → Type 0) (a b : List (ScanFile O S)) → SourcesMove source May a b → files_turns state source b ≤ files_turns state source a
  sources_le May a b m = turns_le a b m.len (same_turns May a b m) (λ k f. (m.moves k f).turns)

  pub source_lt : (May : ℕ → ℕ → Type 0) (k : ℕ) (a b : List (ScanFile O S)) → k < length a → SourcesMove source May a b → ((f : ScanFile O S) → (source (get_or b k f).source).turns < (source (get_or a k f).source).turns) → files_turns state source b < files_turns state source a
  source_lt May k a b lt m h = turns_lt k a b lt m.len (same_turns May a b m) (λ j f. (m.moves j f).turns) (λ f. (let p = h f in let q = same_turns May a b m k f in omega (arith, p, q)))

-- a run that waits for something waits for an id
some_waits : (inbox : Arrivals) (ids : List ℕ) → is_nil (filter (lacks inbox) ids) ≡ false → (id : ℕ) × (is_among ids id ≡ true) × (lacks inbox id ≡ true)
some_waits inbox [] h = absurd cc
some_waits inbox (x ∷ ids) h = go (λ k. some_waits inbox ids k) (lacks inbox x) refl
  where
    go : (is_nil (filter (lacks inbox) ids) ≡ false → (id : ℕ) × (is_among ids id ≡ true) × (lacks inbox id ≡ true)) → (b : Bool) → lacks inbox x ≡ b → (id : ℕ) × (is_among (x ∷ ids) id ≡ true) × (lacks inbox id ≡ true)
    go ih true e = (x, among_head x ids, e)
    go ih false e = let r = ih (rw e at h) in (r.0, among_later x r.0 ids r.1, r.2)

module _ {W R : Type 0} where
  pub waits_some : (x : Stage W R) → is_reading x ≡ true → is_fresh x ≡ false → (id : ℕ) × (stage_waits x id ≡ true)
  waits_some stage.Empty r f = absurd cc
  waits_some (stage.Reads r) e f = let w = some_waits r.inbox r.wanted f in (w.0, rw (w.1, w.2) refl)
  waits_some (stage.Read rows) r f = absurd cc
  waits_some (stage.Halted r h) e f = absurd cc

module _ {O S W I R : Type 0} (source : S → SourceState) (split : W → SplitState I) where
  -- the split whose turn it is, after wants and polls
  pub served : (May : ℕ → ℕ → Type 0) (place k : ℕ) (a b c : List (ScanFile O S)) (desks : List Waiters) (s0 s1 s2 : List (Slot W R)) → SourcesMove source May a b → EachAdvances split s0 s1
      → EachAdvances split s1 s2 → EachLinked desks s1 → k < length desks → (slot_at s1 place).file ≡ k → is_reading (slot_at s0 place).stage ≡ true → is_fresh (slot_at s0 place).stage ≡ false →
      BringsFileNearer source split k b c desks s1 s2 → ServesFront source split place a c s0 s2
  served May place k a b c desks s0 s1 s2 m p q l lt file reads off near = go (p.at place).nears
    where
      go : (slot_at s1 place ≡ slot_at s0 place) ⊎ IsNearer split (slot_at s0 place) (slot_at s1 place) → ServesFront source split place a c s0 s2
      go (inr n) = inl (nearer_then split (slot_at s0 place) (slot_at s1 place) (slot_at s2 place) n (q.at place))
      go (inl e) =
          let w = waits_some (slot_at s0 place).stage reads off in
          let v : stage_waits (slot_at s1 place).stage w.0 ≡ true = ap (λ (s : Slot W R). stage_waits s.stage w.0) e ∙ w.1 in
          ends w.0 v ((l k lt).live w.0 place file v)
        where
          ends : (id : ℕ) → stage_waits (slot_at s1 place).stage id ≡ true → waits (desk_at desks k) id place ≡ true → ServesFront source split place a c s0 s2
          ends id v u = pick (λ f. near f id place u v)
            where
              file0 : (slot_at s0 place).file ≡ k
              file0 = sym (ap (λ (s : Slot W R). s.file) e) ∙ file

              pick : ((f : ScanFile O S) → ((source (get_or c k f).source).turns < (source (get_or b k f).source).turns) ⊎ IsNearer split (slot_at s1 place) (slot_at s2 place)) → ServesFront source split place a c s0 s2
              pick h = by (le_or_lt (Rattle.scan_drive.specs.Measures.stage_steps split (slot_at s1 place).stage) (Rattle.scan_drive.specs.Measures.stage_steps split (slot_at s2 place).stage))
                where
                  by : (Rattle.scan_drive.specs.Measures.stage_steps split (slot_at s1 place).stage ≤ Rattle.scan_drive.specs.Measures.stage_steps split (slot_at s2 place).stage) ⊎ IsNearer split (slot_at s1 place) (slot_at s2 place) → ServesFront source split place a c s0 s2
                  by (inr n) = inl (subst (λ (s : Slot W R). IsNearer split s (slot_at s2 place)) e n)
                  by (inl le) = inr (λ f. subst (λ j. (source (get_or c j f).source).turns < (source (get_or a j f).source).turns) (sym file0) (less f (h f)))
                    where
                      less : (f : ScanFile O S) → ((source (get_or c k f).source).turns < (source (get_or b k f).source).turns) ⊎ IsNearer split (slot_at s1 place) (slot_at s2 place) → (source (get_or c k f).source).turns < (source (get_or a k f).source).turns
                      less f (inl lt) = let t = (m.moves k f).turns in omega (arith, lt, t)
                      less f (inr n) = absurd (omega (arith, le, n))

module _ {O S W I R F : Type 0} (state : O → OpenerState I) (polls : O → O → Type 0) (source : S → SourceState) (split : W → SplitState I) where
  -- openers were polled, and splits became active
  pub brought : (workers room last : ℕ) (a b : List (ScanFile O S)) (d e : Drive W R F) (mid : List (Phase W F)) → 0 < room → EachMoves state polls source (Unit {0}) a b → mid ≡ d.phases.items
      → length d.phases.items ≡ length a → AllWait state d.first last a b mid → (d.active.turns.items ≡ [] → d.first < length a → d.first < last) →
      SeatsOn split d.first e.first d.active e.active mid e.phases.items → IsStuck room e.first e.tally e.phases.items e.active.turns.items →
      (steps_left state source split b e < steps_left state source split a d) ⊎ ((steps_left state source split b e ≤ steps_left state source split a d) × (e.active.turns.items ≡ [] → IsEnd e.first e.tally e.phases.items))
  brought workers room last a b d e mid pos m same lens waits window seats stuck = go seats.nears
    where
      le : files_turns state source b ≤ files_turns state source a
      le = moves_le state source polls (Unit {0}) a b m

      Goal : Type 0
      Goal = (steps_left state source split b e < steps_left state source split a d) ⊎ ((steps_left state source split b e ≤ steps_left state source split a d) × (e.active.turns.items ≡ [] → IsEnd e.first e.tally e.phases.items))

      before : seats_steps split d.first d.active mid ≡ seats_steps split d.first d.active d.phases.items
      before = ap (λ ps. seats_steps split d.first d.active ps) same

      stays : e.first ≡ d.first → e.phases.items ≡ mid → e.active.slots.items ≡ d.active.slots.items → seats_steps split e.first e.active e.phases.items ≡ seats_steps split d.first d.active mid
      stays x y z = λ i. slots_steps split (z i) + phases_steps split (y i) + (length (y i) - x i)

      go : ((e.first ≡ d.first) × (e.phases.items ≡ mid) × SameTurns d.active e.active) ⊎ (seats_steps split e.first e.active e.phases.items < seats_steps split d.first d.active mid) → Goal
      go (inr l) = inl (omega (arith, le, before, l))
      go (inl x) = turns e.active.turns.items refl
        where
          equal : seats_steps split e.first e.active e.phases.items ≡ seats_steps split d.first d.active mid
          equal = stays x.0 x.1 x.2.0

          most : steps_left state source split b e ≤ steps_left state source split a d
          most = omega (arith, le, before, equal)

          end : IsEnd e.first e.tally e.phases.items → Goal
          end h = inr (most, λ n. h)

          turns : (ts : List ℕ) → e.active.turns.items ≡ ts → Goal
          turns (t ∷ ts) is = inr (most, λ n. absurd (no (sym is ∙ n)))
            where
              no : t ∷ ts ≡ [] → ⊥
              no f = let g = ap length f in omega (arith, g)
          turns [] is = stuck_by stuck
            where
              shut : (p : Phase W F) → phase_at e.phases.items e.first ≡ p → IsShut p → (length e.phases.items ≤ e.first) ⊎ (e.first < length e.phases.items) → Goal
              shut p at h (inl past) = end (inl past)
              shut phase.Unopened at h (inr lt) =
                  let n : length e.phases.items ≡ length a = ap length x.1 ∙ ap length same ∙ lens in
                  let f0 : d.first < length a = (let z = x.0 in omega (arith, z, lt, n)) in
                  let to = window (sym x.2.1 ∙ is) f0 in
                  let un : phase_at mid d.first ≡ phase.Unopened = sym (ap (λ ps. phase_at ps d.first) x.1) ∙ ap (phase_at e.phases.items) (sym x.0) ∙ at in
                  let fell = opener_lt state source polls (Unit {0}) d.first a b f0 m (waits d.first (omega arith) to un) in
                  inl (omega (arith, fell, before, equal))
              shut (phase.Queued ws rows) at h (inr lt) = absurd h
              shut (phase.Held why) at h (inr lt) = end (inr (inl (why, at)))

              stuck_by : IsStuck room e.first e.tally e.phases.items e.active.turns.items → Goal
              stuck_by (inl past) = end (inl past)
              stuck_by (inr (inl (inl full))) = let z : length e.active.turns.items ≡ 0 = ap length is in absurd (omega (arith, pos, full, z))
              stuck_by (inr (inl (inr some))) = let z : length e.active.turns.items ≡ 0 = ap length is in absurd (omega (arith, some, z))
              stuck_by (inr (inr (inl h))) = shut (phase_at e.phases.items e.first) refl h (le_or_lt (length e.phases.items) e.first)
              stuck_by (inr (inr (inr h))) = end (inr (inr h))

-- a budget that is left as it was
pub budget_kept : (b c : Bool) (l m : Option ℕ) (x y : Option BudgetData) → c ≡ b → m ≡ l → y ≡ x → IsBudget b l x → IsBudget c m y
budget_kept b c l m x y o e u h = subst (λ f. IsBudget f m y) (sym o) (subst (λ n. IsBudget b n y) (sym e) (subst (IsBudget b l) (sym u) h))

module _ {W I R F : Type 0} (split : W → SplitState I) where
  pub stands_new : (n : ℕ) (d e : Drive W R F) (mid : List (Phase W F)) → Stands n d → length mid ≡ length d.phases.items → length e.phases.items ≡ length mid
      → (e.first ≤ length e.phases.items) × SpentBelow e.phases.items e.first → Rattle.scan_drive.specs.Actives.Seated e.active
      →
      SeatsOn split d.first e.first d.active e.active mid e.phases.items → e.left ≡ d.left → e.ordered ≡ d.ordered → e.budget ≡ d.budget → Stands n e
  stands_new n d e mid s a b below seated seats left ordered budget =
      let m : length mid ≡ n = a ∙ s.lens in
      let l : length e.phases.items ≡ n = b ∙ m in
      record {
        lens = l;
        first = (let f = below.0 in omega (arith, f, l));
        below = below.1;
        ready = record {
          seated = seated;
          filled = seats.filled s.ready.filled;
          within = within_seated n d.active.slots.items e.active.slots.items (λ q. subst (λ k. IsSeated k (slot_at d.active.slots.items q) (slot_at e.active.slots.items q)) m (seats.at q)) s.ready.within;
        };
        room = subst Rattle.scan_drive.specs.Chunks.HasRoom (sym left) s.room;
        budget = budget_kept d.ordered e.ordered d.left e.left d.budget e.budget ordered left budget s.budget;
      }

module _ {W I R F : Type 0} (split : W → SplitState I) (comes : W → Arrivals → Store → Event → Type 0) (items : R → List I) where
  pub sound_new : (tale : List (Told I)) (d e : Drive W R F) (mid : List (Phase W F)) → length mid ≡ length d.phases.items → length tale ≡ length mid → PhasesOk split comes tale mid → KeepsRest split comes tale d.phases.items mid → e.chunks ≡ d.chunks → e.ordered ≡ d.ordered →
      groups_left split comes items tale e.active ++ rest split comes tale e.phases.items ≡ groups_left split comes items tale d.active ++ rest split comes tale mid →
      (PhasesOk split comes tale mid → AllOk split comes items tale d.active → PhasesOk split comes tale e.phases.items × AllOk split comes items tale e.active) →
      (PhasesOk split comes tale mid → AllOk split comes items tale d.active → IsTally tale d.tally → IsTally tale e.tally) → Sound split comes items tale d → Sound split comes items tale e
  sound_new tale d e mid n m phases left chunks ordered moved ok tally s = record {
    phases = (ok phases s.ok).0;
    ok = (ok phases s.ok).1;
    tally = tally phases s.ok s.tally;
    sums = λ all. same_flag d.ordered e.ordered (given items e.chunks.items ++ (groups_left split comes items tale e.active ++ rest split comes tale e.phases.items))
        (given items d.chunks.items ++ (groups_left split comes items tale d.active ++ rest split comes tale d.phases.items)) (answer tale) ordered
        (ap (λ cs. given items cs.items ++ (groups_left split comes items tale e.active ++ rest split comes tale e.phases.items)) chunks
        ∙ ap (λ gs. given items d.chunks.items ++ gs) (moved ∙ ap (λ gs. groups_left split comes items tale d.active ++ gs) (rest_stays split comes tale d.phases.items mid n all left)))
        (s.sums all);
  }

pub why_after : {O S W F I : Type 0} (state : O → OpenerState I) (polls : O → O → Type 0) (refuses : O → O → F → Type 0) (files now : List (ScanFile O S)) (old mid new : List (Phase W F))
    → HoldsWhy state polls refuses files now old mid → ((k : ℕ) (why : F) → phase_at new k ≡ phase.Held why → phase_at mid k ≡ phase.Held why) → HoldsWhy state polls refuses files now old new
why_after state polls refuses files now old mid new h b k why e = h k why (b k why e)
