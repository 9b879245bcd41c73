-- How far files are, and the groups of their rows for which no split is active yet.
use Rattle.std.specs.Prelude.{◌≡◌, ◌<◌, ◌+◌, ◌++◌, ℕ, Bool, true, false, List, [], ◌∷◌, All, IfSome, slice_index_or}
use Rattle.std.specs.List.{flat_map, sum_by}
use Rattle.scan_segments.specs.Source.{Store}
use Rattle.scan_splits.specs.Arrivals.{Arrivals}
use Rattle.scan_drive.specs.Files.{Group, grouped, Told, told_at, over, part_groups, IfTold}
use Rattle.scan_drive.specs.Measures.{work_steps, phase_steps}
use Rattle.scan_drive.specs.Runs.{new_run}
use Rattle.scan_drive.specs.Slots.{RunOk}
use Rattle.scan_drive.specs.Splits.{SplitState, Event}
use Rattle.scan_drive.specs.declared.phase.Phase.{Phase}
use Rattle.scan_drive.specs.declared.phase.Phase.TheVariants as phase
use Rattle.scan_drive.specs.declared.phase.Taken.{Taken}
use Rattle.scan_drive.specs.declared.phase.Taken.TheVariants as taken

-- there is one
abbrev pub is_some_of : {W : Type 0} → List W → Bool
is_some_of [] = false
is_some_of (w ∷ ws) = true

module _ {W F : Type 0} where
  -- a file that is not open yet
  abbrev pub is_unopened : Phase W F → ℕ
  is_unopened phase.Unopened = 1
  is_unopened (phase.Queued ws rows) = 0
  is_unopened (phase.Held f) = 0

  -- how many files are not open yet
  abbrev pub unopened : List (Phase W F) → ℕ
  unopened ps = sum_by is_unopened ps

  -- its splits are known, and none is left for which none is active
  abbrev pub IsSpent : Phase W F → Type 0
  IsSpent phase.Unopened = ⊥
  IsSpent (phase.Queued ws rows) = ws.items ≡ []
  IsSpent (phase.Held f) = ⊥

  -- its splits are not known
  abbrev pub IsShut : Phase W F → Type 0
  IsShut phase.Unopened = Unit {0}
  IsShut (phase.Queued ws rows) = ⊥
  IsShut (phase.Held f) = Unit {0}

  -- its splits are known
  abbrev pub IsQueued : Phase W F → Type 0
  IsQueued phase.Unopened = ⊥
  IsQueued (phase.Queued ws rows) = Unit {0}
  IsQueued (phase.Held f) = ⊥

  -- its splits are known, and one is left for which none is active
  abbrev pub has_left : Phase W F → Bool
  has_left phase.Unopened = false
  has_left (phase.Queued ws rows) = is_some_of ws.items
  has_left (phase.Held f) = false

  -- the phase of a file
  abbrev pub phase_at : List (Phase W F) → ℕ → Phase W F
  phase_at ps k = slice_index_or ps k phase.Unopened

  -- so many files at the front have no split left
  abbrev pub SpentBelow : List (Phase W F) → ℕ → Type 0
  SpentBelow ps n = (k : ℕ) → k < n → IsSpent (phase_at ps k)

module _ {W I : Type 0} (split : W → SplitState I) (comes : W → Arrivals → Store → Event → Type 0) where
  -- the group of a split, over a told store
  abbrev pub work_groups : ℕ → Told I → W → List (Group I)
  work_groups place t w = over t.store (λ store. grouped place ((split w).rows store))

  -- nothing has arrived for a split, which comes to nothing that its file does not
  abbrev pub WorkOk : Told I → W → Type 0
  WorkOk t w = IfTold t (λ p store. RunOk split comes p store (new_run w))

module _ {W I F : Type 0} where
  -- the rows of an open file are those that its opener tells
  abbrev pub RowsOk : Told I → Phase W F → Type 0
  RowsOk t phase.Unopened = Unit {0}
  RowsOk t (phase.Queued ws rows) = IfSome t.part (λ p. rows ≡ p.row_count)
  RowsOk t (phase.Held f) = Unit {0}

  -- so are those of each file
  abbrev pub AllRowsOk : List (Told I) → List (Phase W F) → Type 0
  AllRowsOk tale ps = (k : ℕ) → RowsOk (told_at tale k) (phase_at ps k)

module _ {W I F : Type 0} (split : W → SplitState I) (comes : W → Arrivals → Store → Event → Type 0) where
  -- the groups of a file for which no split is active
  abbrev pub phase_left : ℕ → Told I → Phase W F → List (Group I)
  phase_left place t phase.Unopened = part_groups place t
  phase_left place t (phase.Queued ws rows) = flat_map (work_groups split comes place t) ws.items
  phase_left place t (phase.Held f) = part_groups place t

  -- the same of files, the first of which has this place
  abbrev pub rest_from : ℕ → List (Told I) → List (Phase W F) → List (Group I)
  rest_from place [] ps = []
  rest_from place (t ∷ ts) [] = []
  rest_from place (t ∷ ts) (p ∷ ps) = phase_left place t p ++ rest_from (place + 1) ts ps

  -- the groups of all files for which no split is active
  abbrev pub rest : List (Told I) → List (Phase W F) → List (Group I)
  rest tale ps = rest_from 0 tale ps

  -- such are the splits of a file
  abbrev pub PhaseOk : Told I → Phase W F → Type 0
  PhaseOk t phase.Unopened = Unit {0}
  PhaseOk t (phase.Queued ws rows) = All (WorkOk split comes t) ws.items × IfSome t.part (λ p. rows ≡ p.row_count)
  PhaseOk t (phase.Held f) = Unit {0}

  -- such are the splits of each file
  abbrev pub PhasesOk : List (Told I) → List (Phase W F) → Type 0
  PhasesOk tale ps = (k : ℕ) → PhaseOk (told_at tale k) (phase_at ps k)

  -- the first split of a phase is taken
  pub record TakesSplit (old new : Phase W F) (w : W) : Type 0 where
    pub left : (place : ℕ) (t : Told I) → phase_left place t old ≡ work_groups split comes place t w ++ phase_left place t new
    pub work_ok : (t : Told I) → PhaseOk t old → WorkOk split comes t w
    pub phase_ok : (t : Told I) → PhaseOk t old → PhaseOk t new
    pub queued : IsQueued new
    pub had : has_left old ≡ true
    pub steps : phase_steps split old ≡ work_steps split w + phase_steps split new

  -- the first split is taken, or the phase has none, or its splits are not known
  abbrev pub Takes : Phase W F → Phase W F → Taken W → Type 0
  Takes old new (taken.Split w) = TakesSplit old new w
  Takes old new taken.Spent = IsSpent old × (new ≡ old)
  Takes old new taken.Waits = (new ≡ old) × IsShut old
