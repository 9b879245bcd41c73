-- Rows that workers claim of a limit, each for the splits that it polls.
use Rattle.std.specs.Prelude.{◌≡◌, ◌≤◌, ◌+◌, ◌⊎◌, ℕ, false, List, [], ◌∷◌, Option, None, Some, length, take}
use Rattle.scan_limit.specs.Seats.{Budget, SeatState, seat_with, after_claim, after_join}
use Rattle.scan_segments.specs.Source.{Store}
use Rattle.scan_splits.specs.Arrivals.{Arrivals}
use Rattle.scan_drive.specs.Budgets.{BudgetData}
use Rattle.scan_drive.specs.Files.{Part}
use Rattle.scan_drive.specs.Looks.{Looks}
use Rattle.scan_drive.specs.Slots.{SlotKeeps, IsTrimmed, is_read, stage_read}
use Rattle.scan_drive.specs.Splits.{SplitState, Event}
use Rattle.scan_drive.specs.declared.slot.Slot.{Slot}
use Rattle.scan_drive.specs.declared.slot.Stage.TheVariants as stage
use Rattle.scan_drive.specs.declared.workers.Job.{Job}

-- a seat once another was joined into it, where there is one
abbrev pub joined : Option SeatState → SeatState → SeatState
joined None s = s
joined (Some t) s = after_join s t

module _ {W R : Type 0} where
  -- the split with a seat of so much room
  abbrev pub seated : Budget → ℕ → Job W R → Job W R
  seated b room j = record j { seat = Some (seat_with b room) }

  -- the split without a seat
  abbrev pub unseated : Job W R → Job W R
  unseated j = record j { seat = None }

  -- where there is a limit, the split has a seat of it
  abbrev pub IsSeated : Option Budget → Job W R → Type 0
  IsSeated None j = Unit {0}
  IsSeated (Some b) j = (s : SeatState) × (j.seat ≡ Some s) × (s.budget ≡ b)

  -- a seat once those of all these splits were joined into it
  abbrev pub all_joined : List (Job W R) → SeatState → SeatState
  all_joined [] s = s
  all_joined (j ∷ jobs) s = all_joined jobs (joined j.seat s)

module _ {I R : Type 0} (items : R → List I) where
  -- rows are claimed through a seat, and so many of them are kept as are granted
  pub record ClaimsRows (old new : SeatState) (rows kept : R) : Type 0 where
    pub granted : ℕ
    pub within : granted ≤ length (items rows)
    pub fits : length (items rows) ≤ old.room
    pub seat_is : new ≡ after_claim (length (items rows)) granted old
    pub taken : items kept ≡ take granted (items rows)
    pub whole : granted ≡ length (items rows) → kept ≡ rows

module _ {W I R : Type 0} (items : R → List I) where
  -- the rows of a split that is read are claimed, and so many of them are kept as are granted
  pub record ClaimsSlot (seat seat' : SeatState) (old new : Slot W R) : Type 0 where
    pub rows : R
    pub kept : R
    pub was : old.stage ≡ stage.Read rows
    pub now : new ≡ record { file = old.file; stage = stage.Read kept }
    pub claims : ClaimsRows items seat seat' rows kept

  -- so it is, or the split is not read
  abbrev pub MayClaim : SeatState → SeatState → Slot W R → Slot W R → Type 0
  MayClaim seat seat' old new = ((is_read old.stage ≡ false) × (new ≡ old) × (seat' ≡ seat)) ⊎ ClaimsSlot seat seat' old new

  -- what a split that was polled comes to: where there is a limit its rows are claimed, unless memory is short
  abbrev pub JobClaims : Option Budget → Slot W R → Job W R → Job W R → Type 0
  JobClaims None mid old new = new.slot ≡ mid
  JobClaims (Some b) mid old new = new.short ≡ false
      → (s : SeatState) × (s' : SeatState) × (s.budget ≡ b) × (old.seat ≡ Some s) × (new.seat ≡ Some s')
      × MayClaim s s' mid new.slot

module _ {W I R : Type 0} (split : W → SplitState I) (comes : W → Arrivals → Store → Event → Type 0) (items : R → List I) where
  -- a split was polled where it is, and where there is a limit its rows were claimed
  pub record JobWorked (limit : Option Budget) (old new : Job W R) : Type 0 where
    pub place_is : new.place ≡ old.place
    pub mid : Slot W R
    pub keeps : (p : Part I) (store : Store) → SlotKeeps split comes items p store old.slot mid
    pub looks : Looks split comes items old.slot.stage mid.stage new.found
    pub claims : JobClaims items limit mid old new

  -- a split was polled, so many of its rows were claimed, and so many of them are kept
  pub record JobGranted (claimed granted : ℕ) (old new : Job W R) : Type 0 where
    pub place_is : new.place ≡ old.place
    pub mid : Slot W R
    pub keeps : (p : Part I) (store : Store) → SlotKeeps split comes items p store old.slot mid
    pub looks : Looks split comes items old.slot.stage mid.stage new.found
    pub trimmed : IsTrimmed items mid new.slot
    pub kept : stage_read items new.slot.stage ≡ granted
    pub within : granted ≤ claimed
    pub whole : granted ≡ claimed → new.slot ≡ mid

  -- what of the rows of the first of some splits, and of all others, is claimed and granted
  pub record FirstGranted (Rest : ℕ → ℕ → Type 0) (claimed granted : ℕ) (old new : Job W R) : Type 0 where
    pub first_claimed : ℕ
    pub first_granted : ℕ
    pub rest_claimed : ℕ
    pub rest_granted : ℕ
    pub first : JobGranted first_claimed first_granted old new
    pub rest : Rest rest_claimed rest_granted
    pub claims : claimed ≡ first_claimed + rest_claimed
    pub grants : granted ≡ first_granted + rest_granted

  -- splits were polled, so many of their rows were claimed, and so many of them are kept
  abbrev pub EachGranted : List (Job W R) → List (Job W R) → ℕ → ℕ → Type 0
  EachGranted [] [] claimed granted = (claimed ≡ 0) × (granted ≡ 0)
  EachGranted [] (k ∷ ks) claimed granted = ⊥
  EachGranted (j ∷ js) [] claimed granted = ⊥
  EachGranted (j ∷ js) (k ∷ ks) claimed granted = FirstGranted (EachGranted js ks) claimed granted j k

  -- a phase in which rows of a budget are claimed
  pub record PhaseGrants (old new : BudgetData) (jobs jobs' : List (Job W R)) : Type 0 where
    pub limit : new.limit ≡ old.limit
    pub claimed : ℕ
    pub granted : ℕ
    pub each : EachGranted jobs jobs' claimed granted
    pub claims : new.claimed ≡ old.claimed + claimed
    pub grants : new.granted ≡ old.granted + granted
