-- A split that is being read.
use Rattle.std.specs.Prelude.{◌&&◌, ℕ, Bool, true, false, List, [], ◌∷◌, filter, Option, None, Some, refl}
use Rattle.std.specs.Coded.{Coded, code_by, coded×, coded_list, coded_ℕ}
use Rattle.std.specs.FinMap as map
use Rattle.scan_segments.specs.Source.{Store}
use Rattle.scan_values.specs.Selections.{is_among}
use Rattle.scan_splits.specs.Arrivals.{Arrivals, arrivals_code}
use Rattle.scan_splits.specs.declared.inbox.Arrival.{Arrival}
use Rattle.scan_drive.specs.Splits.{SplitState, Event, lacks, Wants, GivesRows, FindsBad, Overflows}
use Rattle.scan_drive.specs.declared.run.RunPoll.{RunPoll}
use Rattle.scan_drive.specs.declared.run.RunPoll.TheVariants as poll

-- the split, what has arrived for it, and the ids that its last poll wanted
pub record RunData (W : Type 0) : Type 0 where
  pub work : W
  pub inbox : Arrivals
  pub wanted : List ℕ

-- how it is kept
abbrev pub run_code : {W : Type 0} → Coded W → Coded (RunData W)
run_code {W} w = code_by (W × (Arrivals × List ℕ)) (coded× w (coded× arrivals_code (coded_list coded_ℕ)))
    (λ r. (r.work, (r.inbox, r.wanted))) (λ p. record { work = p.0; inbox = p.1.0; wanted = p.1.1 }) (λ _. refl)

-- there is none
abbrev pub is_nil : List ℕ → Bool
is_nil [] = true
is_nil (x ∷ xs) = false

-- the ids that a poll wanted
abbrev pub listed : Option (List ℕ) → List ℕ
listed None = []
listed (Some ids) = ids

module _ {W : Type 0} where
  -- nothing has arrived for it, and it has not been polled
  abbrev pub new_run : W → RunData W
  new_run w = record { work = w; inbox = map.empty; wanted = [] }

  -- it waits for an id: its last poll wanted it, and nothing has arrived of it
  abbrev pub run_waits : RunData W → ℕ → Bool
  run_waits r id = is_among r.wanted id && lacks r.inbox id

  -- it waits for nothing
  abbrev pub is_ready : RunData W → Bool
  is_ready r = is_nil (filter (lacks r.inbox) r.wanted)

  -- something has arrived of an id
  abbrev pub with_arrival : ℕ → Arrival → RunData W → RunData W
  with_arrival id a r = record r { inbox = map.insert r.inbox id a }

module _ {W I R : Type 0} (split : W → SplitState I) (comes : W → Arrivals → Store → Event → Type 0) (items : R → List I) where
  -- the answer of a poll of a run, which then is another one
  abbrev pub PollsRun : RunData W → RunData W → RunPoll R → Type 0
  PollsRun old new (poll.Ready rows) = GivesRows split comes old.inbox old.work (items rows)
  PollsRun old new poll.Waits = Wants split comes old.inbox old.work new.wanted
  PollsRun old new (poll.Corrupt id) = FindsBad split comes old.inbox old.work id
  PollsRun old new poll.Overflow = Overflows split comes old.inbox old.work
  PollsRun old new poll.NoMemory = Unit {0}
