-- A split that is being read.
use Rattle.std.specs.Prelude.{◌≡◌, ◌&&◌, ℕ, Bool, true, false, List, [], ◌∷◌, filter, is_none, Option, None, Some, refl}
use Rattle.std.specs.Coded.{Coded, code_by, coded×, coded_list, coded_ℕ}
use Rattle.std.specs.FinMap as map
use Rattle.scan_segments.specs.Source.{Store}
use Rattle.scan_values.specs.Selections.{is_among}
use Rattle.scan_splits.specs.Arrivals.{Arrivals, arrivals_code}
use Rattle.scan_splits.specs.declared.inbox.Arrival.{Arrival}
use Rattle.scan_plans.specs.Came.{came, Holds}
use Rattle.scan_plans.specs.Futures.{FutureData, future_code, future_wanted, future_spoiled, future_overflow, GivesItems}
use Rattle.scan_plans.specs.Given.{AreLacking}
use Rattle.scan_streams.specs.declared.run.RunPoll.{RunPoll}
use Rattle.scan_streams.specs.declared.run.RunPoll.TheVariants.{Ready, Waits, Corrupt, Overflow, NoMemory}

-- its array to come, what has arrived for it, and the ids that its last poll wanted
pub record RunData : Type 0 where
  pub future : FutureData
  pub inbox : Arrivals
  pub wanted : List ℕ

abbrev pub run_code : Coded RunData
run_code = code_by (FutureData × (Arrivals × List ℕ)) (coded× future_code (coded× arrivals_code (coded_list coded_ℕ)))
    (λ r. (r.future, (r.inbox, r.wanted))) (λ p. record { future = p.0; inbox = p.1.0; wanted = p.1.1 }) (λ _. refl)

abbrev pub is_nil : List ℕ → Bool
is_nil [] = true
is_nil (x ∷ xs) = false

-- nothing has arrived for it, and it has not been polled
abbrev pub new_run : FutureData → RunData
new_run f = record { future = f; inbox = map.empty; wanted = [] }

-- nothing has arrived of an id
abbrev pub lacks : Arrivals → ℕ → Bool
lacks inbox id = is_none (map.get inbox id)

-- it waits for an id: its last poll wanted it, and nothing has arrived of it
abbrev pub run_waits : RunData → ℕ → Bool
run_waits r id = is_among r.wanted id && lacks r.inbox id

-- it waits for nothing
abbrev pub is_ready : RunData → Bool
is_ready r = is_nil (filter (lacks r.inbox) r.wanted)

-- something has arrived of an id
abbrev pub with_arrival : ℕ → Arrival → RunData → RunData
with_arrival id a r = record r { inbox = map.insert r.inbox id a }

-- the ids that a poll wanted
abbrev pub listed : Option (List ℕ) → List ℕ
listed None = []
listed (Some ids) = ids

-- the answer of a poll of a run, which then is another one
abbrev pub PollsRun : RunData → RunData → RunPoll → Type 0
PollsRun old new (Ready a) = GivesItems (came old.inbox) old.future a
PollsRun old new Waits = AreLacking (future_wanted old.future (came old.inbox)) (came old.inbox) new.wanted
PollsRun old new (Corrupt id) = future_spoiled old.future (came old.inbox) id ≡ true
PollsRun old new Overflow = (store : Store) → Holds store (came old.inbox) → future_overflow old.future store ≡ true
PollsRun old new NoMemory = Unit {0}
