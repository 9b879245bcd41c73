-- How much is left to be done, at most.
use Rattle.std.specs.Prelude.{◌+◌, ◌*◌, ◌&&◌, ◌++◌, ℕ, Bool, not, List, [], ◌∷◌, length, if◌then◌else◌}
use Rattle.scan_values.specs.Selections.{is_among}
use Rattle.scan_plans.specs.Futures.{FutureData, future_may}
use Rattle.scan_streams.specs.Runs.{RunData, new_run, lacks, is_ready}
use Rattle.scan_streams.specs.declared.reading.Reading.{Reading}
use Rattle.scan_streams.specs.declared.slot.Slot.{Slot}
use Rattle.scan_streams.specs.declared.slot.Slot.TheVariants as slot

-- how many ids of a list pass a test, each id counted once
abbrev pub distinct : (ℕ → Bool) → List ℕ → ℕ
distinct test [] = 0
distinct test (id ∷ ids) = (if test id && not (is_among ids id) then 1 else 0) + distinct test ids

-- how many ids a run may want or wants of which nothing has arrived
abbrev pub open_ids : RunData → ℕ
open_ids r = distinct (lacks r.inbox) (future_may r.future ++ r.wanted)

-- a run that waits is polled again once an id has arrived, and one that waits for none at once
abbrev pub run_steps : RunData → ℕ
run_steps r = 3 * open_ids r + (if is_ready r then 2 else 1)

abbrev pub slot_steps : Slot → ℕ
slot_steps slot.Empty = 0
slot_steps (slot.Run r) = run_steps r
slot_steps (slot.Done a) = 1

abbrev pub slots_steps : List Slot → ℕ
slots_steps [] = 0
slots_steps (s ∷ ss) = slot_steps s + slots_steps ss

abbrev pub queue_steps : List FutureData → ℕ
queue_steps [] = 0
queue_steps (f ∷ fs) = (run_steps (new_run f) + 2) + queue_steps fs

-- how many steps are left at most, while the source puts nothing off
abbrev pub steps_left : Reading → ℕ
steps_left r = (slots_steps r.slots.items + queue_steps r.queue) + (length r.news.items + length r.done.items)
