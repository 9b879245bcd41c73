-- What a poll of a split answers.
use Rattle.std.specs.Prelude.{◌≡◌, ◌<◌, false, [], length, true, Some, None, Result, Ok, Err}
use Rattle.scan_values.specs.Arrays.{ArrayData}
use Rattle.scan_segments.specs.Source.{Store}
use Rattle.scan_plans.specs.Came.{Came, Holds}
use Rattle.scan_plans.specs.Futures.{FutureData, GivesItems, items_of, future_wanted, future_spoiled, future_damage, future_overflow}
use Rattle.scan_plans.specs.Given.{AreLacking}
use Rattle.scan_core.specs.declared.split.SplitPoll.{SplitPoll}
use Rattle.scan_core.specs.declared.split.SplitPoll.TheVariants.{Ready, Pending, Corrupt, Map, Overflow, NoMemory}

-- no row is left, whatever holds what has arrived, nothing overflows, and no filter is damaged
pub record LeavesNone (here : Came) (f : FutureData) : Type 0 where
  pub items : (store : Store) → Holds store here → items_of f store ≡ []
  pub within : (store : Store) → Holds store here → future_overflow f store ≡ false
  pub clean : (store : Store) → Holds store here → future_damage f store ≡ false

-- the array of the rows that are left, at least one, of which a step answers this
pub record MapsItems {R : Type 0} (answers : ArrayData → R → Type 0) (here : Came) (f : FutureData) (a : ArrayData) (r : R) : Type 0 where
  pub gives : GivesItems here f a
  pub some : 0 < length a.items
  pub answer : answers a r

-- What a step answers of the array, once and only where a row is left; exactly the ids that lack of what is wanted next;
-- a wanted segment that is no good; or an overflow.
abbrev pub PollsSplit : {A F : Type 0} → (ArrayData → Result A F → Type 0) → Came → FutureData → SplitPoll A F → Type 0
PollsSplit answers here f (Ready None) = LeavesNone here f
PollsSplit answers here f (Ready (Some x)) = (a : ArrayData) × MapsItems answers here f a (Ok x)
PollsSplit answers here f (Map fault) = (a : ArrayData) × MapsItems answers here f a (Err fault)
PollsSplit answers here f (Pending ids) = AreLacking (future_wanted f here) here ids
PollsSplit answers here f (Corrupt id) = future_spoiled f here id ≡ true
PollsSplit answers here f Overflow = (store : Store) → Holds store here → future_overflow f store ≡ true
PollsSplit answers here f NoMemory = Unit {0}
