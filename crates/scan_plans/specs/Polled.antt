-- What polls answer.
use Rattle.std.specs.Prelude.{◌≡◌, Bool, true, false, List}
use Rattle.scan_values.specs.Arrays.{ArrayData}
use Rattle.scan_segments.specs.Source.{Store}
use Rattle.scan_splits.specs.declared.poll.Poll.{Poll}
use Rattle.scan_splits.specs.declared.poll.Poll.TheVariants.{Ready, Pending, Corrupt, Overflow, NoMemory}
use Rattle.scan_plans.specs.Came.{Came, Holds}
use Rattle.scan_plans.specs.Futures.{FutureData, AreRows, GivesItems, future_wanted, future_spoiled, future_overflow}
use Rattle.scan_plans.specs.Given.{AreLacking}
use Rattle.scan_plans.specs.MaskLists.{can_run}
use Rattle.scan_plans.specs.Masks.{MaskData, mask_of, mask_damage, mask_overflow, mask_wanted, mask_spoiled}

-- Of an array: the values whatever holds what has arrived; exactly the ids that lack of what is wanted next, where nothing
-- of that which has arrived is bad; a wanted segment that arrived as missing or is not spelled as its leaf has it; or an
-- overflow.
abbrev pub Polls : Came → FutureData → Poll ArrayData → Type 0
Polls here f (Ready a) = GivesItems here f a
Polls here f (Pending ids) = AreLacking (future_wanted f here) here ids
Polls here f (Corrupt id) = future_spoiled f here id ≡ true
Polls here f Overflow = (store : Store) → Holds store here → future_overflow f store ≡ true
Polls here f NoMemory = Unit {0}

-- After an array was given the rows of its values are known.
abbrev pub KnowsRows : Came → FutureData → FutureData → Poll ArrayData → Type 0
KnowsRows here old new (Ready a) = AreRows here old new a
KnowsRows here old new (Pending ids) = Unit {0}
KnowsRows here old new (Corrupt id) = Unit {0}
KnowsRows here old new Overflow = Unit {0}
KnowsRows here old new NoMemory = Unit {0}

-- the same of a mask
abbrev pub PollsMask : Came → MaskData → Poll (List Bool) → Type 0
PollsMask here m (Ready bits) = (store : Store) → Holds store here → (bits ≡ mask_of m store) × (mask_overflow m store ≡ false) × (mask_damage m store ≡ false)
PollsMask here m (Pending ids) = AreLacking (mask_wanted m here) here ids
PollsMask here m (Corrupt id) = mask_spoiled m here id ≡ true
PollsMask here m Overflow = (store : Store) → Holds store here → mask_overflow m store ≡ true
PollsMask here m NoMemory = Unit {0}

-- Where it gave something or waits, each filter of its masks that could run has.
abbrev pub HasRun : {A : Type 0} → Came → List MaskData → Poll A → Type 0
HasRun here new (Ready a) = can_run here new ≡ false
HasRun here new (Pending ids) = can_run here new ≡ false
HasRun here new (Corrupt id) = Unit {0}
HasRun here new Overflow = Unit {0}
HasRun here new NoMemory = Unit {0}
