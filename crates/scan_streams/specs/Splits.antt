-- The splits that are still to be given, and what reading on does to them.
use Rattle.std.specs.Prelude.{◌≡◌, ◌≤◌, ◌+◌, ◌⊎◌, ℕ, Bool, true, false, cond, List, [], ◌∷◌, ◌++◌, length, map, Option, Some}
use Rattle.std.specs.List.{flat_map, list_any}
use Rattle.std.specs.Prelude.{IsPermutation}
use Rattle.std.specs.FinMap as finite
use Rattle.scan_values.specs.Arrays.{ArrayData}
use Rattle.scan_values.specs.DataType.{DataType}
use Rattle.scan_values.specs.Marked.{Marked}
use Rattle.scan_values.specs.Selections.{is_among}
use Rattle.scan_values.specs.Val.{marked}
use Rattle.scan_segments.specs.Source.{Store}
use Rattle.scan_splits.specs.Arrivals.{Arrivals}
use Rattle.scan_plans.specs.Came.{Came, came, Holds}
use Rattle.scan_plans.specs.Futures.{FutureData, future_dtype, future_may, future_wanted, future_spoiled, future_damage, future_overflow, items_of, SameFuture}
use Rattle.scan_plans.specs.Wants.{names_id}

-- a split that is to be read, and what has arrived for it; or the array of one that is read
pub data SplitData : Type 0 where
  unread : FutureData → Arrivals → SplitData
  read : ArrayData → SplitData

-- a split for which nothing has arrived
abbrev pub new_split : FutureData → SplitData
new_split f = unread f finite.empty

-- its values
abbrev pub split_items : Store → SplitData → List Marked
split_items store (unread f inbox) = items_of f store
split_items store (read a) = map marked a.items

-- an evaluation overflows at a row that it gives
abbrev pub split_overflow : Store → SplitData → Bool
split_overflow store (unread f inbox) = future_overflow f store
split_overflow store (read a) = false

-- a filter of it is damaged at a row that is true when it runs
abbrev pub split_damage : Store → SplitData → Bool
split_damage store (unread f inbox) = future_damage f store
split_damage store (read a) = false

-- its values, none where it is damaged
abbrev pub clean_items : Store → SplitData → List Marked
clean_items store s = cond (split_damage store s) [] (split_items store s)

-- the ids that it may still want
abbrev pub split_may : SplitData → List ℕ
split_may (unread f inbox) = future_may f
split_may (read a) = []

abbrev pub split_dtype : SplitData → DataType
split_dtype (unread f inbox) = future_dtype f
split_dtype (read a) = a.dtype

-- it gives at most so many rows
abbrev pub split_reach : SplitData → ℕ
split_reach (unread f inbox) = length (f.mask).known
split_reach (read a) = length a.items

-- what has arrived for it is what the store has
abbrev pub SplitHolds : Store → SplitData → Type 0
SplitHolds store (unread f inbox) = Holds store (came inbox)
SplitHolds store (read a) = Unit {0}

-- what has arrived the second has too
abbrev pub Extends : Came → Came → Type 0
Extends here more = (id : ℕ) (bytes : Option (List ℕ)) → here id ≡ Some bytes → more id ≡ Some bytes

-- a test holds of a future that means the same, once no less has arrived, all of it as the store has it
pub record ComesTo (test : FutureData → Came → Bool) (store : Store) (f : FutureData) (here : Came) : Type 0 where
  pub at : FutureData
  pub then : Came
  pub holds : Holds store then
  pub more : Extends here then
  pub same : SameFuture then at f
  pub meets : test at then ≡ true

-- the same of a split that is to be read
abbrev pub SplitComesTo : (FutureData → Came → Bool) → Store → SplitData → Type 0
SplitComesTo test store (unread f inbox) = ComesTo test store f (came inbox)
SplitComesTo test store (read a) = ⊥

-- values as the one list of a list of lists, unless there are none
abbrev pub one_part : List Marked → List (List Marked)
one_part [] = []
one_part (x ∷ xs) = (x ∷ xs) ∷ []

-- all of several splits: the values of each that has any, the same of those without damage, whether one overflows or is
-- damaged, the ids that they may want, how many rows they give at most
abbrev pub parts_left : Store → List SplitData → List (List Marked)
parts_left store ss = flat_map (λ (s : SplitData). one_part (split_items store s)) ss

abbrev pub clean_left : Store → List SplitData → List (List Marked)
clean_left store ss = flat_map (λ (s : SplitData). one_part (clean_items store s)) ss

abbrev pub overflow_left : Store → List SplitData → Bool
overflow_left store ss = list_any (split_overflow store) ss

abbrev pub damage_left : Store → List SplitData → Bool
damage_left store ss = list_any (split_damage store) ss

abbrev pub may_want : List SplitData → ℕ → Bool
may_want ss id = list_any (λ s. is_among (split_may s) id) ss

abbrev pub reach : List SplitData → ℕ
reach [] = 0
reach (s ∷ ss) = split_reach s + reach ss

-- what has arrived for each is what the store has
abbrev pub AllHold : Store → List SplitData → Type 0
AllHold store [] = Unit {0}
AllHold store (s ∷ ss) = SplitHolds store s × AllHold store ss

-- each gives arrays of this dtype
abbrev pub AllOf : DataType → List SplitData → Type 0
AllOf d [] = Unit {0}
AllOf d (s ∷ ss) = (split_dtype s ≡ d) × AllOf d ss

-- a test comes to hold of one of them
abbrev pub SomeComesTo : (FutureData → Came → Bool) → Store → List SplitData → Type 0
SomeComesTo test store [] = ⊥
SomeComesTo test store (s ∷ ss) = SplitComesTo test store s ⊎ SomeComesTo test store ss

-- the segment of this id is wanted, or what arrived of it is no good
abbrev pub wants_id : ℕ → FutureData → Came → Bool
wants_id id f here = names_id id (future_wanted f here)

abbrev pub spoils_id : ℕ → FutureData → Came → Bool
spoils_id id f here = future_spoiled f here id

-- in order the two lists are the same, and without an order the second is the first in some order
abbrev pub Alike : Bool → List (List Marked) → List (List Marked) → Type 0
Alike true xs ys = xs ≡ ys
Alike false xs ys = IsPermutation xs ys

-- Reading on gives all values of one split, which is not damaged, or none: they and those of each split that is left are
-- those of each before.
pub record Goes (ordered : Bool) (holds : Option Store) (given : List Marked) (old new : List SplitData) : Type 0 where
  pub stay : (store : Store) → holds ≡ Some store → AllHold store old → AllHold store new
  pub items : (store : Store) → holds ≡ Some store → AllHold store old → Alike ordered (parts_left store old) (one_part given ++ parts_left store new)
  pub clean : (store : Store) → holds ≡ Some store → AllHold store old → Alike ordered (clean_left store old) (one_part given ++ clean_left store new)
  pub overflow : (store : Store) → holds ≡ Some store → AllHold store old → overflow_left store new ≡ overflow_left store old
  pub damage : (store : Store) → holds ≡ Some store → AllHold store old → damage_left store new ≡ damage_left store old
  pub comes : (test : FutureData → Came → Bool) (store : Store) → holds ≡ Some store → AllHold store old
      → SomeComesTo test store new → SomeComesTo test store old
  pub may : (id : ℕ) → may_want new id ≡ true → may_want old id ≡ true
  pub dtype : (d : DataType) → AllOf d old → AllOf d new
  pub reach : length given + reach new ≤ reach old
