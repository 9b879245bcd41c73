-- What the projection of a split is to a drive.
use Rattle.std.specs.Prelude.{◌≡◌, ◌||◌, Bool, true, map, zip}
use Rattle.scan_segments.specs.Source.{Store}
use Rattle.scan_splits.specs.Arrivals.{Arrivals}
use Rattle.scan_plans.specs.Came.{Came, came, Extends, Holds}
use Rattle.scan_plans.specs.Futures.{FutureData, future_damage, future_dtype, future_may, future_overflow, future_spoiled, future_wanted, items_of, rows_of}
use Rattle.scan_plans.specs.Wants.{lacks}
use Rattle.scan_drive.specs.Files.{Item}
use Rattle.scan_drive.specs.Splits.{SplitState, Event, wants, spoils}
use Rattle.scan_file.specs.FileRows.{unless_lost}

-- its rows with their values, or a lost one where a filter is damaged or something overflows; whether something does, and the ids that it
-- may want
abbrev pub split_state : FutureData → SplitState Item
split_state f = record {
  rows = λ store. unless_lost (future_damage f store || future_overflow f store) (future_dtype f)
      (zip (rows_of f store) (map (λ m. (future_dtype f, m)) (items_of f store)));
  overflow = future_overflow f;
  may = future_may f;
}

-- a segment lacks for it, or what arrived of one is no good
abbrev pub does : Event → FutureData → Came → Bool
does (wants id) f here = lacks (future_wanted f here) here id
does (spoils id) f here = future_spoiled f here id

-- it comes to that, once no less has arrived, all of it as the store has it
pub record FutureComes (f : FutureData) (here : Arrivals) (store : Store) (e : Event) : Type 0 where
  pub then : Came
  pub more : Extends (came here) then
  pub holds : Holds store then
  pub meets : does e f then ≡ true
