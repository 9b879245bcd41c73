-- What a stream reads.
use Rattle.std.specs.Prelude.{◌≡◌, ◌⊎◌, ℕ, Bool, true, false, List, [], drop, map, Option, refl}
use Rattle.std.specs.Coded.{Coded, code_by, coded×, coded⊎, coded_bool, coded_ℕ, coded_list, coded_option}
use mathlib.Core.Logic.{inl, inr}
use Rattle.scan_values.specs.Arrays.{ArrayData, array_code}
use Rattle.scan_values.specs.DataType.{DataType, data_type_code}
use Rattle.scan_splits.specs.Arrivals.{Arrivals, arrivals_code}
use Rattle.scan_plans.specs.Futures.{FutureData, future_code}
use Rattle.scan_limit.specs.Seats.{SeatState, seat_state_code}
use Rattle.scan_streams.specs.Desks.{live_ids}
use Rattle.scan_streams.specs.Grants.{HasRoom}
use Rattle.scan_streams.specs.Readings.{Standing, slot_count, splits_of}
use Rattle.scan_streams.specs.Splits.{SplitData, unread, read, new_split, AllOf, reach}
use Rattle.scan_streams.specs.declared.reading.Reading.{Reading}

-- the dtype of its arrays, whether they come in split order, how many splits are read at once, the splits that are
-- still to be given, the ids that are live, the seat of a limit, and whether it has ended
pub record FeedData : Type 0 where
  pub dtype : DataType
  pub ordered : Bool
  pub width : ℕ
  pub splits : List SplitData
  pub live : List ℕ
  pub seat : Option SeatState
  pub ended : Bool

-- nothing of its splits has been read
abbrev pub new_feed : DataType → Bool → ℕ → List SplitData → Option SeatState → FeedData
new_feed d ordered width splits seat = record { dtype = d; ordered = ordered; width = width; splits = splits; live = []; seat = seat; ended = false }

-- it has ended, and nothing is live
abbrev pub ended_feed : FeedData → FeedData
ended_feed f = record f { live = []; ended = true }

-- a feed by its parts
abbrev pub feed_of : DataType → Reading → Option SeatState → Bool → FeedData
feed_of d r seat ended = record { dtype = d; ordered = r.ordered; width = slot_count r; splits = splits_of r; live = live_ids r.desk; seat = seat; ended = ended }

-- nothing has been read of these splits
abbrev pub AreNew : List SplitData → Type 0
AreNew splits = (fs : List FutureData) × (splits ≡ map new_split fs)

-- of the splits behind those that are read at once nothing has been read
abbrev pub ReadsFew : FeedData → Type 0
ReadsFew f = AreNew (drop f.width f.splits)

-- until it ends, its splits stand, give arrays of its dtype, and may be claimed; then nothing is live
pub record IsFeed (d : DataType) (r : Reading) (seat : Option SeatState) (ended : Bool) : Type 0 where
  pub stands : ended ≡ false → Standing r
  pub dtype : ended ≡ false → AllOf d (splits_of r)
  pub room : ended ≡ false → HasRoom seat (reach (splits_of r))
  pub idle : ended ≡ true → r.desk ≡ []

-- how splits and feeds are stored
abbrev pub SplitParts : Type 0
SplitParts = (FutureData × Arrivals) ⊎ ArrayData

abbrev pub split_parts : SplitData → SplitParts
split_parts (unread f inbox) = inl (f, inbox)
split_parts (read a) = inr a

abbrev pub split_of : SplitParts → SplitData
split_of (inl p) = unread p.0 p.1
split_of (inr a) = read a

abbrev pub split_again : (s : SplitData) → split_of (split_parts s) ≡ s
split_again (unread f inbox) = refl
split_again (read a) = refl

abbrev pub split_code : Coded SplitData
split_code = code_by SplitParts (coded⊎ (coded× future_code arrivals_code) array_code) split_parts split_of split_again

abbrev pub FeedParts : Type 0
FeedParts = (DataType × (Bool × ℕ)) × ((List SplitData × List ℕ) × (Option SeatState × Bool))

abbrev pub feed_parts : FeedData → FeedParts
feed_parts f = ((f.dtype, (f.ordered, f.width)), ((f.splits, f.live), (f.seat, f.ended)))

abbrev pub feed_by : FeedParts → FeedData
feed_by p = record { dtype = p.0.0; ordered = p.0.1.0; width = p.0.1.1; splits = p.1.0.0; live = p.1.0.1; seat = p.1.1.0; ended = p.1.1.1 }

abbrev pub parts_code : Coded FeedParts
parts_code = coded× (coded× data_type_code (coded× coded_bool coded_ℕ))
    (coded× (coded× (coded_list split_code) (coded_list coded_ℕ)) (coded× (coded_option seat_state_code) coded_bool))

abbrev pub feed_code : Coded FeedData
feed_code = code_by FeedParts parts_code feed_parts feed_by (λ _. refl)
