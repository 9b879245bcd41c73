-- What has arrived of the segments of a store.
use Rattle.std.specs.Prelude.{◌≡◌, ℕ, List, Option, Some, None, refl}
use Rattle.std.specs.Coded.{Coded, code_by, coded_ℕ, coded_list, coded_option}
use Rattle.std.specs.Ordering.{nat_cmp}
use Rattle.std.specs.FinMap as map
use Rattle.scan_segments.specs.Source.{Store}
use Rattle.scan_splits.specs.declared.inbox.Arrival.{Arrival}
use Rattle.scan_splits.specs.declared.inbox.Arrival.TheVariants.{Bytes, Missing}

-- what has arrived, by the ids of the segments
abbrev pub Arrivals : Type 0
Arrivals = map.FinMap nat_cmp Arrival

-- the bytes that arrived, or none where the segment is missing
abbrev pub content : Arrival → Option (List ℕ)
content (Bytes bytes) = Some bytes
content Missing = None

abbrev pub arrival_of : Option (List ℕ) → Arrival
arrival_of (Some bytes) = Bytes bytes
arrival_of None = Missing

abbrev pub arrival_again : (a : Arrival) → arrival_of (content a) ≡ a
arrival_again (Bytes bytes) = refl
arrival_again Missing = refl

-- arrivals are stored by what they give
abbrev pub arrivals_code : Coded Arrivals
arrivals_code = map.code coded_ℕ (code_by (Option (List ℕ)) (coded_option (coded_list coded_ℕ)) content arrival_of arrival_again)

-- what has arrived is what the store has
abbrev pub Agrees : Store → Arrivals → Type 0
Agrees store inbox = (id : ℕ) (a : Arrival) → map.get inbox id ≡ Some a → store id ≡ content a
