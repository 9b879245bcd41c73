-- Few splits are read at once.
use Rattle.std.proofs.Common.{◌≡◌, ℕ, zero, suc, ◌+◌, ◌≤◌, List, [], ◌∷◌, ◌++◌, length, map, take, drop, Bool, Option, refl, arith, length-append, length-take, length-drop}
use Rattle.std.specs.List.{flat_map}
use Rattle.scan_values.specs.DataType.{DataType}
use Rattle.scan_plans.specs.Futures.{FutureData}
use Rattle.scan_limit.specs.Seats.{SeatState}
use Rattle.scan_streams.specs.Feeds.{AreNew, ReadsFew, feed_of}
use Rattle.scan_streams.specs.Readings.{ring}
use Rattle.scan_streams.specs.Slots.{slot_split}
use Rattle.scan_streams.specs.Splits.{SplitData, new_split}
use Rattle.scan_streams.specs.declared.reading.Reading.{Reading}
use Rattle.scan_streams.specs.declared.slot.Slot.{Slot}
use Rattle.scan_streams.specs.declared.slot.Slot.TheVariants as slot

drop_map : (n : ℕ) (fs : List FutureData) → drop n (map new_split fs) ≡ map new_split (drop n fs)
drop_map zero fs = refl
drop_map (suc n) [] = refl
drop_map (suc n) (f ∷ fs) = drop_map n fs

rest_new : (n : ℕ) (splits : List SplitData) (fs : List FutureData) → length splits ≤ n → AreNew (drop n (splits ++ map new_split fs))
rest_new n [] fs h = (drop n fs, drop_map n fs)
rest_new zero (s ∷ splits) fs h = let z : ⊥ = omega (arith, h) in absurd z
rest_new (suc n) (s ∷ splits) fs h = rest_new n splits fs (omega (arith, h))

slots_few : (xs : List Slot) → length (flat_map slot_split xs) ≤ length xs
slots_few [] = omega arith
slots_few (slot.Empty ∷ xs) = let z = slots_few xs in omega (arith, z)
slots_few (slot.Run r ∷ xs) = let z = slots_few xs in omega (arith, z)
slots_few (slot.Done a ∷ xs) = let z = slots_few xs in omega (arith, z)

ring_long : (k : ℕ) (xs : List Slot) → length (ring k xs) ≡ length xs
ring_long k xs =
    let a = length-append (drop k xs) (take k xs) in
    let b = length-drop k xs in
    let c = length-take k xs in
    omega (arith, a, b, c)

pub few_begun : (d : DataType) (r : Reading) (seat : Option SeatState) (ended : Bool) → ReadsFew (feed_of d r seat ended)
few_begun d r seat ended =
    let few = slots_few (ring r.head r.slots.items) in
    let long = ring_long r.head r.slots.items in
    rest_new (length r.slots.items) (flat_map slot_split (ring r.head r.slots.items)) r.queue (omega (arith, few, long))
