-- The order in which the entries of a bounded cache go for their use counts. No contract of the cache shows it.
use Rattle.std.specs.Prelude.{◌≡◌, ℕ, ◌-◌, ◌<◌, ◌==◌, ◌&&◌, Bool, true, false, List, [], ◌∷◌, Option, Some, None}
use Rattle.std.specs.List.{slice_get}
use Rattle.std.specs.Map.{lookup, lookup_entry}
use Rattle.std.specs.Option.{option_map_or}
use Rattle.std.specs.Ordering.{nat_cmp, ordering_then}
use Rattle.std.specs.declared.cmp.Ordering.{Ordering}
use Rattle.std.specs.BTreeMap.{BTreeMap, get}
use Rattle.scan_segments.specs.declared.segment.SegmentKey.{SegmentKey}
use Rattle.scan_caches.specs.declared.use_counts.Held.{Held}
use Rattle.scan_segments.specs.Keys.{same_key}
use Rattle.scan_caches.specs.Bounded.{Pair, Uses, count_of}

abbrev pub Entry : Type 0
Entry = SegmentKey × Held

-- the pairs that the entries are
abbrev pub plain : List Entry → List Pair
plain [] = []
plain (e ∷ es) = (e.0, e.1.bytes) ∷ plain es

-- a segment that came to the front at this time
abbrev pub held : List ℕ → ℕ → Held
held b t = record { bytes = b; tick = t }

-- how often an entry was looked up, and when it last came to the front
abbrev pub Place : Type 0
Place = ℕ × ℕ

abbrev pub place : Uses → Entry → Place
place us e = (count_of us e.0, e.1.tick)

-- fewer uses come first, and of equal ones the older
abbrev pub place_cmp : Place → Place → Ordering
place_cmp p q = ordering_then (nat_cmp p.0 q.0) (nat_cmp p.1 q.1)

-- each entry came to the front before those that stand before it, and before this time
abbrev pub Falls : ℕ → List Entry → Type 0
Falls n [] = Unit {0}
Falls n (e ∷ es) = (e.1.tick < n) × Falls e.1.tick es

-- each entry stands at its place; what stands elsewhere is passed by
abbrev pub Indexed : Uses → BTreeMap Place SegmentKey → List Entry → Type 0
Indexed us o [] = Unit {0}
Indexed us o (e ∷ es) = (get place_cmp o (place us e) ≡ Some e.0) × Indexed us o es

-- the entries but for the front one, where its place is still to be made
abbrev pub behind : Bool → List Entry → List Entry
behind false es = es
behind true [] = []
behind true (e ∷ es) = es

-- a key is that of an entry at this place
abbrev pub is_place : Uses → List Entry → Place → SegmentKey → Bool
is_place us es p k = option_map_or (λ h. (h.tick == p.1) && (count_of us k == p.0)) (lookup (same_key k) es) false

-- the key whose count is forgotten where one more use of k is counted, and so many are remembered
abbrev pub forgotten : ℕ → SegmentKey → Uses → Option SegmentKey
forgotten n k us = option_map_or (λ e. None) (lookup_entry (same_key k) us) (option_map_or (λ e. Some e.0) (slice_get us (n - 1)) None)
