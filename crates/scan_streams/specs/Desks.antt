-- The live requests of a source, with those that wait for each.
use Rattle.std.specs.Prelude.{◌≡◌, ◌<◌, ℕ, List, [], ◌∷◌, ◌++◌, Bool, true, false, cond, map, Option, Some, None, is_some}
use Rattle.std.specs.Ordering.{nat_cmp}
use Rattle.std.specs.BTreeMap.{is_at}
use Rattle.std.specs.Map.{lookup}
use Rattle.scan_values.specs.Selections.{is_among}
use Rattle.scan_segments.specs.Faults.{Rose}
use Rattle.scan_segments.specs.Source.{SourceState, Begins, TellsBytes, TellsNone}
use Rattle.scan_splits.specs.declared.inbox.Arrival.{Arrival}
use Rattle.scan_splits.specs.declared.inbox.Arrival.TheVariants as arrival
use Rattle.scan_streams.specs.declared.desk.Reply.{Reply}
use Rattle.scan_streams.specs.declared.desk.Reply.TheVariants as reply

-- the places that wait for each live id, the ids rising
abbrev pub Waiters : Type 0
Waiters = List (ℕ × List ℕ)

-- the places that wait for an id, where it is live
abbrev pub waiters_at : Waiters → ℕ → Option (List ℕ)
waiters_at d id = lookup (is_at (nat_cmp id)) d

-- a place is one of these
abbrev pub is_in : Option (List ℕ) → ℕ → Bool
is_in None place = false
is_in (Some places) place = is_among places place

-- a place waits for an id
abbrev pub waits : Waiters → ℕ → ℕ → Bool
waits d id place = is_in (waiters_at d id) place

-- some place waits for an id, where it is live
abbrev pub is_awaited : Option (List ℕ) → Bool
is_awaited None = true
is_awaited (Some []) = false
is_awaited (Some (p ∷ ps)) = true

abbrev pub AllAwaited : Waiters → Type 0
AllAwaited d = (id : ℕ) → is_awaited (waiters_at d id) ≡ true

-- the live requests of a source are those of the desk
abbrev pub Agree : (ℕ → Bool) → Waiters → Type 0
Agree live d = (id : ℕ) → live id ≡ is_some (waiters_at d id)

-- the ids that are live
abbrev pub live_ids : Waiters → List ℕ
live_ids d = map (λ (e : ℕ × List ℕ). e.0) d

-- one more place that waits
abbrev pub added : ℕ → Option (List ℕ) → List ℕ
added place None = place ∷ []
added place (Some places) = places ++ place ∷ []

-- the same ids are live, and the same places wait for each
abbrev pub Stay : Waiters → Waiters → Type 0
Stay old new = (q : ℕ) → waiters_at new q ≡ waiters_at old q

-- of one id those that wait are others, and of the others they stay
abbrev pub Moves : ℕ → Option (List ℕ) → Waiters → Waiters → Type 0
Moves id places old new = (q : ℕ) → waiters_at new q ≡ cond (is_at (nat_cmp id) q) places (waiters_at old q)

-- an id that is live is not asked anew; one that is not is
abbrev pub Asks : Option (List ℕ) → ℕ → SourceState → SourceState → Type 0
Asks None id old new = Begins id old new
Asks (Some places) id old new = new ≡ old

-- what arrived is what a told store has
abbrev pub Tells : SourceState → ℕ → Arrival → Type 0
Tells s id (arrival.Bytes bytes) = TellsBytes s id bytes
Tells s id arrival.Missing = TellsNone s id

-- the answer of a poll of a live id: the request goes on, or it ends and those that waited get what arrived
abbrev pub Replies : ℕ → SourceState → SourceState → Waiters → Waiters → Reply → Type 0
Replies id s t old new reply.Pending = (new ≡ old) × (t.turns < s.turns)
Replies id s t old new (reply.Came a places) = (waiters_at old id ≡ Some places) × Moves id None old new × Tells s id a
Replies id s t old new reply.Failed = Moves id None old new × Rose s.faults t.faults × (s.can_fail ≡ true)
Replies id s t old new reply.NoMemory = new ≡ old
