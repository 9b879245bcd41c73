-- What contracts see of a shared table, and what its calls do to the table and to the source.
use Rattle.std.specs.Prelude.{◌≡◌, ◌⊎◌, ◌+◌, ◌<◌, ℕ, List, [], ◌∷◌, Bool, true, cond, nat_lt, length, Option, Some, None, is_some, is_none}
use Rattle.scan_sharing.specs.declared.holder.SharedAnswer.{SharedAnswer}
use Rattle.scan_sharing.specs.declared.holder.SharedAnswer.TheVariants as answer
use Rattle.scan_sharing.specs.declared.holder.SharedEvent.TheVariants.{Arrived}
use Rattle.scan_sharing.specs.declared.holder.SharedPolled.{SharedPolled}
use Rattle.scan_sharing.specs.declared.holder.SharedPolled.TheVariants.{Pending, Bytes, Missing, Failed, NoMemory}
use Rattle.std.specs.Ordering.{nat_cmp}
use Rattle.std.specs.BTreeMap.{is_at}
use Rattle.scan_segments.specs.Faults.{Rose}
use Rattle.scan_segments.specs.Source.{SourceState, without, Begins, Stays, Ends, TellsBytes, TellsNone}
use Rattle.scan_sharing.specs.Sharing.{Held, is_held, is_live, answer_of, after, entry_at, owed, Same}

-- a live request with one holder
abbrev pub begun : ℕ → Held SharedAnswer
begun number = record { holders = number ∷ []; answer = None }

-- the entry without this number
abbrev pub without_number : ℕ → Option (Held SharedAnswer) → Held SharedAnswer
without_number number None = record { holders = []; answer = None }
without_number number (Some e) = record { holders = without number e.holders; answer = e.answer }

-- there are holders
abbrev pub has_others : Held SharedAnswer → Bool
has_others e = nat_lt 0 (length e.holders)

-- the entry of the id is another one or none, and the others stay
abbrev pub Moves : ℕ → Option (Held SharedAnswer) → List (ℕ × Held SharedAnswer) → List (ℕ × Held SharedAnswer) → Type 0
Moves id x es fs = (q : ℕ) → entry_at fs q ≡ cond (is_at (nat_cmp id) q) x (entry_at es q)

-- each holder has a number below this one
abbrev pub AreBelow : ℕ → List (ℕ × Held SharedAnswer) → Type 0
AreBelow next es = (id n : ℕ) → is_held n (entry_at es id) ≡ true → n < next

-- an id that has an entry is not asked anew; one that has none is
abbrev pub Asks : Option (Held SharedAnswer) → ℕ → SourceState → SourceState → Type 0
Asks None id old new = Begins id old new
Asks (Some e) id old new = new ≡ old

-- a poll gives the answer that is kept, and is pending only while there is none
abbrev pub Gives : Option (Held SharedAnswer) → SharedPolled → Type 0
Gives e Pending = is_live e ≡ true
Gives e (Bytes b) = answer_of e ≡ Some (answer.Bytes b)
Gives e Missing = answer_of e ≡ Some answer.Missing
Gives e (Failed n) = answer_of e ≡ Some (answer.Failed n)
Gives e NoMemory = Unit {0}

-- no answer has come: the request goes on, and the source put it off or had no memory
abbrev pub IsOpen : SourceState → SourceState → SharedPolled → Type 0
IsOpen old new Pending = new.turns < old.turns
IsOpen old new (Bytes b) = ⊥
IsOpen old new Missing = ⊥
IsOpen old new (Failed n) = ⊥
IsOpen old new NoMemory = Unit {0}

-- an answer that the source gives of an id in a call
abbrev pub IsFound : (ℕ → List ℕ → Type 0) → ℕ → SourceState → SourceState → SharedAnswer → Type 0
IsFound fits id old new (answer.Bytes b) = TellsBytes old id b × fits id b
IsFound fits id old new answer.Missing = TellsNone old id
IsFound fits id old new (answer.Failed n) = Rose old.faults new.faults × (old.can_fail ≡ true) × (n ≡ new.faults)

-- the answer of a live request comes from the source, and is kept
pub record Arrives (fits : ℕ → List ℕ → Type 0) (old new : SourceState) (s t : List (ℕ × Held SharedAnswer)) (id : ℕ) : Type 0 where
  pub answer : SharedAnswer
  pub was_live : is_live (entry_at s id) ≡ true
  pub source : Ends id old new
  pub found : IsFound fits id old new answer
  pub step : Same (entry_at t) (after (Arrived id answer) (entry_at s))
  pub lighter : owed t + 1 ≡ owed s

-- nothing is kept anew: the answer is there and the source is not polled, or the request goes on
abbrev pub Rests : SourceState → SourceState → Option (Held SharedAnswer) → Type 0
Rests old new e = ((is_some (answer_of e) ≡ true) × (new ≡ old)) ⊎ ((is_live e ≡ true) × Stays old new)

abbrev pub Polls : (ℕ → List ℕ → Type 0) → SourceState → SourceState → List (ℕ × Held SharedAnswer) → List (ℕ × Held SharedAnswer) → ℕ → Type 0
Polls fits old new s t id = ((t ≡ s) × Rests old new (entry_at s id)) ⊎ Arrives fits old new s t id

-- the answer of a live request comes from the source, and is kept in its entry
pub record Comes (fits : ℕ → List ℕ → Type 0) (id : ℕ) (old new : SourceState) (e f : Held SharedAnswer) : Type 0 where
  pub answer : SharedAnswer
  pub was_live : is_none e.answer ≡ true
  pub source : Ends id old new
  pub found : IsFound fits id old new answer
  pub kept : f ≡ record { holders = e.holders; answer = Some answer }

-- what a poll does to the entry that it is of: it rests, or the answer comes from the source and is kept
abbrev pub PollsEntry : (ℕ → List ℕ → Type 0) → ℕ → SourceState → SourceState → Held SharedAnswer → Held SharedAnswer → Type 0
PollsEntry fits id old new e f = ((f ≡ e) × Rests old new (Some e)) ⊎ Comes fits id old new e f
