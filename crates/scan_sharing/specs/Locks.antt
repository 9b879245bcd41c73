-- What lies under the lock of a shared source.
use Rattle.std.specs.Prelude.{◌≡◌, ℕ, ◌≤◌, List, Bool, Some}
use Rattle.scan_sharing.specs.declared.holder.SharedAnswer.{SharedAnswer}
use Rattle.scan_sharing.specs.declared.holder.SharedAnswer.TheVariants as answer
use Rattle.scan_sharing.specs.declared.holder.SharedKind.{SharedKind}
use Rattle.scan_sharing.specs.declared.holder.SharedEvent.{SharedEvent}
use Rattle.scan_sharing.specs.Sharing.{Held, entry_at, answer_of, owed, replay, IsLawful, Agree}
use Rattle.scan_sharing.specs.Kinds.{kinds}

-- the source, the table, the history, and the room for events to come
pub record LockedState (S : Type 0) : Type 0 where
  pub source : S
  pub table : List (ℕ × Held SharedAnswer)
  pub history : List (SharedEvent SharedKind)
  pub spare : ℕ

-- the history is lawful and its replay is the table, each answer read as its kind; the live ids are the table's; kept
-- bytes fit their id; each event that is owed has room
pub record IsKept (fits : ℕ → List ℕ → Type 0) (live : ℕ → Bool) (table : List (ℕ × Held SharedAnswer))
    (history : List (SharedEvent SharedKind)) (spare : ℕ) : Type 0 where
  pub lawful : IsLawful history
  pub replays : (id : ℕ) → kinds (entry_at table id) ≡ replay history id
  pub agrees : Agree live (entry_at table)
  pub fit : (id : ℕ) (b : List ℕ) → answer_of (entry_at table id) ≡ Some (answer.Bytes b) → fits id b
  pub room : owed table ≤ spare
