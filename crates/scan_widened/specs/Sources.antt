-- A source of segments under another dtype: what it is, and what holds of each.
use Rattle.std.specs.Prelude.{◌≡◌, ℕ, ◌≤◌, ◌++◌, ◌∷◌, List, [], All, Bool, true, false, nat_eq, Option, None, Some, IfSome, is_some, option_and_then}
use Rattle.std.specs.Map.{lookup}
use Rattle.scan_segments.specs.declared.source.Polled.{Polled}
use Rattle.scan_segments.specs.declared.source.Polled.TheVariants as plain
use Rattle.scan_segments.specs.Faults.{Rose, one_more}
use Rattle.scan_segments.specs.Source.{SourceState, Store, TellsBytes, TellsNone, without_live}
use Rattle.scan_sharing.specs.declared.holder.SharedAnswer.{SharedAnswer}
use Rattle.scan_sharing.specs.declared.holder.SharedAnswer.TheVariants as answer
use Rattle.scan_sharing.specs.declared.holder.SharedPolled.{SharedPolled}
use Rattle.scan_sharing.specs.declared.holder.SharedPolled.TheVariants as shared
use Rattle.scan_sharing.specs.Holding.{Holding}
use Rattle.scan_sharing.specs.Sharing.{Held, entry_at, is_held, answer_of, Agree}
use Rattle.scan_widen.specs.declared.behind.Behind.{Behind}
use Rattle.scan_widen.specs.Parts.{IsReadable}
use Rattle.scan_widen.specs.Stores.{bytes_behind, read_behind, made_behind, inner_id}
use Rattle.scan_widened.specs.declared.stage.Stage.{Stage}
use Rattle.scan_widened.specs.declared.stage.Stage.TheVariants as stage
use Rattle.scan_widened.specs.Identity.{UnionParts, union_state, inner_of}
use Rattle.scan_widened.specs.Follows.{IsUnion, Moves, Follows}

-- the file's own source, what stands behind each segment, the table of what is asked of the file's source, what was asked
-- of both, how each live segment is served, the failures that were given, and those that the file's source had before
pub record UnionState (S : Type 0) : Type 0 where
  pub inner : S
  pub behind : List Behind
  pub table : List (ℕ × Held SharedAnswer)
  pub asked : List ℕ
  pub inner_asked : List ℕ
  pub stages : List (ℕ × Stage)
  pub faults : ℕ
  pub before : ℕ

abbrev pub stage_at : List (ℕ × Stage) → ℕ → Option Stage
stage_at stages id = lookup (nat_eq id) stages

abbrev pub has_stage : List (ℕ × Stage) → ℕ → Bool
has_stage stages id = is_some (stage_at stages id)

-- an answer that is kept is what the source tells
abbrev pub IsTold : SourceState → ℕ → Option SharedAnswer → Type 0
IsTold s id None = Unit {0}
IsTold s id (Some (answer.Bytes b)) = TellsBytes s id b
IsTold s id (Some answer.Missing) = TellsNone s id
IsTold s id (Some (answer.Failed n)) = Unit {0}

-- an answer that is kept as a failure was one
abbrev pub HasFailed : ℕ → SourceState → Option SharedAnswer → Type 0
HasFailed before s None = Unit {0}
HasFailed before s (Some (answer.Bytes b)) = Unit {0}
HasFailed before s (Some answer.Missing) = Unit {0}
HasFailed before s (Some (answer.Failed n)) = Rose before s.faults × (s.can_fail ≡ true)

-- What ties the stages, the table and the file's source. Each stage that holds a request is a holder of the segment behind
-- its own, and each holder is one stage's; no entry is without a holder; what is kept is told; what is made out of nothing
-- has nothing behind it.
pub record IsTied (s : SourceState) (before : ℕ) (behind : List Behind) (table : List (ℕ × Held SharedAnswer)) (stages : List (ℕ × Stage)) : Type 0 where
  pub agree : Agree s.live (entry_at table)
  pub held : (k : ℕ) (h : Holding) → stage_at stages k ≡ Some (stage.Held h) → is_held h.number (entry_at table h.id) ≡ true
  pub is : (k : ℕ) (h : Holding) → stage_at stages k ≡ Some (stage.Held h) → inner_of behind k ≡ Some h.id
  pub once : (j k : ℕ) (g h : Holding) → stage_at stages j ≡ Some (stage.Held g) → stage_at stages k ≡ Some (stage.Held h) → g.number ≡ h.number → j ≡ k
  pub each : (id n : ℕ) → is_held n (entry_at table id) ≡ true → (k : ℕ) × (stage_at stages k ≡ Some (stage.Held (record { id = id; number = n })))
  pub some : (id : ℕ) → is_some (entry_at table id) ≡ true → (n : ℕ) × (is_held n (entry_at table id) ≡ true)
  pub told : (id : ℕ) → IsTold s id (answer_of (entry_at table id))
  pub failed : (id : ℕ) → HasFailed before s (answer_of (entry_at table id))
  pub made : (k : ℕ) → stage_at stages k ≡ Some stage.Made → inner_of behind k ≡ None

-- each stage that holds a request is a holder of the table
abbrev pub HoldersStand : List (ℕ × Held SharedAnswer) → List (ℕ × Stage) → Type 0
HoldersStand table stages = (k : ℕ) (h : Holding) → stage_at stages k ≡ Some (stage.Held h) → is_held h.number (entry_at table h.id) ≡ true

-- the file's source was asked nothing, and tells and may fail as before
pub record Rests (old new : SourceState) : Type 0 where
  pub holds : new.holds ≡ old.holds
  pub asked : new.asked ≡ old.asked
  pub faults : old.faults ≤ new.faults
  pub turns : new.turns ≤ old.turns
  pub can_fail : new.can_fail ≡ old.can_fail

-- an answer of a shared request is what the source tells, or a failure that it has had
abbrev pub IsToldShared : SourceState → ℕ → ℕ → SharedPolled → Type 0
IsToldShared s before id shared.Pending = Unit {0}
IsToldShared s before id (shared.Bytes b) = TellsBytes s id b
IsToldShared s before id shared.Missing = TellsNone s id
IsToldShared s before id (shared.Failed n) = Rose before s.faults × (s.can_fail ≡ true)
IsToldShared s before id shared.NoMemory = Unit {0}

-- the bytes of a segment behind which this stands, or nothing does
abbrev pub bytes_over : Option Behind → Store → Option (List ℕ)
bytes_over behind store = option_and_then (bytes_behind store) behind

-- an answer of a poll is what the file's source tells, widened, or a failure that it has had
abbrev pub IsToldOver : SourceState → ℕ → Option Behind → Polled → Type 0
IsToldOver s before behind plain.Pending = Unit {0}
IsToldOver s before behind (plain.Bytes b) = IfSome s.holds (λ store. bytes_over behind store ≡ Some b)
IsToldOver s before behind plain.Missing = IfSome s.holds (λ store. bytes_over behind store ≡ None)
IsToldOver s before behind plain.Failed = Rose before s.faults × (s.can_fail ≡ true)
IsToldOver s before behind plain.NoMemory = Unit {0}

-- bytes of the file's segment, read as those of one behind which it stands
abbrev pub IsReadOver : Behind → List ℕ → Polled → Type 0
IsReadOver behind bytes plain.Pending = ⊥
IsReadOver behind bytes (plain.Bytes b) = read_behind bytes behind ≡ Some b
IsReadOver behind bytes plain.Missing = read_behind bytes behind ≡ None
IsReadOver behind bytes plain.Failed = ⊥
IsReadOver behind bytes plain.NoMemory = Unit {0}

-- the bytes of a segment behind which none of the file stands
abbrev pub IsMadeOver : Behind → Polled → Type 0
IsMadeOver behind plain.Pending = ⊥
IsMadeOver behind (plain.Bytes b) = b ≡ made_behind behind
IsMadeOver behind plain.Missing = ⊥
IsMadeOver behind plain.Failed = ⊥
IsMadeOver behind plain.NoMemory = Unit {0}

-- the asks with one more, unless it was shared
abbrev pub noted : Bool → List ℕ → ℕ → List ℕ
noted true ids id = ids
noted false ids id = ids ++ id ∷ []

-- what is live after an answer
abbrev pub left_live : Polled → ℕ → (ℕ → Bool) → ℕ → Bool
left_live plain.Pending id live = live
left_live (plain.Bytes b) id live = without_live id live
left_live plain.Missing id live = without_live id live
left_live plain.Failed id live = without_live id live
left_live plain.NoMemory id live = live

-- the failures that were given, with that of an answer
abbrev pub count_failed : ℕ → Polled → ℕ
count_failed n plain.Failed = one_more n
count_failed n plain.Pending = n
count_failed n (plain.Bytes b) = n
count_failed n plain.Missing = n
count_failed n plain.NoMemory = n

-- the stage of an id serves what stands behind it: it holds a request of the file's segment, or there is none
pub record StandsOver (table : List (ℕ × Held SharedAnswer)) (stages : List (ℕ × Stage)) (id : ℕ) (behind : Option Behind) : Type 0 where
  pub held : (h : Holding) → stage_at stages id ≡ Some (stage.Held h) → is_held h.number (entry_at table h.id) ≡ true
  pub is : (h : Holding) → stage_at stages id ≡ Some (stage.Held h) → option_and_then inner_id behind ≡ Some h.id
  pub made : stage_at stages id ≡ Some stage.Made → option_and_then inner_id behind ≡ None
  pub readable : IfSome behind IsReadable

module _ {S : Type 0} (source : S → SourceState) where
  abbrev pub parts_of : UnionState S → UnionParts
  parts_of u = record {
    inner = source u.inner;
    before = u.before;
    behind = u.behind;
    asked = u.asked;
    inner_asked = u.inner_asked;
    live = has_stage u.stages;
    faults = u.faults;
  }

  abbrev pub state_of : UnionState S → SourceState
  state_of u = union_state (parts_of u)

  pub record IsWhole (u : UnionState S) : Type 0 where
    pub tied : IsTied (source u.inner) u.before u.behind u.table u.stages
    pub union : IsUnion (parts_of u)
    pub readable : All IsReadable u.behind

  -- one that was just made over a source
  abbrev pub fresh : S → List Behind → UnionState S
  fresh inner behind = record {
    inner = inner;
    behind = behind;
    table = [];
    asked = [];
    inner_asked = [];
    stages = [];
    faults = 0;
    before = (source inner).faults;
  }

  -- whatever a caller did to one that was just made, to be this one: the file's own source follows
  abbrev pub Follow : UnionState S → Type 0
  Follow u = (inner : S) (behind : List Behind) (m : Moves (state_of (fresh inner behind)) (state_of u))
      → Follows behind m.ids (state_of (fresh inner behind)) (state_of u) (source inner) (source u.inner)
