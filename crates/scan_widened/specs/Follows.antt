-- What a caller does to a file's own source by what it does to the source over it.
use Rattle.std.specs.Prelude.{◌≡◌, ◌≤◌, ◌<◌, ◌++◌, ℕ, List, [], true, Contains, All, IfSome, Some}
use Rattle.scan_segments.specs.Faults.{Rose}
use Rattle.scan_segments.specs.Source.{SourceState, none_live}
use Rattle.scan_widen.specs.declared.behind.Behind.{Behind}
use Rattle.scan_widened.specs.Identity.{UnionParts, first_asked, inner_of}

-- this segment of the file stands behind one of these
abbrev pub StandsBehind : List Behind → List ℕ → ℕ → Type 0
StandsBehind behind ids id = (k : ℕ) × Contains ids k × (inner_of behind k ≡ Some id)

-- the file's segment behind this one, where there is one, is among these
abbrev pub HasInner : List Behind → List ℕ → ℕ → Type 0
HasInner behind inner_ids k = IfSome (inner_of behind k) (λ id. Contains inner_ids id)

-- What holds of each source under another dtype. What it asked of the file's source stands last there, and is what
-- stands behind the segments that were asked of it. What is live was asked. The file's source failed no less than before,
-- and it has not failed unless the file's source has since.
pub record IsUnion (u : UnionParts) : Type 0 where
  pub asks : u.inner.asked ≡ first_asked u ++ u.inner_asked
  pub behind : All (StandsBehind u.behind u.asked) u.inner_asked
  pub each : All (HasInner u.behind u.inner_asked) u.asked
  pub since : (k : ℕ) → u.live k ≡ true → Contains u.asked k
  pub least : u.before ≤ u.inner.faults
  pub failed : 0 < u.faults → Rose u.before u.inner.faults × (u.inner.can_fail ≡ true)

-- what a caller's contract tells of a source that it was lent
pub record Moves (old new : SourceState) : Type 0 where
  pub holds : new.holds ≡ old.holds
  pub faults : old.faults ≤ new.faults
  pub turns : new.turns ≤ old.turns
  pub can_fail : new.can_fail ≡ old.can_fail
  pub live : new.live ≡ old.live
  pub ids : List ℕ
  pub asked : new.asked ≡ old.asked ++ ids

-- one that was just made
pub record IsFresh (u : UnionParts) : Type 0 where
  pub before : u.before ≡ u.inner.faults
  pub asked : u.asked ≡ []
  pub inner_asked : u.inner_asked ≡ []
  pub live : u.live ≡ none_live
  pub faults : u.faults ≡ 0

-- What holds of the file's own source, before and after, where these ids were asked of the one over it: it tells the same,
-- its faults did not fall and its turns did not rise, no request is live, it was asked for what stands behind those ids and
-- for nothing else, and it failed where the one over it failed.
pub record Follows (behind : List Behind) (ids : List ℕ) (over over' old new : SourceState) : Type 0 where
  pub holds : new.holds ≡ old.holds
  pub faults : old.faults ≤ new.faults
  pub turns : new.turns ≤ old.turns
  pub can_fail : new.can_fail ≡ old.can_fail
  pub idle : new.live ≡ none_live
  pub inner_ids : List ℕ
  pub asked : new.asked ≡ old.asked ++ inner_ids
  pub from : All (StandsBehind behind ids) inner_ids
  pub each : All (HasInner behind inner_ids) ids
  pub failed : Rose over.faults over'.faults → Rose old.faults new.faults
