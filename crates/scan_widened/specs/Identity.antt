-- How a source of segments under another dtype says which source it stands over.
use Rattle.std.specs.Prelude.{ℕ, ◌+◌, ◌-◌, ◌^◌, nat_lt, List, ◌∷◌, ◌++◌, length, take, map, Bool, Option, None, Some, option_map, option_and_then, slice_get, if◌then◌else◌}
use Rattle.scan_segments.specs.Source.{Store, SourceState}
use Rattle.scan_widen.specs.declared.behind.Behind.{Behind}
use Rattle.scan_widen.specs.Stores.{store_under, inner_id}

-- the file's segment behind one, where there is one
abbrev pub inner_of : List Behind → ℕ → Option ℕ
inner_of behind id = option_and_then inner_id (slice_get behind id)

-- the number of a file's segment, or 0 where there is none
abbrev pub code_of : Option ℕ → ℕ
code_of None = 0
code_of (Some id) = id + 1

-- a list of numbers by which these three are known, whatever follows it
abbrev pub marks : ℕ → List ℕ → List ℕ → List ℕ
marks before first codes = length first ∷ length codes ∷ before ∷ (first ++ codes)

-- the segments under the other dtype; past the ids of all segments, where nothing can be asked, those of the file itself
abbrev pub beside : List Behind → Store → Store
beside behind store id = if nat_lt id (2 ^ 32) then store_under behind store id else store (id - 2 ^ 32)

-- a source under another dtype: the file's own source and the failures that it had before, what stands behind each
-- segment, what was asked of it and of the file's source, what is live, and its failures
pub record UnionParts : Type 0 where
  pub inner : SourceState
  pub before : ℕ
  pub behind : List Behind
  pub asked : List ℕ
  pub inner_asked : List ℕ
  pub live : ℕ → Bool
  pub faults : ℕ

-- what had been asked of the file's source before
abbrev pub first_asked : UnionParts → List ℕ
first_asked u = take (length u.inner.asked - length u.inner_asked) u.inner.asked

-- It as a source. A caller that lends a source is told of its state alone; so the state says which source it stands over:
-- by what it holds past all segments, and by what stands before the ids that were asked of it.
abbrev pub union_state : UnionParts → SourceState
union_state u = record {
  holds = option_map (beside u.behind) u.inner.holds;
  asked = marks u.before (first_asked u) (map (λ b. code_of (inner_id b)) u.behind) ++ u.asked;
  live = u.live;
  faults = u.faults;
  turns = u.inner.turns;
  can_fail = u.inner.can_fail;
}
