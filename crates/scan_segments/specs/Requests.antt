-- The requests of a source.
use Rattle.std.specs.Prelude.{ℕ, List, [], ◌∷◌, ◌++◌, Bool, Option}
use Rattle.std.specs.Ordering.{nat_cmp}
use Rattle.std.specs.BTreeMap.{is_at}
use Rattle.std.specs.BTreeSet.{insert_key}
use Rattle.std.specs.Set.{remove_key}
use Rattle.scan_segments.specs.Source.{Store, SourceState, has}

pub record Requested : Type 0 where
  -- each id that was asked, in order
  pub asked : List ℕ
  -- the ids with a request that has not ended, rising
  pub live : List ℕ

-- whether the id has a request that has not ended
abbrev pub is_live : Requested → ℕ → Bool
is_live r id = has id r.live

-- the request of an id begins
abbrev pub with_request : ℕ → Requested → Requested
with_request id r = record { asked = r.asked ++ id ∷ []; live = insert_key nat_cmp r.live id }

-- the request of an id ends
abbrev pub without_request : ℕ → Requested → Requested
without_request id r = record { asked = r.asked; live = remove_key (is_at (nat_cmp id)) r.live }

-- what contracts see of a source with these requests: what it holds, where it tells; how often it failed; how often it can
-- still put off an answer; and whether it can fail
abbrev pub source_of : Requested → Option Store → ℕ → ℕ → Bool → SourceState
source_of r holds faults turns can_fail = record {
  holds = holds;
  asked = r.asked;
  live = is_live r;
  faults = faults;
  turns = turns;
  can_fail = can_fail;
}
