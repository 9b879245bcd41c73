-- What a source of segments is, and what its calls do to it.
use Rattle.std.specs.Prelude.{◌≡◌, ℕ, ◌≤◌, List, [], ◌∷◌, ◌++◌, Bool, true, false, cond, nat_eq, Option, None, Some, filter, not, ◌==◌, IfSome}
use Rattle.std.specs.List.{list_any}

-- the bytes of each segment that there is
abbrev pub Store : Type 0
Store = ℕ → Option (List ℕ)

-- what a source is, as far as contracts see it
pub record SourceState : Type 0 where
  -- what it holds, where it tells
  pub holds : Option Store
  -- each id that was asked of it, in order
  pub asked : List ℕ
  -- which ids have a request that has not ended; an id has at most one
  pub live : ℕ → Bool
  -- how often it failed, up to the greatest number that is kept
  pub faults : ℕ
  -- at most so often it can still put off an answer
  pub turns : ℕ
  -- whether any of its polls can fail
  pub can_fail : Bool

-- the list without this number
abbrev pub without : ℕ → List ℕ → List ℕ
without id ids = filter (λ k. not (k == id)) ids

-- no id is live
abbrev pub none_live : ℕ → Bool
none_live k = false

-- this id is live too
abbrev pub with_live : ℕ → (ℕ → Bool) → ℕ → Bool
with_live id live k = cond (nat_eq k id) true (live k)

-- this id is no longer live
abbrev pub without_live : ℕ → (ℕ → Bool) → ℕ → Bool
without_live id live k = cond (nat_eq k id) false (live k)

-- the request of an id begins
pub record Begins (id : ℕ) (old new : SourceState) : Type 0 where
  pub holds : new.holds ≡ old.holds
  pub asked : new.asked ≡ old.asked ++ id ∷ []
  pub live : new.live ≡ with_live id old.live
  pub faults : old.faults ≤ new.faults
  pub turns : new.turns ≤ old.turns
  pub can_fail : new.can_fail ≡ old.can_fail

-- nothing is asked and no request begins or ends
pub record Stays (old new : SourceState) : Type 0 where
  pub holds : new.holds ≡ old.holds
  pub asked : new.asked ≡ old.asked
  pub live : new.live ≡ old.live
  pub faults : old.faults ≤ new.faults
  pub turns : new.turns ≤ old.turns
  pub can_fail : new.can_fail ≡ old.can_fail

-- the request of an id ends
pub record Ends (id : ℕ) (old new : SourceState) : Type 0 where
  pub holds : new.holds ≡ old.holds
  pub asked : new.asked ≡ old.asked
  pub live : new.live ≡ without_live id old.live
  pub faults : old.faults ≤ new.faults
  pub turns : new.turns ≤ old.turns
  pub can_fail : new.can_fail ≡ old.can_fail

-- a told store has these bytes at the id
abbrev pub TellsBytes : SourceState → ℕ → List ℕ → Type 0
TellsBytes s id bytes = IfSome s.holds (λ store. store id ≡ Some bytes)

-- a told store has nothing at the id
abbrev pub TellsNone : SourceState → ℕ → Type 0
TellsNone s id = IfSome s.holds (λ store. store id ≡ None)

-- the number is among these
abbrev pub has : ℕ → List ℕ → Bool
has n ns = list_any (λ x. nat_eq x n) ns
