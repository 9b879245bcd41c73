-- A source after some calls.
use Rattle.std.specs.Prelude.{◌≡◌, ◌≤◌, ◌⊎◌, ◌++◌, ℕ, List, true}
use Rattle.scan_values.specs.Selections.{is_among}
use Rattle.scan_segments.specs.Source.{SourceState}

-- what it holds stays, only ids that may be were asked, and only those or what was live is live now, its faults do not fall
-- and its turns do not rise
pub record SourceMoves (May : ℕ → Type 0) (old new : SourceState) : Type 0 where
  pub holds : new.holds ≡ old.holds
  pub ids : List ℕ
  pub asked : new.asked ≡ old.asked ++ ids
  pub may : (id : ℕ) → is_among ids id ≡ true → May id
  pub live : (id : ℕ) → new.live id ≡ true → (old.live id ≡ true) ⊎ (is_among ids id ≡ true)
  pub faults : old.faults ≤ new.faults
  pub turns : new.turns ≤ old.turns
  pub can_fail : new.can_fail ≡ old.can_fail

-- no id may be asked
abbrev pub NoId : ℕ → Type 0
NoId id = ⊥
