-- What a script says of the next call.
use Rattle.std.specs.Prelude.{ℕ, List, Option, None, Some, if◌then◌else◌}
use Rattle.scan_values.specs.Selections.{is_among}
use Rattle.scan_segments.specs.Script.{ScriptState}
use Rattle.scan_segments.specs.declared.script.Outcome.{Outcome}
use Rattle.scan_segments.specs.declared.script.Outcome.TheVariants.{Goes, Waits, Fails}

abbrev pub outcome_at : Option ℕ → List ℕ → List ℕ → Outcome
outcome_at None failing pending = Goes
outcome_at (Some k) failing pending = if is_among failing k then Fails else (if is_among pending k then Waits else Goes)

abbrev pub outcome_of : ScriptState → Outcome
outcome_of s = outcome_at s.next s.failing s.pending
