-- Writes into memory, by the outcome of their script.
use Rattle.std.proofs.Common.{◌≡◌, ◌≢◌, ℕ, List, ◌++◌, take, length, true, refl, sym, ap, inl}
use Rattle.std.proofs.Math.Seq.{take-length}
use Rattle.scan_segments.specs.declared.script.Outcome.{Outcome}
use Rattle.scan_segments.specs.declared.script.Outcome.TheVariants.{Goes, Waits, Fails}
use Rattle.scan_run.specs.declared.output.OutputWrite.TheVariants as output
use Rattle.scan_segments.specs.Outcomes.{outcome_of}
use Rattle.scan_segments.specs.Script.{ScriptState, has_number}
use Rattle.scan_segments.proofs.Moves.{can_fail}
use Rattle.scan_run.specs.Memory.{IsWriteBy}

-- a script by which a call fails can fail
pub fails_able : (s : ScriptState) → outcome_of s ≡ Fails → has_number s.failing ≡ true
fails_able s h = can_fail s h

pub took_all : (before bytes : List ℕ) → before ++ bytes ≡ before ++ take (length bytes) bytes
took_all before bytes = ap (λ xs. before ++ xs) (sym (take-length bytes))

pub taken_by : (o : Outcome) (n : ℕ) → o ≢ Fails → IsWriteBy o n (output.Took n)
taken_by Goes n h = inl refl
taken_by Waits n h = inl refl
taken_by Fails n h = absurd (h refl)
