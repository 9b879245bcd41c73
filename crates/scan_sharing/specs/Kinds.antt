-- The kinds of answers: a table that keeps kinds alone.
use Rattle.std.specs.Prelude.{ℕ, List, [], ◌∷◌, Option, Some, None, option_map}
use Rattle.scan_sharing.specs.declared.holder.SharedAnswer.{SharedAnswer}
use Rattle.scan_sharing.specs.declared.holder.SharedAnswer.TheVariants as answer
use Rattle.scan_sharing.specs.declared.holder.SharedKind.{SharedKind}
use Rattle.scan_sharing.specs.declared.holder.SharedKind.TheVariants.{Bytes, Missing, Failed}
use Rattle.scan_sharing.specs.declared.holder.SharedEvent.{SharedEvent}
use Rattle.scan_sharing.specs.declared.holder.SharedEvent.TheVariants.{Arrived}
use Rattle.scan_sharing.specs.Sharing.{Held, answer_of}

abbrev pub kind_of : SharedAnswer → SharedKind
kind_of (answer.Bytes b) = Bytes
kind_of answer.Missing = Missing
kind_of (answer.Failed n) = Failed n

-- the kind of the answer that an entry keeps
abbrev pub kind_in : Option (Held SharedAnswer) → Option SharedKind
kind_in e = option_map kind_of (answer_of e)

-- an entry with each answer read as its kind
abbrev pub kinds : Option (Held SharedAnswer) → Option (Held SharedKind)
kinds e = option_map (λ h. record { holders = h.holders; answer = option_map kind_of h.answer }) e

-- the kind that has come, where none was before
abbrev pub came : Option SharedKind → Option SharedKind → Option SharedKind
came None now = now
came (Some k) now = None

-- the event of an arrival, where there was one
abbrev pub arrival : ℕ → Option SharedKind → List (SharedEvent SharedKind)
arrival id None = []
arrival id (Some k) = Arrived id k ∷ []
