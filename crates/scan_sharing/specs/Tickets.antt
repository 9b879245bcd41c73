-- What the calls of a locked source answer.
use Rattle.std.specs.Prelude.{◌≡◌, ℕ, List, Option, Some, true}
use Rattle.scan_sharing.specs.declared.holder.SharedAnswer.{SharedAnswer}
use Rattle.scan_sharing.specs.declared.holder.SharedAnswer.TheVariants as answer
use Rattle.scan_sharing.specs.declared.holder.SharedPolled.{SharedPolled}
use Rattle.scan_sharing.specs.declared.holder.SharedPolled.TheVariants as shared
use Rattle.scan_sharing.specs.declared.holder.TicketPolled.{TicketPolled}
use Rattle.scan_sharing.specs.declared.holder.TicketPolled.TheVariants.{Pending, Bytes, Missing, Failed, NoMemory, NotHeld}
use Rattle.scan_sharing.specs.Sharing.{Held, answer_of, is_live}

-- what a poll of the table is as a poll of a ticket
abbrev pub ticket_of : SharedPolled → TicketPolled
ticket_of shared.Pending = Pending
ticket_of (shared.Bytes b) = Bytes b
ticket_of shared.Missing = Missing
ticket_of (shared.Failed n) = Failed n
ticket_of shared.NoMemory = NoMemory

-- a poll gives the answer that is kept, and is pending only while there is none
abbrev pub GivesTicket : Option (Held SharedAnswer) → TicketPolled → Type 0
GivesTicket e Pending = is_live e ≡ true
GivesTicket e (Bytes b) = answer_of e ≡ Some (answer.Bytes b)
GivesTicket e Missing = answer_of e ≡ Some answer.Missing
GivesTicket e (Failed n) = answer_of e ≡ Some (answer.Failed n)
GivesTicket e NoMemory = Unit {0}
GivesTicket e NotHeld = Unit {0}

-- bytes that are given are such as the type of the source states of the id
abbrev pub HasFit : (ℕ → List ℕ → Type 0) → ℕ → TicketPolled → Type 0
HasFit fits id Pending = Unit {0}
HasFit fits id (Bytes b) = fits id b
HasFit fits id Missing = Unit {0}
HasFit fits id (Failed n) = Unit {0}
HasFit fits id NoMemory = Unit {0}
HasFit fits id NotHeld = Unit {0}
