-- What a poll gives of an entry.
use Rattle.std.proofs.Common.{◌≡◌, ℕ, [], true, Option, Some, None, Result, Ok, Err, OnOk, is_some, refl, ◌∙◌}
use Rattle.scan_sharing.specs.declared.holder.SharedAnswer.{SharedAnswer}
use Rattle.scan_sharing.specs.declared.holder.SharedPolled.{SharedPolled}
use Rattle.scan_sharing.specs.declared.holder.SharedPolled.TheVariants.{Pending, Bytes, Missing, Failed, NoMemory}
use Rattle.scan_segments.specs.Source.{SourceState, Begins}
use Rattle.scan_sharing.specs.Sharing.{Held, is_live, answer_of}
use Rattle.scan_sharing.specs.SharedTables.{Asks, Gives, IsOpen}

pub gives_kept : (e : Option (Held SharedAnswer)) (a : SharedAnswer) (r : SharedPolled) → answer_of e ≡ Some a → Gives (Some (record { holders = []; answer = Some a })) r → Gives e r
gives_kept e a Pending is g = absurd (cc)
gives_kept e a (Bytes b) is g = is ∙ g
gives_kept e a Missing is g = is ∙ g
gives_kept e a (Failed n) is g = is ∙ g
gives_kept e a NoMemory is g = tt

pub gives_open : (old new : SourceState) (e : Option (Held SharedAnswer)) (r : SharedPolled) → is_live e ≡ true → IsOpen old new r → Gives e r
gives_open old new e Pending is p = is
gives_open old new e (Bytes b) is p = absurd p
gives_open old new e Missing is p = absurd p
gives_open old new e (Failed n) is p = absurd p
gives_open old new e NoMemory is p = tt

-- an id that has an entry is not asked
pub asks_there : (e : Option (Held SharedAnswer)) (id : ℕ) (s : SourceState) → is_some e ≡ true → Asks e id s s
asks_there None id s h = absurd (cc)
asks_there (Some e) id s h = refl

-- one that has none is
pub asks_new : {U N : Type 0} (r : Result U N) (e : Option (Held SharedAnswer)) (id : ℕ) (old new : SourceState) → e ≡ None → OnOk r (Begins id old new) → OnOk r (Asks e id old new)
asks_new (Ok u) e id old new none b = rw none b
asks_new (Err x) e id old new none b = tt
