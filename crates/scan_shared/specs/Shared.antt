-- What contracts see of a shared array, and what its calls give.
use Rattle.std.specs.Prelude.{◌≡◌, ℕ, ◌⊎◌, Option, Some, None, Result, Ok, Err, IfSome, refl}
use Rattle.std.proofs.Common.{inl, inr}
use Rattle.std.specs.Coded.{Coded, code_by, coded×, coded⊎, coded_ℕ}
use denote.Ref.{Bor}
use Rattle.scan_values.specs.Arrays.{ArrayData, array_code}
use Rattle.scan_shared.specs.declared.array.SharedPoll.{SharedPoll}
use Rattle.scan_shared.specs.declared.array.SharedPoll.TheVariants.{Pending, Done}

-- the source, and which array it is
pub record SharedData : Type 0 where
  pub source : ArrayData
  pub cell : ℕ

abbrev pub shared_data_code : Coded SharedData
shared_data_code = code_by (ArrayData × ℕ) (coded× array_code coded_ℕ) (λ s. (s.source, s.cell)) (λ p. record { source = p.0; cell = p.1 }) (λ _. refl)

-- a note that knew an answer knows it still
abbrev pub Remembers : {E : Type 0} → Option (Result ArrayData E) → Option (Result ArrayData E) → Type 0
Remembers before after = IfSome before (λ answer. after ≡ Some answer)

-- the computed array, or the source where nothing or a fault is known
abbrev pub array_of : {E : Type 0} → ArrayData → Option (Result ArrayData E) → ArrayData
array_of source None = source
array_of source (Some (Ok a)) = a
array_of source (Some (Err e)) = source

-- the answer that is lent
abbrev pub answer_of : {E : Type 0} → Result (Bor ArrayData) (Bor E) → Result ArrayData E
answer_of (Ok a) = Ok a.now
answer_of (Err e) = Err e.now

-- done: the answer is the one that the note knows. Pending: nothing was known, nothing is, and the caller's closure gave no answer
abbrev pub Polls : {E : Type 0} → Option (Result ArrayData E) → Option (Result ArrayData E) → Type 0 → SharedPoll E → Type 0
Polls before after Waited Pending = (before ≡ None) × (after ≡ None) × Waited
Polls before after Waited (Done r) = after ≡ Some (answer_of r)

-- as far as the poll is done, its answer has this fact
abbrev pub IfDone : {E : Type 0} → (Result ArrayData E → Type 0) → SharedPoll E → Type 0
IfDone P Pending = Unit {0}
IfDone P (Done r) = P (answer_of r)

-- the caller's closure gave some answer
abbrev pub Gave : {E : Type 0} → (Result ArrayData E → Type 0) → Type 0
Gave {E} gives = (answer : Result ArrayData E) × gives answer

-- how an answer is kept
abbrev pub answer_parts : {E : Type 0} → Result ArrayData E → ArrayData ⊎ E
answer_parts (Ok a) = inl a
answer_parts (Err e) = inr e

abbrev pub answer_by : {E : Type 0} → ArrayData ⊎ E → Result ArrayData E
answer_by (inl a) = Ok a
answer_by (inr e) = Err e

abbrev pub answer_again : {E : Type 0} → (r : Result ArrayData E) → answer_by (answer_parts r) ≡ r
answer_again (Ok a) = refl
answer_again (Err e) = refl

abbrev pub answer_code : {E : Type 0} → Coded E → Coded (Result ArrayData E)
answer_code {E} e = code_by (ArrayData ⊎ E) (coded⊎ array_code e) answer_parts answer_by answer_again
