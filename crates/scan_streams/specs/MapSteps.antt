-- What a scan makes of the arrays that it gives.
use Rattle.std.specs.Prelude.{Result, Ok, Err, ◌⊎◌}
use Rattle.scan_values.specs.Arrays.{ArrayData}

-- what two steps answer, one after the other: a fault of the first, or what the second answers of what the first gives
abbrev pub ThenAnswers : {A B F : Type 0} → (Result A F → Type 0) → (A → Result B F → Type 0) → Result B F → Type 0
ThenAnswers {A} first second (Ok b) = (a : A) × (first (Ok a) × second a (Ok b))
ThenAnswers {A} first second (Err f) = first (Err f) ⊎ ((a : A) × (first (Ok a) × second a (Err f)))

-- a function may be called on all that a step answers of any array
abbrev pub TakesAnswers : {A F : Type 0} → (ArrayData → Result A F → Type 0) → (A → Type 0) → Type 0
TakesAnswers {A} answers takes = (a : ArrayData) (x : A) → answers a (Ok x) → takes x

-- a step, and the function that is called on what it makes
pub record MappedData (M G : Type 0) : Type 0 where
  pub step : M
  pub then : G

abbrev pub mapped_data : {M G : Type 0} → M → G → MappedData M G
mapped_data m g = record { step = m; then = g }
