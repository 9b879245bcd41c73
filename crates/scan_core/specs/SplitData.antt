-- What a split of a scan is.
use Rattle.std.specs.Prelude.{refl}
use Rattle.std.specs.Coded.{Coded, code_by, coded×}
use Rattle.scan_plans.specs.Futures.{FutureData, future_code}

-- the array of a split, and what is made of it
pub record SplitData (M : Type 0) : Type 0 where
  pub future : FutureData
  pub step : M

abbrev pub with_step : {M : Type 0} → FutureData → M → SplitData M
with_step f m = record { future = f; step = m }

abbrev pub split_code : {M : Type 0} → Coded M → Coded (SplitData M)
split_code {M} m = code_by (FutureData × M) (coded× future_code m) (λ a. (a.future, a.step)) (λ p. record { future = p.0; step = p.1 }) (λ _. refl)
