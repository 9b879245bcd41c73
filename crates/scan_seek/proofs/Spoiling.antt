-- What is no good for a projection has arrived.
use Rattle.std.proofs.Common.{◌≡◌, ℕ, Bool, true, false, is_none}
use Rattle.scan_plans.specs.Came.{Came}
use Rattle.scan_plans.specs.Futures.{FutureData, future_spoiled}
use Rattle.scan_file.proofs.Arriving.{future_bad_here}

pub spoiled_here : (f : FutureData) (here : Came) (id : ℕ) → future_spoiled f here id ≡ true → is_none (here id) ≡ false
spoiled_here f here id h = future_bad_here f here id h
