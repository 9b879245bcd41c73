-- Seats of which nothing is out between phases.
use Rattle.std.proofs.Common.{◌≡◌, List, Result, Ok, Err, IfOk, ◌∙◌, refl, sym, subst}
use Rattle.scan_drive.specs.declared.rounds.Wait.{Wait}
use Rattle.scan_drive.specs.declared.rounds.Wait.TheVariants as wait

-- where rounds have stopped no opener has answered
pub never_opened : {E : Type 0} (r : Result Wait E) (X : Wait → Type 0) (Free : Type 0) → IfOk r (λ w. (w ≡ wait.Stopped) × X w) → IfOk r (λ w. w ≡ wait.Opened → Free)
never_opened (Ok w) X Free h = λ e. let bad : wait.Stopped ≡ wait.Opened = sym h.0 ∙ e in absurd cc
never_opened (Err e) X Free h = tt

-- an opener has answered
pub opened_free : (w : Wait) (Free : Type 0) → w ≡ wait.Opened → (w ≡ wait.Opened → Free) → Free
opened_free w Free e h = h e
