-- Closures that do work.
use denote.Ref.{MutBor}
use denote.Param.Members.{Shared}

-- it may be called with any work, and does what that comes to
pub record Does {F T : Type 0} (g : Shared F (MutBor T × Unit {0}) (Unit {0} × (MutBor T × Unit {0}))) (f : F) (done : T → T → Type 0) : Type 0 where
  pub callable : (x : MutBor T) → g.pre f (x, tt)
  pub does : (x x' : MutBor T) → g.post f (x, tt) (tt, (x', tt)) → done x.now x'.now
