-- What a recursive type owns and shares is not tied to a thread, where the step that makes it keeps that.
use Prim.Native.Nat.{ℕ, zero, suc, ◌+◌}
use mathlib.Core.Bool.{Bool, true, false}
use mathlib.Core.List.{List}
use mir.Val.{Val}
use base.Fml.{Lft}
use base.Shift.{Keyless}
use denote.Exit.{Last, left, if_kept, unchanged, unseen}
use denote.Param.Send.{IsSend, IsSync}
use denote.Model.Local.{Frame, Part, Parts, rows}
use denote.Model.Knot.{stage, tied}

abbrev pub Loose : Part → Type 0
Loose u = ((vs : List Val) → Keyless (u.0 vs)) × ((b o : ℕ) (κ : Lft) → Keyless (u.1 b o κ))

quiet : {D : Type 0} (b : Bool) (y : D) (w : Last (if_kept {D = D} b unchanged unseen) y) → Keyless (left (if_kept {D = D} b unchanged unseen) y w)
quiet true y w = tt
quiet false y w = tt

module _ {I : Type 0} (K : Frame I) where
  pub rows_send : (p : Parts K) → ((j : I) (y : K.D j) → Loose (p j y)) → (j : I) → IsSend (rows K p j)
  rows_send p h j = record { owned = λ y vs. (h j y).0 vs; leaving = λ k y w. quiet K.shown y w }

  pub rows_sync : (p : Parts K) → ((j : I) (y : K.D j) → Loose (p j y)) → (j : I) → IsSync (rows K p j)
  rows_sync p h j = record { shared = λ y b o κ. (h j y).1 b o κ }

  module _ (S : Parts K → Parts K) where
    stage_loose : ((p : Parts K) → ((j : I) (y : K.D j) → Loose (p j y)) → (i : I) (d : K.D i) → Loose (S p i d)) → (n : ℕ) (i : I) (d : K.D i) → Loose (stage K S n i d)
    stage_loose h zero i d = (λ vs e. absurd e, λ b o κ e. absurd e)
    stage_loose h (suc n) i d = h (stage K S n) (stage_loose h n) i d

    pub tied_loose : (size : (i : I) → K.D i → ℕ) → ((p : Parts K) → ((j : I) (y : K.D j) → Loose (p j y)) → (i : I) (d : K.D i) → Loose (S p i d)) → (i : I) (d : K.D i) → Loose (tied K S size i d)
    tied_loose size h i d = stage_loose h (size i d + 1) i d
