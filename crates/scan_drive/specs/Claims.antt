-- Rows of a limit in no order that splits claim before they are read.
use Rattle.std.specs.Prelude.{◌≡◌, ◌≤◌, ◌-◌, ℕ, Bool, false, Option, None, Some, length, nat_lt}
use Rattle.scan_segments.specs.Source.{Store}
use Rattle.scan_drive.specs.Splits.{SplitState}
use Rattle.scan_drive.specs.declared.phase.Unclaimed.{Unclaimed}

-- splits claim rows before they are read, and have claimed all
abbrev pub AreClaimed : Option Unclaimed → Type 0
AreClaimed None = ⊥
AreClaimed (Some u) = u.rows ≡ 0

-- the last split that became active has claimed more rows than were left
abbrev pub is_cut : Option Unclaimed → Bool
is_cut None = false
is_cut (Some u) = u.cut

module _ {W I : Type 0} (split : W → SplitState I) where
  -- a split has claimed as many rows as it gives at most
  pub record ClaimsMost (work : W) (old new : Unclaimed) : Type 0 where
    pub most : ℕ
    pub enough : (store : Store) → length ((split work).rows store) ≤ most
    pub claimed : new ≡ record { rows = old.rows - most; cut = nat_lt old.rows most }

  -- so it has, where splits claim rows before they are read
  abbrev pub MayClaimMost : W → Option Unclaimed → Option Unclaimed → Type 0
  MayClaimMost work None new = new ≡ None
  MayClaimMost work (Some u) None = ⊥
  MayClaimMost work (Some u) (Some v) = ClaimsMost work u v
