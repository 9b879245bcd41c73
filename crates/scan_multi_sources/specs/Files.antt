-- How far files of a scan are.
use Rattle.std.specs.Prelude.{◌≡◌, ◌==◌, ◌&&◌, ℕ, zero, suc, Bool, true, false, refl}
use Rattle.std.specs.Coded.{Coded, code_by, coded×, coded⊎, coded_ℕ}
use mathlib.Core.Logic.{inl, inr, ◌⊎◌}
use Rattle.scan_layout.specs.Layout.{Layout}
use Rattle.scan_layout.specs.LayoutCode.{layout_code}

-- the opener of a file has not answered; its layout is there; or its opener failed, which is told in the file's turn
pub data StageData : Type 0 where
  opening : StageData
  opened : Layout → StageData
  failed : StageData

-- a file that was begun, by its place
pub record SlotData : Type 0 where
  pub place : ℕ
  pub stage : StageData

-- a file at a place, so far
abbrev pub slot_data : ℕ → StageData → SlotData
slot_data k s = record { place = k; stage = s }

-- a stage by a layout or a number
abbrev pub stage_parts : StageData → Layout ⊎ ℕ
stage_parts opening = inr zero
stage_parts (opened l) = inl l
stage_parts failed = inr (suc zero)

-- and back
abbrev pub stage_of : Layout ⊎ ℕ → StageData
stage_of (inl l) = opened l
stage_of (inr zero) = opening
stage_of (inr (suc n)) = failed

pub stage_again : (s : StageData) → stage_of (stage_parts s) ≡ s
stage_again opening = refl
stage_again (opened l) = refl
stage_again failed = refl

-- stages can be told from one another by numbers
abbrev pub stage_code : Coded StageData
stage_code = code_by (Layout ⊎ ℕ) (coded⊎ layout_code coded_ℕ) stage_parts stage_of stage_again

-- files that were begun likewise
abbrev pub slot_code : Coded SlotData
slot_code = code_by (ℕ × StageData) (coded× coded_ℕ stage_code) (λ s. (s.place, s.stage)) (λ p. slot_data p.0 p.1) (λ _. refl)

-- a failure of the opener at a place is kept
abbrev pub is_failed : StageData → Bool
is_failed opening = false
is_failed (opened l) = false
is_failed failed = true

-- the file at this place is kept as failed
abbrev pub keeps_failure : ℕ → SlotData → Bool
keeps_failure k s = is_failed s.stage && (s.place == k)
