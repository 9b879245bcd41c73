-- Up to which file openers are polled: so that no more files are unfinished than there are workers.
use Rattle.std.specs.Prelude.{◌≡◌, ◌<◌, ◌≤◌, ◌+◌, ◌⊎◌, ℕ, Bool, true, false, List, length}
use Rattle.scan_values.specs.Selections.{is_among}
use Rattle.scan_drive.specs.Before.{IsDone}
use Rattle.scan_drive.specs.Slots.{slot_at}
use Rattle.scan_drive.specs.declared.slot.Slot.{Slot}

module _ {W R : Type 0} where
  -- in order these are the files from the front on
  pub record FollowsFront (workers : ℕ) (turns : List ℕ) (slots : List (Slot W R)) (first last : ℕ) : Type 0 where
    pub done : ℕ
    pub is_done : IsDone turns slots first done
    pub most : last ≤ done + workers

  -- no more files than these below one have active splits
  pub record AreBusy (turns : List ℕ) (slots : List (Slot W R)) (first n : ℕ) : Type 0 where
    pub busy : List ℕ
    pub as_many : length busy ≡ n
    pub all : (place : ℕ) → is_among turns place ≡ true → (first ≤ (slot_at slots place).file) ⊎ (is_among busy (slot_at slots place).file ≡ true)

  -- in no order these are the ones below the first with splits left that have active splits, and those from it on
  pub record FreesPlaces (workers : ℕ) (turns : List ℕ) (slots : List (Slot W R)) (first last : ℕ) : Type 0 where
    pub unfinished : ℕ
    pub are_busy : AreBusy turns slots first unfinished
    pub most : first < last → last + unfinished ≤ first + workers

  abbrev pub IsWindow : Bool → ℕ → List ℕ → List (Slot W R) → ℕ → ℕ → Type 0
  IsWindow true workers turns slots first last = FollowsFront workers turns slots first last
  IsWindow false workers turns slots first last = FreesPlaces workers turns slots first last
