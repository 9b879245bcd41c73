-- Requests that failed, and the splits that were given up for them.
use Rattle.std.specs.Prelude.{◌≡◌, ℕ, Bool, true, ◌||◌, List}
use Rattle.scan_segments.specs.Source.{SourceState}
use Rattle.scan_drive.specs.Ledger.{KeepsBalance, FilesKeepBalance}
use Rattle.scan_drive.specs.Slots.{slot_at, is_halted}
use Rattle.scan_drive.specs.Wants.{Cache}
use Rattle.scan_drive.specs.declared.files.ScanFile.{ScanFile}
use Rattle.scan_drive.specs.declared.report.ScanReport.{ScanReport}
use Rattle.scan_drive.specs.declared.slot.Slot.{Slot}

module _ {W R : Type 0} where
  -- a split has been given up
  pub record HasHalted (slots : List (Slot W R)) : Type 0 where
    pub place : ℕ
    pub halted : is_halted (slot_at slots place).stage ≡ true

  -- splits that have been given up stay so
  abbrev pub HaltsStay : List (Slot W R) → List (Slot W R) → Type 0
  HaltsStay old new = (place : ℕ) → is_halted (slot_at old place).stage ≡ true → is_halted (slot_at new place).stage ≡ true

  -- Polls of a source keep the counts, but for requests that failed. Where one did, a split has been given up.
  pub record KeepsCounts (name : List ℕ) (s t : SourceState) (c d : Cache) (slots : List (Slot W R)) : Type 0 where
    pub failed : Bool
    pub keeps : (report : ScanReport) (lost : Bool) → KeepsBalance name s t c d report report lost (failed || lost)
    pub halted : failed ≡ true → HasHalted slots

module _ {O S W R : Type 0} (source : S → SourceState) where
  -- the same of the sources of files
  pub record FilesKeepCounts (old new : List (ScanFile O S)) (c d : Cache) (slots : List (Slot W R)) : Type 0 where
    pub failed : Bool
    pub keeps : (report : ScanReport) (lost : Bool) → FilesKeepBalance source old new c d report report lost (failed || lost)
    pub halted : failed ≡ true → HasHalted slots

  -- Calls of the sources of files and of a cache keep the ledger and the counts, but for requests that failed. Where one did, a split has been given up.
  pub record FilesBalance (old new : List (ScanFile O S)) (c d : Cache) (report after : ScanReport) (slots : List (Slot W R)) : Type 0 where
    pub failed : Bool
    pub keeps : (lost : Bool) → FilesKeepBalance source old new c d report after lost (failed || lost)
    pub halted : failed ≡ true → HasHalted slots
