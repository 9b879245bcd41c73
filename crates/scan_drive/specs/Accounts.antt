-- What a round does to the ledger and the counts of a scan.
use Rattle.std.specs.Prelude.{◌≡◌, ◌<◌, ℕ, false, List, length, Option, None}
use Rattle.scan_segments.specs.Source.{SourceState}
use Rattle.scan_drive.specs.Desks.{Waiters, HasWaiter}
use Rattle.scan_drive.specs.Drives.{desk_at, EachLinked}
use Rattle.scan_drive.specs.Losses.{HaltsStay, FilesBalance}
use Rattle.scan_drive.specs.Slots.{slot_at, is_halted}
use Rattle.scan_drive.specs.Wants.{Cache}
use Rattle.scan_drive.specs.declared.files.ScanFile.{ScanFile}
use Rattle.scan_drive.specs.declared.round.Drive.{Drive}
use Rattle.scan_drive.specs.declared.rounds.Round.{Round}
use Rattle.scan_drive.specs.declared.rounds.Round.TheVariants as round
use Rattle.scan_drive.specs.declared.slot.Slot.{Slot}

module _ {W R : Type 0} where
  -- no split has been given up, and none waits at a desk
  pub record AllServed (desks : List Waiters) (slots : List (Slot W R)) : Type 0 where
    pub halts : (place : ℕ) → is_halted (slot_at slots place).stage ≡ false
    pub waits : (k : ℕ) → k < length desks → HasWaiter (desk_at desks k) → ⊥

  -- the same at the desks that these splits wait at
  abbrev pub RunsOut : List (Slot W R) → Type 0
  RunsOut slots = (desks : List Waiters) → EachLinked desks slots → AllServed desks slots

module _ {O S W R F : Type 0} (source : S → SourceState) where
  -- a round that others follow keeps them, and splits that were given up stay so; the last one asks for nothing
  abbrev pub RoundKeeps : List (ScanFile O S) → List (ScanFile O S) → Cache → Cache → Drive W R F → Drive W R F → Round → Type 0
  RoundKeeps files files' c d old new round.More = HaltsStay old.active.slots.items new.active.slots.items
      × FilesBalance source files files' c d old.report new.report new.active.slots.items
  RoundKeeps files files' c d old new round.Opened = HaltsStay old.active.slots.items new.active.slots.items
      × FilesBalance source files files' c d old.report new.report new.active.slots.items
  RoundKeeps files files' c d old new round.Done = FilesBalance source files files' c d old.report new.report old.active.slots.items

  -- rounds up to the last keep them; without a limit all splits are served then
  pub record RunEnds (limit : Option ℕ) (files files' : List (ScanFile O S)) (desks : List Waiters) (c d : Cache) (old new : Drive W R F) : Type 0 where
    pub slots : List (Slot W R)
    pub stay : HaltsStay old.active.slots.items slots
    pub balance : FilesBalance source files files' c d old.report new.report slots
    pub served : limit ≡ None → AllServed desks slots

  -- what rounds do to them
  abbrev pub RunKeeps : Option ℕ → List (ScanFile O S) → List (ScanFile O S) → List Waiters → Cache → Cache → Drive W R F → Drive W R F → Round → Type 0
  RunKeeps limit files files' desks c d old new round.More = Unit {0}
  RunKeeps limit files files' desks c d old new round.Opened =
      HaltsStay old.active.slots.items new.active.slots.items × FilesBalance source files files' c d old.report new.report new.active.slots.items
  RunKeeps limit files files' desks c d old new round.Done = RunEnds limit files files' desks c d old new
