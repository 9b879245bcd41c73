-- What is given, in turn and up to a limit.
use Rattle.std.specs.Prelude.{◌≡◌, ◌≢◌, ◌<◌, ◌≤◌, ◌+◌, ◌++◌, ℕ, Bool, true, List, [], All, length, take, Option, None, Some, option_map}
use Rattle.std.specs.List.{flat_map}
use Rattle.scan_segments.specs.Source.{Store}
use Rattle.scan_splits.specs.Arrivals.{Arrivals}
use Rattle.scan_drive.specs.Actives.{IsHalted, AllOk, groups_left}
use Rattle.scan_drive.specs.Drives.{FilesWithin}
use Rattle.scan_drive.specs.Files.{Group, grouped, count, Told, told_at, AllTell, IfTold}
use Rattle.scan_drive.specs.Grants.{AreSame, AreGiven}
use Rattle.scan_drive.specs.Order.{KeepsOrder}
use Rattle.scan_drive.specs.Splits.{SplitState, Event}
use Rattle.scan_drive.specs.declared.active.Active.{Active}
use Rattle.scan_drive.specs.declared.delivery.Chunk.{Chunk}
use Rattle.scan_drive.specs.declared.delivery.Delivered.{Delivered}
use Rattle.scan_drive.specs.declared.delivery.Delivered.TheVariants.{More, Full}
use Rattle.scan_drive.specs.declared.delivery.DriveFault.{DriveFault}
use Rattle.scan_drive.specs.declared.delivery.DriveFault.TheVariants as fault
use Rattle.scan_drive.specs.declared.slot.Halt.{Halt}
use Rattle.scan_drive.specs.declared.slot.Halt.TheVariants as halt
use Rattle.scan_drive.specs.declared.slot.Slot.{Slot}

-- how many rows may be given in all, by those that are given and those that are left
abbrev pub limit_of : ℕ → Option ℕ → Option ℕ
limit_of given left = option_map (λ n. given + n) left

-- a row may be given
abbrev pub HasRoom : Option ℕ → Type 0
HasRoom None = Unit {0}
HasRoom (Some n) = 0 < n

-- so many rows may be given, and more after them
abbrev pub Fits : ℕ → Option ℕ → Type 0
Fits n None = Unit {0}
Fits n (Some left) = n < left

-- why a split is given up, as the fault of a scan
abbrev pub fault_of : ℕ → Halt → DriveFault
fault_of file (halt.Source id) = fault.Source file id
fault_of file (halt.Corrupt id) = fault.Corrupt file id
fault_of file halt.Overflow = fault.Overflow file
fault_of file halt.NoMemory = fault.NoMemory

module _ {I R : Type 0} (items : R → List I) where
  -- the group that a chunk gives: none where it has no row
  abbrev pub chunk_groups : Chunk R → List (Group I)
  chunk_groups c = grouped c.file (items c.rows)

  -- the groups that chunks give
  abbrev pub given : List (Chunk R) → List (Group I)
  given chunks = flat_map chunk_groups chunks

  -- it has a row
  abbrev pub HasRow : Chunk R → Type 0
  HasRow c = items c.rows ≢ []

  -- where each chunk had a row, each has one
  abbrev pub KeepsRows : List (Chunk R) → List (Chunk R) → Type 0
  KeepsRows old new = All HasRow old → All HasRow new

  -- no more rows are given than the limit allows, and one may be given still
  pub record Counts (chunks chunks' : List (Chunk R)) (left left' : Option ℕ) : Type 0 where
    pub limit : limit_of (count (given chunks')) left' ≡ limit_of (count (given chunks)) left
    pub room : HasRoom left'

  -- all rows of a split are given, and more may be
  pub record GivesAll (file : ℕ) (rows : List I) (chunks chunks' : List (Chunk R)) (left left' : Option ℕ) : Type 0 where
    pub groups : given chunks' ≡ given chunks ++ grouped file rows
    pub counts : Counts chunks chunks' left left'

  -- the first rows of a split are given, and the limit is met
  pub record GivesFirst (file : ℕ) (rows : List I) (chunks chunks' : List (Chunk R)) (left : Option ℕ) : Type 0 where
    pub most : ℕ
    pub was : left ≡ Some most
    pub within : most ≤ length rows
    pub groups : given chunks' ≡ given chunks ++ grouped file (take most rows)

  -- what is given, by whether more may be
  abbrev pub Gives : ℕ → List I → List (Chunk R) → List (Chunk R) → Option ℕ → Option ℕ → Delivered → Type 0
  Gives file rows chunks chunks' left left' More = GivesAll file rows chunks chunks' left left'
  Gives file rows chunks chunks' left left' Full = GivesFirst file rows chunks chunks' left

-- where the file is told, this is why a split of it is given up
abbrev pub IsCause : {I : Type 0} → List (Told I) → DriveFault → Type 0
IsCause tale fault.NoMemory = Unit {0}
IsCause tale (fault.Source file id) = Unit {0}
IsCause tale (fault.Corrupt file id) = IfTold (told_at tale file) (λ p store. p.bad store id ≡ true)
IsCause tale (fault.Overflow file) = IfTold (told_at tale file) (λ p store. p.overflow store ≡ true)

-- a chunk is of one of so many files
abbrev pub IsOf : {R : Type 0} → ℕ → Chunk R → Type 0
IsOf n c = c.file < n

-- where each chunk was of one of so many files, and this file is, each is
abbrev pub AddsFile : {R : Type 0} → ℕ → List (Chunk R) → List (Chunk R) → Type 0
AddsFile file chunks chunks' = (n : ℕ) → file < n → All (IsOf n) chunks → All (IsOf n) chunks'

module _ {W R : Type 0} where
  -- chunks and active splits that were of the first files are of these still
  abbrev pub KeepsFiles : List (Slot W R) → List (Chunk R) → List (Chunk R) → Type 0
  KeepsFiles slots chunks chunks' = (n : ℕ) → FilesWithin n slots → All (IsOf n) chunks → All (IsOf n) chunks'

module _ {W I R : Type 0} (split : W → SplitState I) (comes : W → Arrivals → Store → Event → Type 0) (items : R → List I) where
  -- what was given, and what active splits have to give, are the same groups, in the same order or in any
  abbrev pub SameGroups : Bool → Active W R → Active W R → List (Chunk R) → List (Chunk R) → Type 0
  SameGroups ordered old new chunks chunks' =
      (tale : List (Told I)) → AllTell tale → AllOk split comes items tale old
      → AreSame ordered (given items chunks' ++ groups_left split comes items tale new)
      (given items chunks ++ groups_left split comes items tale old)

  -- the limit is met: what was given are the first rows of the groups that were to be given, or the first rows of some of
  -- them, whatever comes after these
  pub record IsCut (ordered : Bool) (old : Active W R) (chunks chunks' : List (Chunk R)) (left : Option ℕ) : Type 0 where
    pub most : ℕ
    pub was : limit_of (count (given items chunks)) left ≡ Some most
    pub met : count (given items chunks') ≡ most
    pub groups : (tale : List (Told I)) → AllTell tale → AllOk split comes items tale old → (later : List (Group I))
        → AreGiven ordered (Some most) (given items chunks ++ (groups_left split comes items tale old ++ later))
        (given items chunks')

  -- rows of splits were given, as far as they are read: those whose turn it was, or in no order all
  pub record IsMore (ordered : Bool) (old new : Active W R) (chunks chunks' : List (Chunk R)) (left left' : Option ℕ) : Type 0 where
    pub groups : SameGroups ordered old new chunks chunks'
    pub counts : Counts items chunks chunks' left left'
    pub order : KeepsOrder old new

  -- what a delivery does, by whether more may be given
  abbrev pub IsDelivered : Bool → Active W R → Active W R → List (Chunk R) → List (Chunk R) → Option ℕ → Option ℕ
      → Delivered → Type 0
  IsDelivered ordered old new chunks chunks' left left' More = IsMore ordered old new chunks chunks' left left'
  IsDelivered ordered old new chunks chunks' left left' Full = IsCut ordered old chunks chunks' left

  -- all that stands before the split is given, less than the limit, and it is the split's turn, which is given up for this
  pub record IsHeld (file : ℕ) (h : Halt) (old new : Active W R) (chunks chunks' : List (Chunk R)) (left left' : Option ℕ) : Type 0 where
    pub turn : IsHalted file h new
    pub rows : KeepsRows items chunks chunks'
    pub more : IsMore true old new chunks chunks' left left'

  -- why a delivery in order fails: a split is given up for this at its turn
  abbrev pub IsDeliverFault : Active W R → Active W R → List (Chunk R) → List (Chunk R) → Option ℕ → Option ℕ → DriveFault → Type 0
  IsDeliverFault old new chunks chunks' left left' fault.NoMemory = Unit {0}
  IsDeliverFault old new chunks chunks' left left' (fault.Source file id) = IsHeld file (halt.Source id) old new chunks chunks' left left'
  IsDeliverFault old new chunks chunks' left left' (fault.Corrupt file id) = IsHeld file (halt.Corrupt id) old new chunks chunks' left left'
  IsDeliverFault old new chunks chunks' left left' (fault.Overflow file) = IsHeld file halt.Overflow old new chunks chunks' left left'
