-- What the opener of a file is to a scan, and why a file is not read.
use Rattle.std.specs.Prelude.{◌≡◌, ℕ, Bool, true, false, List, [], ◌∷◌, nat_lt, Option, Some, None, IfSome, option_map}
use Rattle.std.specs.declared.ops.Range.{Range}
use Rattle.scan_values.specs.Same.{same_type}
use Rattle.scan_layout.specs.Check.{first_fault}
use Rattle.scan_layout.specs.Layout.{Layout, dtype_of, rows_of}
use Rattle.scan_layout.specs.declared.fault.LayoutFault.{LayoutFault}
use Rattle.scan_opener.specs.Opener.{Given, skip, layout_of, OpenerFailed}
use Rattle.scan_opener.specs.Opener as opened
use Rattle.scan_drive.specs.Files.{Item, Part}
use Rattle.scan_drive.specs.Openers.{OpenerState}
use Rattle.scan_file.specs.FileAsks.{FileAsk, asked_dtype, given_dtype}
use Rattle.scan_file.specs.FileRows.{lost_row}
use Rattle.scan_file.specs.Parts.{layout_part, no_part}
use Rattle.scan_file.specs.declared.fault.FileFault.{FileFault}
use Rattle.scan_file.specs.declared.fault.FileFault.TheVariants as fault
use Rattle.scan_file.specs.declared.split.FileSplit.{FileSplit}

-- a range ends past so many rows
abbrev pub ends_past : Option (Range ℕ) → ℕ → Bool
ends_past None rows = false
ends_past (Some r) rows = nat_lt rows r.end

-- the fault of a range that ends past the rows
abbrev pub past_fault : Bool → Option FileFault
past_fault true = Some fault.RowRangePast
past_fault false = None

-- what is wrong with the form of a layout, or else with the range
abbrev pub form_fault : Option LayoutFault → Bool → Option FileFault
form_fault (Some f) past = Some (fault.Layout f)
form_fault None past = past_fault past

-- the fault of another dtype, or else of the form or the range
abbrev pub typed_fault : Bool → Option LayoutFault → Bool → Option FileFault
typed_fault false form past = Some fault.DTypeMismatch
typed_fault true form past = form_fault form past

-- the first of what is wrong with a layout: another dtype, its form, or that the range ends past its rows
abbrev pub layout_fault : FileAsk → Layout → Option FileFault
layout_fault a l = typed_fault (same_type (dtype_of l) (asked_dtype a)) (first_fault l (asked_dtype a)) (ends_past a.range (rows_of l))

-- a file that is not read stands for one row, which is lost
abbrev pub lost_part : FileAsk → Part Item
lost_part a = record no_part { splits = λ store. lost_row (given_dtype a) ∷ [] }

-- the part of a file, unless it has a fault
abbrev pub part_unless : FileAsk → Option FileFault → Part Item → Part Item
part_unless a None p = p
part_unless a (Some f) p = lost_part a

-- what an opener gives to a scan
abbrev pub part_of : FileAsk → Given → Part Item
part_of a skip = no_part
part_of a (layout_of l) = part_unless a (layout_fault a l) (layout_part a l)

-- an opener's state, as a scan sees it: what it gives is a part
abbrev pub file_state : FileAsk → opened.OpenerState → OpenerState Item
file_state a o = record { gives = option_map (part_of a) o.gives; faults = o.faults; polled = o.polled; turns = o.turns }

-- the first fault of the layout that an opener gives
abbrev pub GivesFault : FileAsk → FileFault → Given → Type 0
GivesFault a f skip = ⊥
GivesFault a f (layout_of l) = layout_fault a l ≡ Some f

-- why a poll of an opener says that its file is not read: it failed, or what it gives has this fault first
abbrev pub Refuses : FileAsk → opened.OpenerState → opened.OpenerState → FileFault → Type 0
Refuses a old new fault.Opener = OpenerFailed old new
Refuses a old new fault.DTypeMismatch = IfSome old.gives (GivesFault a fault.DTypeMismatch)
Refuses a old new (fault.Layout f) = IfSome old.gives (GivesFault a (fault.Layout f))
Refuses a old new fault.RowRangePast = IfSome old.gives (GivesFault a fault.RowRangePast)

-- whose splits these may be: of what is skipped there are none, and a layout has no fault
abbrev pub GivesSplits : FileAsk → List FileSplit → Given → Type 0
GivesSplits a ws skip = ws ≡ []
GivesSplits a ws (layout_of l) = layout_fault a l ≡ None

-- what a poll of an opener that answers these splits shows, as far as it tells what it gives
abbrev pub Admits : FileAsk → opened.OpenerState → List FileSplit → Type 0
Admits a old ws = IfSome old.gives (GivesSplits a ws)
