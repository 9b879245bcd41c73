-- What is made of the layout of a file.
use Rattle.std.specs.Prelude.{◌≡◌, Some, None}
use Rattle.scan_segments.specs.Source.{Store}
use Rattle.scan_splits.specs.Arrivals.{Arrivals}
use Rattle.scan_layout.specs.Layout.{Layout}
use Rattle.scan_drive.specs.Openers.{AreSplits}
use Rattle.scan_drive.specs.Splits.{Event}
use Rattle.scan_drive.specs.declared.opening.Opening.{Opening}
use Rattle.scan_drive.specs.declared.opening.Opening.TheVariants as opening
use Rattle.scan_file.specs.FileAsks.{FileAsk}
use Rattle.scan_file.specs.FileSplits.{FutureComes, split_state}
use Rattle.scan_file.specs.Openings.{layout_fault}
use Rattle.scan_file.specs.Parts.{layout_part}
use Rattle.scan_file.specs.declared.fault.FileFault.{FileFault}
use Rattle.scan_file.specs.declared.split.FileSplit.{FileSplit}

-- the splits of its part, where nothing is wrong with it, else its first fault
abbrev pub IsOpened : FileAsk → Layout → Opening FileSplit FileFault → Type 0
IsOpened a l opening.Pending = ⊥
IsOpened a l (opening.Opened ws rows) = (layout_fault a l ≡ None)
    × AreSplits (λ (w : FileSplit). split_state w.future)
    (λ (w : FileSplit) (here : Arrivals) (store : Store) (e : Event). FutureComes w.future here store e)
    (layout_part a l) rows ws.items
IsOpened a l (opening.Refused f) = layout_fault a l ≡ Some f
IsOpened a l opening.NoMemory = Unit {0}
