-- What a drive over files gives, as a scan gives it.
use Rattle.std.specs.Prelude.{◌≡◌, ℕ, length}
use Rattle.scan_drive.specs.declared.delivery.Chunk.{Chunk}
use Rattle.scan_drive.specs.declared.delivery.DriveFault.{DriveFault}
use Rattle.scan_drive.specs.declared.delivery.DriveFault.TheVariants as split
use Rattle.scan_drive.specs.declared.report.ScanReport.{ScanReport}
use Rattle.scan_drive.specs.declared.settling.RoundFault.{RoundFault}
use Rattle.scan_drive.specs.declared.settling.RoundFault.TheVariants as why
use Rattle.scan_file.specs.FileRows.{RowsData}
use Rattle.scan_file.specs.declared.fault.FileFault.{FileFault}
use Rattle.scan_file.specs.declared.fault.FileFault.TheVariants as file
use Rattle.scan_multi.specs.Output.{ChunkData}
use Rattle.scan_multi.specs.declared.scan.fault.RangeFault.TheVariants.{Past}
use Rattle.scan_multi.specs.declared.scan.fault.ScanFault.{ScanFault}
use Rattle.scan_multi.specs.declared.scan.fault.ScanFault.TheVariants as fault

-- the rows of a split
abbrev pub chunk_of : Chunk RowsData → ChunkData
chunk_of c = record { file = c.file; rows = (c.rows).numbers; values = (c.rows).values }

-- there are as many numbers as values
abbrev pub IsEven : ChunkData → Type 0
IsEven c = length c.rows ≡ length (c.values).items

-- nothing was wanted
abbrev pub no_counts : ScanReport
no_counts = record { wants = 0; hits = 0; shared = 0; asks = 0 }

-- why the file at a place is not read
abbrev pub refused : ℕ → FileFault → ScanFault
refused place file.Opener = fault.Opener place
refused place file.DTypeMismatch = fault.DTypeMismatch place
refused place (file.Layout f) = fault.Layout place f
refused place file.RowRangePast = fault.RowRange (Past place)

-- why a split is not read to its end
abbrev pub stopped : DriveFault → ScanFault
stopped split.NoMemory = fault.NoMemory
stopped (split.Source place id) = fault.Source place id
stopped (split.Corrupt place id) = fault.Corrupt place id
stopped (split.Overflow place) = fault.Overflow place

-- why a drive ends without all rows
abbrev pub placed : RoundFault FileFault → ScanFault
placed (why.Split e) = stopped e
placed (why.TooManyRows place) = fault.TooManyRows place
placed (why.Refused place f) = refused place f
