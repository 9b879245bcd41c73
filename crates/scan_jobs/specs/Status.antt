-- Which exit status a fault has.
use Rattle.std.specs.Prelude.{ℕ}
use Rattle.scan_conditions.specs.declared.fault.Cause.{Cause}
use Rattle.scan_conditions.specs.declared.fault.Cause.TheVariants as cause
use Rattle.scan_disk.specs.declared.fault.DiskFault.{DiskFault}
use Rattle.scan_disk.specs.declared.fault.DiskFault.TheVariants as disk
use Rattle.scan_disk_writer.specs.declared.fault.WriteFault.{WriteFault}
use Rattle.scan_disk_writer.specs.declared.fault.WriteFault.TheVariants as write
use Rattle.scan_import.specs.declared.fault.ImportCause.{ImportCause}
use Rattle.scan_import.specs.declared.fault.ImportCause.TheVariants as import
use Rattle.scan_multi.specs.declared.scan.fault.RangeFault.TheVariants.{Reversed, Past}
use Rattle.scan_multi.specs.declared.scan.fault.ScanFault.{ScanFault}
use Rattle.scan_multi.specs.declared.scan.fault.ScanFault.TheVariants as scan
use Rattle.scan_jobs.specs.declared.fault.ToolFault.{ToolFault}
use Rattle.scan_jobs.specs.declared.fault.ToolFault.TheVariants as fault

-- a file, or a segment of it, is not read
abbrev pub disk_status : DiskFault → ℕ
disk_status disk.NoMemory = 7
disk_status disk.Failed = 5
disk_status disk.Place = 4
disk_status disk.NoSegment = 4
disk_status disk.Digest = 4
disk_status f = 2

-- a scan is refused
abbrev pub scan_status : ScanFault → ℕ
scan_status scan.NoMemory = 7
scan_status (scan.Opener file) = 5
scan_status (scan.Source file segment) = 5
scan_status (scan.Bind f) = 3
scan_status scan.Partitions = 3
scan_status (scan.RowRange Reversed) = 3
scan_status scan.Concurrency = 3
scan_status f = 4

-- a condition, a selection or a dtype is not understood
abbrev pub cause_status : Cause → ℕ
cause_status cause.NoMemory = 7
cause_status c = 3

-- an input gives no rows
abbrev pub import_status : ImportCause → ℕ
import_status import.NoMemory = 7
import_status import.Failed = 6
import_status c = 2

-- a file is not written
abbrev pub write_status : WriteFault → ℕ
write_status write.NoMemory = 7
write_status write.Failed = 6
write_status f = 3

abbrev pub status_of : ToolFault → ℕ
status_of (fault.Words text) = 1
status_of (fault.Open path) = 5
status_of (fault.File path f) = disk_status f
status_of (fault.Segment path segment f) = disk_status f
status_of (fault.OtherDType path found wanted) = 4
status_of (fault.Condition option text f) = cause_status f.cause
status_of (fault.Scan f) = scan_status f
status_of (fault.ScanOf path f) = scan_status f
status_of (fault.Import path f) = import_status f.cause
status_of (fault.Cell path line column dtype) = 2
status_of (fault.Write path f) = write_status f
status_of fault.Uneven = 4
status_of fault.Output = 6
status_of fault.NoMemory = 7
