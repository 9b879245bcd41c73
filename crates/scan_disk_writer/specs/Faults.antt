-- How a fault of one step is one of a file.
use Rattle.scan_encode.specs.declared.fault.RowsFault.{RowsFault}
use Rattle.scan_encode.specs.declared.fault.RowsFault.TheVariants as rows
use Rattle.scan_disk_writer.specs.declared.fault.OutFault.{OutFault}
use Rattle.scan_disk_writer.specs.declared.fault.OutFault.TheVariants as out
use Rattle.scan_disk_writer.specs.declared.fault.WriteFault.{WriteFault}
use Rattle.scan_disk_writer.specs.declared.fault.WriteFault.TheVariants as write

abbrev pub rows_fault : RowsFault → WriteFault
rows_fault rows.TooLong = write.Rows rows.TooLong
rows_fault rows.Segments = write.Rows rows.Segments
rows_fault rows.NoMemory = write.NoMemory

abbrev pub out_fault : OutFault → WriteFault
out_fault out.Failed = write.Failed
out_fault out.NoMemory = write.NoMemory
