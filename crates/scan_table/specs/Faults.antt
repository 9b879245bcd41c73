-- How faults of a scan are faults of a table.
use Rattle.scan_expr.specs.declared.op.BindFault.{BindFault}
use Rattle.scan_expr.specs.declared.op.BindFault.TheVariants as bind
use Rattle.scan_groups.specs.declared.fault.GroupsFault.{GroupsFault}
use Rattle.scan_groups.specs.declared.fault.GroupsFault.TheVariants as groups
use Rattle.scan_multi.specs.declared.scan.fault.ScanFault.{ScanFault}
use Rattle.scan_multi.specs.declared.scan.fault.ScanFault.TheVariants as scan
use Rattle.scan_table.specs.declared.fault.TableFault.{TableFault}
use Rattle.scan_table.specs.declared.fault.TableFault.TheVariants as fault

-- want of memory has an answer of its own
abbrev pub of_scan : ScanFault → TableFault
of_scan scan.NoMemory = fault.NoMemory
of_scan e = fault.Scan e

abbrev pub of_bind_fault : BindFault → TableFault
of_bind_fault bind.NoMemory = fault.NoMemory
of_bind_fault f = fault.Scan (scan.Bind f)

abbrev pub of_groups : GroupsFault → TableFault
of_groups (groups.SumRange measure) = fault.SumRange measure
of_groups groups.NoMemory = fault.NoMemory
