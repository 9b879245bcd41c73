-- Why rows of a plan are not read.
use Rattle.scan_expr.specs.declared.op.ApplyFault.{ApplyFault}
use Rattle.scan_expr.specs.declared.op.ApplyFault.TheVariants as apply
use Rattle.scan_plans.specs.declared.fault.ReadFault.{ReadFault}
use Rattle.scan_plans.specs.declared.fault.ReadFault.TheVariants as fault

abbrev pub read_fault : ApplyFault → ReadFault
read_fault apply.Overflow = fault.Overflow
read_fault apply.NoMemory = fault.NoMemory
