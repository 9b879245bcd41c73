use Rattle.std.proofs.Common.{arith}
use Rattle.std.proofs.lemmas.Grind.{common_steps}
use Rattle.scan_values.proofs.Faults.{faults-zip}
use Rattle.scan_values.proofs.dtype.+faults.Goals as goal

pub FieldList::names_fault-returns-in-Some : goal.FieldList::names_fault-returns-in-Some
FieldList::names_fault-returns-in-Some t c =
    rw (faults-zip c.self.inside.names c.self.inside.dtypes.items c.args.self.now c.self.invariant c.self.view_is) (grind (arith, common_steps))

pub FieldList::names_fault-returns-in-Some-2 : goal.FieldList::names_fault-returns-in-Some-2
FieldList::names_fault-returns-in-Some-2 t c =
    rw (faults-zip c.self.inside.names c.self.inside.dtypes.items c.args.self.now c.self.invariant c.self.view_is) (grind (arith, common_steps))

pub FieldList::names_fault-returns : goal.FieldList::names_fault-returns
FieldList::names_fault-returns t c =
    rw (faults-zip c.self.inside.names c.self.inside.dtypes.items c.args.self.now c.self.invariant c.self.view_is) (grind (arith, common_steps))
