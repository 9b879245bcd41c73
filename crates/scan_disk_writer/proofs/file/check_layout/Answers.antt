use Rattle.std.proofs.Common.{refl, subst, arith}
use Rattle.scan_layout.specs.Form.{HasForm}
use Rattle.scan_disk_writer.proofs.Refusing.{served_of, unserved_of}
use Rattle.scan_disk_writer.proofs.file.check_layout.Goals as goal

pub returns-in-Ok-clause-served : goal.returns-in-Ok-clause-served
returns-in-Ok-clause-served c =
    served_of c.args.layout.now c.dtype-dtype.result.now c.depth-depth.result c.dtype-dtype.ensures c.depth-depth.ensures.value (omega arith) c.in-Ok.ensures.first

pub returns-in-Ok-clause-form : goal.returns-in-Ok-clause-form
returns-in-Ok-clause-form c = subst (HasForm c.args.layout.now) c.dtype-dtype.ensures (c.in-Ok.ensures.form.0 refl).1

pub returns-in-Err-clause-refused : goal.returns-in-Err-clause-refused
returns-in-Err-clause-refused c =
    unserved_of c.args.layout.now c.dtype-dtype.result.now c.depth-depth.result c.in-Err.fault c.dtype-dtype.ensures c.depth-depth.ensures.value (omega arith) c.in-Err.ensures.first
