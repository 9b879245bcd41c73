use Rattle.std.proofs.Common.{◌≡◌, ℕ, List, length, ap, subst, arith}
use Rattle.std.specs.Prelude.{IfErr, OnOk}
use Rattle.scan_disk_writer.specs.Out.{behind}
use Rattle.scan_disk_writer.specs.Written.{IsFile, IsRefused, IsServed}
use Rattle.scan_disk_writer.proofs.Refusing.{early, on_ok}
use Rattle.scan_disk_writer.proofs.file.write_file.Goals as goal

pub write_checked-requires-clause-shallow : goal.write_checked-requires-clause-shallow
write_checked-requires-clause-shallow g c = c.in-Ok.ensures.served.0

pub write_checked-requires-clause-few : goal.write_checked-requires-clause-few
write_checked-requires-clause-few g c = let e = ap length c.as_slice.ensures.bytes in omega (arith, e, c.as_slice.ensures.few)

pub returns-in-Ok-clause-served : goal.returns-in-Ok-clause-served
returns-in-Ok-clause-served g c = on_ok c.write_checked.result (IsServed c.args.layout.now) c.in-Ok.ensures.served

pub returns-in-Ok-clause-written : goal.returns-in-Ok-clause-written
returns-in-Ok-clause-written g c =
    subst (λ z. OnOk c.write_checked.result ((bytes : List ℕ) × IsFile c.args.layout.now z bytes × (g.W.BytesOut.taken c.write_checked.new.out ≡ behind bytes (g.W.BytesOut.taken c.args.out.now))))
    c.as_slice.ensures.bytes c.write_checked.ensures.written

pub returns-in-Ok-clause-refused : goal.returns-in-Ok-clause-refused
returns-in-Ok-clause-refused g c =
    subst (λ z. IfErr c.write_checked.result (IsRefused c.args.layout.now z g.W.BytesOut.can_fail)) c.as_slice.ensures.bytes c.write_checked.ensures.refused

pub returns-in-Err-clause-refused : goal.returns-in-Err-clause-refused
returns-in-Err-clause-refused g c = early c.args.layout.now c.args.segments.now g.W.BytesOut.can_fail c.in-Err.fault c.in-Err.ensures.refused
