use Rattle.std.proofs.Common.{◌≡◌, sym, subst}
use Rattle.scan_encode.specs.Batches.{rows_of_all}
use Rattle.scan_encode.specs.Encoded.{Holds}
use Rattle.scan_disk_writer.specs.Out.{behind}
use Rattle.scan_disk_writer.specs.Written.{AreRefused}
use Rattle.scan_disk_writer.proofs.Refusing.{are_refused, are_served, file_of_rows, not_encoded}
use Rattle.scan_disk_writer.proofs.rows.write_batches.Goals as goal

pub returns-in-Ok-clause-written : goal.returns-in-Ok-clause-written
returns-in-Ok-clause-written g c =
    let held = subst (Holds c.args.dtype.now (rows_of_all c.args.batches.now) c.encode_batches.new.segments) (sym c.deref.ensures) c.in-Ok.ensures.holds in
    file_of_rows c.deref.result.now c.args.dtype.now (rows_of_all c.args.batches.now) c.encode_batches.new.segments (λ bytes. g.W.BytesOut.taken c.write_file.new.out ≡ behind bytes (g.W.BytesOut.taken c.args.out.now))
    c.write_file.result held c.write_file.ensures.written

pub returns-in-Ok-clause-refused : goal.returns-in-Ok-clause-refused
returns-in-Ok-clause-refused g c =
    let held = subst (Holds c.args.dtype.now (rows_of_all c.args.batches.now) c.encode_batches.new.segments) (sym c.deref.ensures) c.in-Ok.ensures.holds in
    are_refused c.deref.result.now c.args.dtype.now (rows_of_all c.args.batches.now) c.encode_batches.new.segments g.W.BytesOut.can_fail c.write_file.result held c.write_file.ensures.refused

pub returns-clause-refused : goal.returns-clause-refused
returns-clause-refused g c =
    subst (AreRefused c.args.dtype.now (rows_of_all c.args.batches.now) g.W.BytesOut.can_fail) (sym c.of_rows.ensures)
    (not_encoded c.args.dtype.now (rows_of_all c.args.batches.now) c.encode_batches.new.segments g.W.BytesOut.can_fail c.in-Err.fault c.in-Err.ensures.refused)

pub returns-in-Ok-clause-served : goal.returns-in-Ok-clause-served
returns-in-Ok-clause-served g c =
    let held = subst (Holds c.args.dtype.now (rows_of_all c.args.batches.now) c.encode_batches.new.segments) (sym c.deref.ensures) c.in-Ok.ensures.holds in
    are_served c.deref.result.now c.args.dtype.now (rows_of_all c.args.batches.now) c.encode_batches.new.segments c.write_file.result held c.in-Ok.ensures.short c.write_file.ensures.served
