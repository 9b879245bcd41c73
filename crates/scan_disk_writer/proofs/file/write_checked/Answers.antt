use Rattle.scan_encode.specs.SegmentsView.{bytes_of}
use Rattle.scan_disk_writer.proofs.Refusing.{too_much}
use Rattle.scan_disk_writer.proofs.file.write_checked.Goals as goal

pub returns-in-Err-clause-refused : goal.returns-in-Err-clause-refused
returns-in-Err-clause-refused g c = too_much c.args.layout.now (bytes_of c.args.segments.now) g.W.BytesOut.can_fail c.in-Err.fault c.in-Err.ensures.refused
