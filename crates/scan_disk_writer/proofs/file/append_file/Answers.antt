use Rattle.scan_encode.specs.SegmentsView.{bytes_of}
use Rattle.scan_disk.specs.Contents.{magic}
use Rattle.scan_disk_writer.specs.FileBytes.{end_bytes, joined}
use Rattle.scan_disk_writer.proofs.Taking.{three}
use Rattle.scan_disk_writer.proofs.file.append_file.Goals as goal

pub returns-clause-taken : goal.returns-clause-taken
returns-clause-taken g c =
    three (g.W.BytesOut.taken c.args.out.now) (g.W.BytesOut.taken c.append.new.self) (g.W.BytesOut.taken c.append_all.new.out) (g.W.BytesOut.taken c.append_end.new.out) magic
    (joined (bytes_of c.args.segments.now)) (end_bytes c.args.footer.now) c.append_end.result c.in_ok-append.ensures.taken c.in_ok-append_all.ensures.taken c.append_end.ensures.taken
