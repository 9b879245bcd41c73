use Rattle.std.proofs.Common.{◌≡◌, drop}
use Rattle.scan_encode.specs.SegmentsView.{bytes_of}
use Rattle.scan_disk_writer.specs.FileBytes.{joined}
use Rattle.scan_disk_writer.specs.Out.{behind}
use Rattle.scan_disk_writer.proofs.file.append_all.Given as goal

abbrev pub invariant-loop-segment : goal.invariant-loop-segment
invariant-loop-segment g l =
    behind (joined (bytes_of (drop l.segment-index l.segments))) (g.W.BytesOut.taken l.out) ≡ behind (joined (bytes_of l.segments)) (g.W.BytesOut.taken l.fn.out)
