use Rattle.std.proofs.Common.{◌≡◌, drop, rules, arith}
use Rattle.std.proofs.lemmas.List.{drop_all}
use Rattle.scan_encode.specs.SegmentsView.{bytes_of}
use Rattle.scan_disk_writer.specs.FileBytes.{joined}
use Rattle.scan_disk_writer.specs.Out.{behind}
use Rattle.scan_disk_writer.proofs.Jsons.{item_at}
use Rattle.scan_disk_writer.proofs.Taking.{one_taken, all_taken}
use Rattle.scan_disk_writer.proofs.file.append_all.Goals as goal

pub loop-segment-preserved : goal.loop-segment-preserved
loop-segment-preserved g c =
    let raws = c.args.segments.now in
    let i = c.loop-segment.segment-index in
    let s : c.as_slice.result.now ≡ c.segment-item.result.items = search rules in
    one_taken (g.W.BytesOut.taken c.loop-segment.out) (g.W.BytesOut.taken c.append.new.self) (behind (joined (bytes_of raws)) (g.W.BytesOut.taken c.args.out.now)) raws i c.as_slice.result.now c.segment-item.result
    (item_at raws i c.segment-item.result (omega arith) c.segment-item.is) s c.in_ok-append.ensures.taken c.loop-segment.invariant

pub returns-clause-taken : goal.returns-clause-taken
returns-clause-taken g c =
    let raws = c.args.segments.now in
    all_taken (g.W.BytesOut.taken c.loop-segment.out) (behind (joined (bytes_of raws)) (g.W.BytesOut.taken c.args.out.now)) (drop c.loop-segment.segment-index raws)
    (drop_all c.loop-segment.segment-index raws (omega arith)) c.loop-segment.invariant
