use Rattle.std.proofs.Common.{◌≡◌, ◌+◌, ◌^◌, drop, length, sym, subst, rules, arith}
use Rattle.std.proofs.lemmas.List.{drop_all}
use Rattle.scan_encode.specs.SegmentsView.{bytes_of}
use Rattle.scan_disk_writer.specs.FileBytes.{joined, places_from}
use Rattle.scan_disk_writer.specs.Written.{IsTooMuch}
use Rattle.scan_disk_writer.proofs.Jsons.{item_at}
use Rattle.scan_disk_writer.proofs.Refusing.{placed_next, sum_next, past, placed_end}
use Rattle.scan_disk_writer.proofs.file.places_of.Goals as goal

pub returns-in-Err-clause-refused : goal.returns-in-Err-clause-refused
returns-in-Err-clause-refused c =
    let raws = c.args.segments.now in
    let i = c.loop-segment.segment-index in
    let s : c.as_slice-bytes.result.now ≡ c.segment-item.result.items = search rules in
    subst (IsTooMuch (bytes_of raws)) (sym c.in-Err.ensures.size.0)
    (past c.loop-segment.offset (2 ^ 64) raws i c.segment-item.result c.as_slice-bytes.result.now (8 + length (joined (bytes_of raws))) s (item_at raws i c.segment-item.result (omega arith) c.segment-item.is)
    c.loop-segment.invariant.sum c.in-Err.ensures.size.1)

pub loop-segment-preserved : goal.loop-segment-preserved
loop-segment-preserved c =
    let raws = c.args.segments.now in
    let i = c.loop-segment.segment-index in
    let v = c.segment-item.result in
    let s : c.as_slice-bytes.result.now ≡ c.segment-item.result.items = search rules in
    let d = item_at raws i v (omega arith) c.segment-item.is in
    record {
      same = placed_next c.loop-segment.made.items c.push.new.self.items c.placed.result c.loop-segment.offset c.in-Ok.end raws i v c.as_slice-bytes.result.now (places_from 8 (bytes_of raws))
          c.in_ok-push.ensures.items c.placed.ensures s c.in-Ok.ensures.end d c.loop-segment.invariant.same;
      sum = sum_next c.loop-segment.offset c.in-Ok.end raws i v c.as_slice-bytes.result.now (8 + length (joined (bytes_of raws))) s c.in-Ok.ensures.end d c.loop-segment.invariant.sum;
    }

pub returns-clause-places : goal.returns-clause-places
returns-clause-places c =
    let raws = c.args.segments.now in
    placed_end c.loop-segment.made.items c.loop-segment.offset (drop c.loop-segment.segment-index raws) (places_from 8 (bytes_of raws)) (drop_all c.loop-segment.segment-index raws (omega arith))
    c.loop-segment.invariant.same
