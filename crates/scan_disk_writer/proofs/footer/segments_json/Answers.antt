use Rattle.std.proofs.Common.{◌+◌, ◌∙◌, drop, map, sym, ap, subst, arith}
use Rattle.std.proofs.lemmas.List.{drop_all}
use Rattle.serde_json.specs.Data.{array}
use Rattle.serde_json.proofs.Views.{view-Array}
use Rattle.serde_json.specs.View.{items_of}
use Rattle.scan_disk_writer.specs.FileBytes.{SegmentIdsFit}
use Rattle.scan_disk_writer.specs.Json.{json_of_segment}
use Rattle.scan_disk_writer.proofs.Jsons.{item_at, step_one, step_end, segment_ids}
use Rattle.scan_disk_writer.proofs.footer.segments_json.Goals as goal

pub loop-segment-preserved : goal.loop-segment-preserved
loop-segment-preserved c =
    let gs = c.args.segments.now in
    let i = c.loop-segment.segment-index in
    let d = item_at gs i c.segment-item.result (omega arith) c.segment-item.is in
    record {
      same = step_one json_of_segment c.loop-segment.made.items c.push.new.self.items c.in_ok-json.json (drop i gs) (drop (i + 1) gs) c.segment-item.result (map json_of_segment gs)
          c.in_ok-push.ensures.items c.in_ok-json.ensures.json d c.loop-segment.invariant.same;
      ids = segment_ids gs i c.segment-item.result d c.in_ok-json.ensures.id c.loop-segment.invariant.ids;
    }

pub returns-clause-json : goal.returns-clause-json
returns-clause-json c =
    let gs = c.args.segments.now in
    view-Array c.loop-segment.made
    ∙ ap (λ z. array (items_of z))
    (step_end json_of_segment c.loop-segment.made.items (drop c.loop-segment.segment-index gs) (map json_of_segment gs) (drop_all c.loop-segment.segment-index gs (omega arith)) c.loop-segment.invariant.same)

pub returns-clause-ids : goal.returns-clause-ids
returns-clause-ids c = c.loop-segment.invariant.ids (subst SegmentIdsFit (sym (drop_all c.loop-segment.segment-index c.args.segments.now (omega arith))) tt)
