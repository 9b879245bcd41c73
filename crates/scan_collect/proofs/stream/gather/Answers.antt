use Rattle.scan_collect.proofs.Polling.{polled_none, polled_last, polled_item, polled_fault}
use Rattle.scan_collect.proofs.stream.gather.Goals as goal

pub returns-in-Pending-clause-gathers : goal.returns-in-Pending-clause-gathers
returns-in-Pending-clause-gathers g c =
    let state = g.S.SegmentSource.state in
    polled_none (state c.args.source.now) (state c.poll_next.new.source) c.args.stream.now.feed c.poll_next.new.self.feed c.args.arrays.now.items c.in-Pending.ensures.answer

pub returns-in-Item-clause-gathers : goal.returns-in-Item-clause-gathers
returns-in-Item-clause-gathers g c =
    let state = g.S.SegmentSource.state in
    polled_item (state c.args.source.now) (state c.poll_next.new.source) c.args.stream.now c.poll_next.new.self c.args.arrays.now.items c.keep.new.arrays.items c.in-Item.array c.keep.result c.in-Item.ensures.answer c.keep.ensures

pub returns-in-End-clause-gathers : goal.returns-in-End-clause-gathers
returns-in-End-clause-gathers g c =
    let state = g.S.SegmentSource.state in
    polled_last (state c.args.source.now) c.args.stream.now.feed c.poll_next.new.self.feed c.args.arrays.now.items c.in-End.ensures.answer

pub returns-in-Fault-clause-gathers : goal.returns-in-Fault-clause-gathers
returns-in-Fault-clause-gathers g c =
    let state = g.S.SegmentSource.state in
    polled_fault (state c.args.source.now) (state c.poll_next.new.source) c.args.stream.now c.poll_next.new.self c.args.arrays.now.items c.args.arrays.now.items c.in-Fault.fault c.in-Fault.ensures.answer
