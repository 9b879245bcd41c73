use Rattle.scan_collect.proofs.Polling.{polled_last, polled_item, polled_fault}
use Rattle.scan_collect.proofs.iterator.gather.Goals as goal

pub returns-in-Some-Ok-clause-gathers : goal.returns-in-Some-Ok-clause-gathers
returns-in-Some-Ok-clause-gathers g c =
    let state = g.S.SegmentSource.state in
    polled_item (state c.args.arrays.now.source) (state c.next.new.self.source) c.args.arrays.now.stream c.next.new.self.stream c.args.made.now.items c.keep.new.arrays.items c.in-Some-Ok.array c.keep.result (rw c.in-Some-Ok.field-0-is at c.in-Some-Ok.ensures.answer) c.keep.ensures

pub returns-in-Some-Err-clause-gathers : goal.returns-in-Some-Err-clause-gathers
returns-in-Some-Err-clause-gathers g c =
    let state = g.S.SegmentSource.state in
    polled_fault (state c.args.arrays.now.source) (state c.next.new.self.source) c.args.arrays.now.stream c.next.new.self.stream c.args.made.now.items c.args.made.now.items c.in-Some-Err.fault (rw c.in-Some-Err.field-0-is at c.in-Some-Err.ensures.answer)

pub returns-in-None-clause-gathers : goal.returns-in-None-clause-gathers
returns-in-None-clause-gathers g c =
    let state = g.S.SegmentSource.state in
    polled_last (state c.args.arrays.now.source) c.args.arrays.now.stream.feed c.next.new.self.stream.feed c.args.made.now.items c.in-None.ensures.answer
