use Rattle.std.proofs.Common.{List, sym, subst}
use Rattle.scan_values.specs.Arrays.{ArrayData}
use Rattle.scan_collect.specs.Reads.{IsReadOf, values_given}
use Rattle.scan_collect.proofs.Ending.{read_ended, stops_first}
use Rattle.scan_collect.proofs.Running.{HasRead, nearer, read_more, read_none}
use Rattle.scan_collect.proofs.iterator.read_iterator.Goals as goal

pub calls-init : goal.calls-init
calls-init g c =
    let first = g.S.SegmentSource.state c.args.arrays.source in
    subst (λ (bs : List ArrayData). HasRead first c.args.arrays.stream.feed first c.args.arrays.stream.feed (values_given bs)) (sym c.new-made.ensures.items) (read_none first c.args.arrays.stream.feed)

pub calls-preserved : goal.calls-preserved
calls-preserved g c =
    let state = g.S.SegmentSource.state in
    read_more (state c.args.arrays.source) c.args.arrays.stream.feed (state c.calls.left.source) c.calls.left.stream.feed c.calls.made.items c.calls.invariant (state c.gather.new.arrays.source) c.gather.new.arrays.stream.feed c.gather.new.made.items c.gather.ensures.source c.gather.ensures.same.feed c.in-More.ensures.gathers

pub calls-smaller : goal.calls-smaller
calls-smaller g c =
    let state = g.S.SegmentSource.state in
    nearer (state c.calls.left.source) (state c.gather.new.arrays.source) c.calls.left.stream.feed c.gather.new.arrays.stream.feed c.calls.made.items c.gather.new.made.items c.gather.ensures.source.turns c.in-More.ensures.gathers

pub returns-in-Last-clause-read : goal.returns-in-Last-clause-read
returns-in-Last-clause-read g c =
    let state = g.S.SegmentSource.state in
    λ store told fresh. subst (λ (ls : List ArrayData). IsReadOf store c.args.arrays.stream.feed (values_given ls)) (sym c.in-Last.ensures.gathers.same)
    (read_ended (state c.args.arrays.source) c.args.arrays.stream.feed (state c.calls.left.source) c.calls.left.stream.feed (values_given c.calls.made.items) c.calls.invariant store told fresh c.gather.new.arrays.stream.feed c.in-Last.ensures.gathers.ends)

pub returns-in-Stop-clause-stops : goal.returns-in-Stop-clause-stops
returns-in-Stop-clause-stops g c =
    let state = g.S.SegmentSource.state in (
      state c.gather.new.arrays.source,
      stops_first (state c.args.arrays.source) c.args.arrays.stream.feed (state c.calls.left.source) c.calls.left.stream.feed (values_given c.calls.made.items) c.calls.invariant (state c.gather.new.arrays.source) c.in-Stop.fault c.in-Stop.ensures.gathers,
    )
