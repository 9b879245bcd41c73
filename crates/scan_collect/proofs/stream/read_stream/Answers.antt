use Rattle.std.proofs.Common.{List, sym, subst}
use Rattle.scan_values.specs.Arrays.{ArrayData}
use Rattle.scan_streams.specs.Sources.{NoId}
use Rattle.scan_streams.specs.Streams.{MayFeed}
use Rattle.scan_streams.proofs.Asking.{moves_then, moves_weaker}
use Rattle.scan_collect.specs.Reads.{IsReadOf, values_given}
use Rattle.scan_collect.proofs.Ending.{read_ended, stops_first, stops_later}
use Rattle.scan_collect.proofs.Running.{HasRead, moves_first, nearer, read_more, read_none}
use Rattle.scan_collect.proofs.stream.read_stream.Goals as goal

pub polls-init : goal.polls-init
polls-init g c =
    let first = g.S.SegmentSource.state c.args.source.now in
    record {
      live = c.requires.live;
      read = subst (λ (bs : List ArrayData). HasRead first c.args.stream.feed first c.args.stream.feed (values_given bs)) (sym c.new-arrays.ensures.items) (read_none first c.args.stream.feed);
    }

pub polls-preserved : goal.polls-preserved
polls-preserved g c =
    let state = g.S.SegmentSource.state in
    record {
      live = c.gather.ensures.live;
      read = read_more (state c.args.source.now) c.args.stream.feed (state c.polls.source) c.polls.left.feed c.polls.arrays.items c.polls.invariant.read (state c.gather.new.source) c.gather.new.stream.feed c.gather.new.arrays.items c.gather.ensures.source c.gather.ensures.same.feed c.in-More.ensures.gathers;
    }

pub polls-smaller : goal.polls-smaller
polls-smaller g c =
    let state = g.S.SegmentSource.state in
    nearer (state c.polls.source) (state c.gather.new.source) c.polls.left.feed c.gather.new.stream.feed c.polls.arrays.items c.gather.new.arrays.items c.gather.ensures.source.turns c.in-More.ensures.gathers

pub returns-in-Last-clause-read : goal.returns-in-Last-clause-read
returns-in-Last-clause-read g c =
    let state = g.S.SegmentSource.state in
    λ store told fresh. subst (λ (ls : List ArrayData). IsReadOf store c.args.stream.feed (values_given ls)) (sym c.in-Last.ensures.gathers.same)
    (read_ended (state c.args.source.now) c.args.stream.feed (state c.polls.source) c.polls.left.feed (values_given c.polls.arrays.items) c.polls.invariant.read store told fresh c.gather.new.stream.feed c.in-Last.ensures.gathers.ends)

pub returns-in-Last-clause-source : goal.returns-in-Last-clause-source
returns-in-Last-clause-source g c =
    let state = g.S.SegmentSource.state in
    let first = state c.args.source.now in
    let May = MayFeed first.holds c.args.stream.feed in
    moves_then May first (state c.gather.new.source) (state c.cancel.new.source)
    (moves_first first c.args.stream.feed (state c.polls.source) c.polls.left.feed (values_given c.polls.arrays.items) c.polls.invariant.read (state c.gather.new.source) c.gather.ensures.source)
    (moves_weaker NoId May (state c.gather.new.source) (state c.cancel.new.source) (λ id h. absurd h) c.cancel.ensures.source)

pub returns-in-Stop-clause-stops : goal.returns-in-Stop-clause-stops
returns-in-Stop-clause-stops g c =
    let state = g.S.SegmentSource.state in
    stops_later (state c.args.source.now) (state c.gather.new.source) (state c.cancel-in-Stop.new.source) c.args.stream.feed.splits c.in-Stop.fault c.cancel-in-Stop.ensures.source.faults
    (stops_first (state c.args.source.now) c.args.stream.feed (state c.polls.source) c.polls.left.feed (values_given c.polls.arrays.items) c.polls.invariant.read (state c.gather.new.source) c.in-Stop.fault c.in-Stop.ensures.gathers)

pub returns-in-Stop-clause-source : goal.returns-in-Stop-clause-source
returns-in-Stop-clause-source g c =
    let state = g.S.SegmentSource.state in
    let first = state c.args.source.now in
    let May = MayFeed first.holds c.args.stream.feed in
    moves_then May first (state c.gather.new.source) (state c.cancel-in-Stop.new.source)
    (moves_first first c.args.stream.feed (state c.polls.source) c.polls.left.feed (values_given c.polls.arrays.items) c.polls.invariant.read (state c.gather.new.source) c.gather.ensures.source)
    (moves_weaker NoId May (state c.gather.new.source) (state c.cancel-in-Stop.new.source) (λ id h. absurd h) c.cancel-in-Stop.ensures.source)
