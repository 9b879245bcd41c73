use Rattle.std.proofs.Common.{refl, ◌∙◌}
use Rattle.scan_streams.specs.declared.fault.StreamPoll.TheVariants as poll
use Rattle.scan_streams.proofs.Waiting.{moves_before, waited_none, waited_more, answers_before}
use Rattle.scan_streams.proofs.array_iter.next_item.Goals as goal

pub polls-init : goal.polls-init
polls-init g c = record { live = c.requires.live; step = refl; waited = waited_none (g.S.SegmentSource.state c.args.source.now) c.args.stream.now.feed }

pub polls-preserved : goal.polls-preserved
polls-preserved g c =
    let state = g.S.SegmentSource.state in
    record {
      live = c.poll_next.ensures.live;
      step = c.poll_next.ensures.same.step ∙ c.polls.invariant.step;
      waited = waited_more (state c.args.source.now) (state c.polls.source) c.args.stream.now.feed c.polls.stream.feed c.polls.invariant.waited (state c.poll_next.new.source) c.poll_next.new.self.feed c.in-Pending.ensures.answer c.poll_next.ensures.same.feed c.poll_next.ensures.source;
    }

pub returns-in-Item-clause-source : goal.returns-in-Item-clause-source
returns-in-Item-clause-source g c =
    let state = g.S.SegmentSource.state in
    moves_before (state c.args.source.now) (state c.polls.source) c.args.stream.now.feed c.polls.stream.feed c.polls.invariant.waited (state c.poll_next.new.source) c.poll_next.ensures.source

pub returns-in-Item-clause-answer : goal.returns-in-Item-clause-answer
returns-in-Item-clause-answer g c =
    let state = g.S.SegmentSource.state in
    answers_before g.M.MapStep.answers (state c.args.source.now) (state c.polls.source) (state c.poll_next.new.source) c.args.stream.now c.polls.stream c.poll_next.new.self c.polls.invariant.waited c.polls.invariant.step (poll.Item c.in-Item.made) c.in-Item.ensures.answer

pub returns-in-End-clause-source : goal.returns-in-End-clause-source
returns-in-End-clause-source g c =
    let state = g.S.SegmentSource.state in
    moves_before (state c.args.source.now) (state c.polls.source) c.args.stream.now.feed c.polls.stream.feed c.polls.invariant.waited (state c.poll_next.new.source) c.poll_next.ensures.source

pub returns-in-End-clause-answer : goal.returns-in-End-clause-answer
returns-in-End-clause-answer g c =
    let state = g.S.SegmentSource.state in
    answers_before g.M.MapStep.answers (state c.args.source.now) (state c.polls.source) (state c.poll_next.new.source) c.args.stream.now c.polls.stream c.poll_next.new.self c.polls.invariant.waited c.polls.invariant.step (poll.End) c.in-End.ensures.answer

pub returns-in-Fault-clause-source : goal.returns-in-Fault-clause-source
returns-in-Fault-clause-source g c =
    let state = g.S.SegmentSource.state in
    moves_before (state c.args.source.now) (state c.polls.source) c.args.stream.now.feed c.polls.stream.feed c.polls.invariant.waited (state c.poll_next.new.source) c.poll_next.ensures.source

pub returns-in-Fault-clause-answer : goal.returns-in-Fault-clause-answer
returns-in-Fault-clause-answer g c =
    let state = g.S.SegmentSource.state in
    answers_before g.M.MapStep.answers (state c.args.source.now) (state c.polls.source) (state c.poll_next.new.source) c.args.stream.now c.polls.stream c.poll_next.new.self c.polls.invariant.waited c.polls.invariant.step (poll.Fault c.in-Fault.fault) c.in-Fault.ensures.answer
