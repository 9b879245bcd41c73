use Rattle.std.proofs.Common.{ap}
use Rattle.scan_streams.proofs.Asking.{moves_self}
use Rattle.scan_core.specs.LazyData.{has_begun}
use Rattle.scan_core.specs.LazyState.{lazy_state}
use Rattle.scan_core.proofs.Beginning.{idle_poll, polls_running}
use Rattle.scan_core.proofs.lazy_stream.poll.Goals as goal

pub returns-in-Running-clause-answer : goal.returns-in-Running-clause-answer
returns-in-Running-clause-answer g c =
    let state = g.S.SegmentSource.state in
    polls_running g.M.MapStep.answers (state c.args.source.now) (state c.poll_next.new.source) c.args.state.now c.in-Running.stream c.poll_next.new.self c.poll_next.result c.in-Running.is c.poll_next.ensures.same c.poll_next.ensures.answer

pub returns-in-Waiting : goal.returns-in-Waiting
returns-in-Waiting g c =
    let s = g.S.SegmentSource.state c.args.source.now in
    record { live = c.requires.live; source = moves_self _ s; answer = idle_poll g.M.MapStep.answers s (lazy_state c.args.state.now) (ap (λ z. has_begun (lazy_state z)) c.in-Waiting.is) }

pub returns-in-Refused : goal.returns-in-Refused
returns-in-Refused g c =
    let s = g.S.SegmentSource.state c.args.source.now in
    record { live = c.requires.live; source = moves_self _ s; answer = idle_poll g.M.MapStep.answers s (lazy_state c.args.state.now) (ap (λ z. has_begun (lazy_state z)) c.in-Refused.is) }

pub returns-in-Short : goal.returns-in-Short
returns-in-Short g c =
    let s = g.S.SegmentSource.state c.args.source.now in
    record { live = c.requires.live; source = moves_self _ s; answer = idle_poll g.M.MapStep.answers s (lazy_state c.args.state.now) (ap (λ z. has_begun (lazy_state z)) c.in-Short.is) }
