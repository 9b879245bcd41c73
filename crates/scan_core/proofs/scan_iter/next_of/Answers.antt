use Rattle.std.proofs.Common.{ap}
use Rattle.scan_core.specs.LazyData.{has_begun}
use Rattle.scan_core.specs.LazyIterState.{iter_state}
use Rattle.scan_core.proofs.Iterating.{idle_next, nexts_running}
use Rattle.scan_core.proofs.scan_iter.next_of.Goals as goal

pub returns-in-Running-clause-answer : goal.returns-in-Running-clause-answer
returns-in-Running-clause-answer g c = nexts_running g.S.SegmentSource.state g.M.MapStep.answers c.args.state.now c.in-Running.iter c.next.new.self c.next.result c.in-Running.is c.next.ensures.source c.next.ensures.same c.next.ensures.answer

pub returns-in-Waiting : goal.returns-in-Waiting
returns-in-Waiting g c = record { answer = idle_next g.S.SegmentSource.state g.M.MapStep.answers (iter_state c.args.state.now) (ap (λ z. has_begun (iter_state z)) c.in-Waiting.is); idle = c.requires.idle }

pub returns-in-Refused : goal.returns-in-Refused
returns-in-Refused g c = record { answer = idle_next g.S.SegmentSource.state g.M.MapStep.answers (iter_state c.args.state.now) (ap (λ z. has_begun (iter_state z)) c.in-Refused.is); idle = c.requires.idle }

pub returns-in-Short : goal.returns-in-Short
returns-in-Short g c = record { answer = idle_next g.S.SegmentSource.state g.M.MapStep.answers (iter_state c.args.state.now) (ap (λ z. has_begun (iter_state z)) c.in-Short.is); idle = c.requires.idle }
