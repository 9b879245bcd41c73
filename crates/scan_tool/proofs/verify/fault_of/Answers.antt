use Rattle.scan_segments.specs.Requests.{is_live}
use Rattle.scan_tool.proofs.Idle.{none_begun, begun, idle_again}
use Rattle.scan_tool.proofs.verify.fault_of.Goals as goal

pub request-requires : goal.request-requires
request-requires g c = none_begun (is_live c.args.source.now.requests) c.args.id c.requires

pub poll_segment-answer-requires : goal.poll_segment-answer-requires
poll_segment-answer-requires g c =
    begun c.args.id (is_live c.args.source.now.requests) (is_live c.request.new.self.requests) c.in_ok-request.ensures.ok.live

pub returns : goal.returns
returns g c =
    idle_again g.F.BytesAt.bytes g.F.BytesAt.can_fail c.told.result (λ id bytes. Unit {0}) c.args.id (is_live c.args.source.now.requests) c.request.new.self c.poll_segment-answer.new.self c.poll_segment-answer.result
    c.requires c.in_ok-request.ensures.ok.live c.poll_segment-answer.ensures.polled c.poll_segment-answer.ensures.exact c.told.ensures
