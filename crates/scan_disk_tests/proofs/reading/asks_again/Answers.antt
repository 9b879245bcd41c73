use Rattle.scan_segments.specs.Requests.{is_live}
use Rattle.scan_disk_tests.proofs.Asking.{none_begun, begun, none_ended}
use Rattle.scan_disk_tests.proofs.reading.asks_again.Goals as goal

pub request-requires : goal.request-requires
request-requires c = none_begun (is_live c.args.source.now.requests) c.from-id.result c.requires

pub drop_request-requires : goal.drop_request-requires
drop_request-requires c = begun c.from-id.result (is_live c.args.source.now.requests) (is_live c.request.new.self.requests) c.in_ok-request.ensures.ok.live

pub segment_of-requires : goal.segment_of-requires
segment_of-requires c =
    none_ended c.from-id.result (is_live c.args.source.now.requests) (is_live c.request.new.self.requests) (is_live c.drop_request.new.self.requests)
    c.requires c.in_ok-request.ensures.ok.live c.drop_request.ensures.live
