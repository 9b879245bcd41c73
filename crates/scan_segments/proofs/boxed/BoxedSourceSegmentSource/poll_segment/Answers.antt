use Rattle.scan_segments.proofs.Boxes.{passed_on}
use Rattle.scan_segments.proofs.boxed.BoxedSourceSegmentSource.poll_segment.Goals as goal

pub returns-clause-exact : goal.returns-clause-exact
returns-clause-exact g c =
    let b = c.args.self.now.0 in
    let polled = passed_on (λ k y m. (goal.SegmentSource-dyn g (k, y)).Polls.polls y c.args.id m c.poll_segment.result) _ b.vtable _ c.poll_segment.new.self b.value (search) c.poll_segment.ensures.1 in
    (polled.0, (λ i. record b { vtable = (polled.1 i).0; value = (polled.1 i).1 }), polled.2)
