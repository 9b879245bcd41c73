use Rattle.scan_encode.proofs.Having.{held_last}
use Rattle.scan_encode.proofs.leaf.push_segment.Goals as goal

pub returns-clause-held : goal.returns-clause-held
returns-clause-held c =
    held_last c.args.dtype.now c.args.spelling _ c.args.segments.now c.push.new.self _ _ c.push.result c.push.ensures.pushed c.in_ok-bytes.ensures.again
