use Rattle.std.proofs.Common.{arith}
use Rattle.scan_table.specs.Spec.{own_names}
use Rattle.scan_table.proofs.Types.{own_more}
use Rattle.scan_table.proofs.request.own_names.Goals as goal

pub loop-part-preserved : goal.loop-part-preserved
loop-part-preserved c =
    own_more c.loop-part.names.items c.push.new.self.items (own_names 0 c.args.parts.now) c.args.parts.now c.loop-part.part c.in_ok-part_name.field-0
    (omega (arith, c.loop-part-test.true)) c.in_ok-part_name.ensures c.in_ok-push.ensures.items c.loop-part.invariant
