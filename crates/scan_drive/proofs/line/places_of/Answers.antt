use Rattle.std.proofs.Common.{◌∙◌}
use Rattle.scan_drive.proofs.Restoring.{range_pushed}
use Rattle.scan_drive.proofs.line.places_of.Goals as goal

pub loop-file-preserved : goal.loop-file-preserved
loop-file-preserved c = c.in_ok-push.ensures.items ∙ range_pushed c.loop-file.file c.loop-file.order.items c.loop-file.invariant
