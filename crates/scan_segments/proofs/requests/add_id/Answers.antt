use Rattle.std.proofs.Common.{true}
use Rattle.scan_segments.proofs.LiveSets.{set-live}
use Rattle.scan_segments.proofs.requests.add_id.Goals as goal

pub returns-in-Ok-clause-live : goal.returns-in-Ok-clause-live
returns-in-Ok-clause-live c = set-live c.args.id true c.args.ids.now.keys _ c.in-Ok.ensures.updates.0
