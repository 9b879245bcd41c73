use Rattle.std.proofs.Common.{false}
use Rattle.scan_segments.proofs.LiveSets.{set-live}
use Rattle.scan_segments.proofs.requests.drop_id.Goals as goal

pub returns-clause-live : goal.returns-clause-live
returns-clause-live c = set-live c.args.id false c.args.ids.now.keys _ c.remove.ensures.updates.0
