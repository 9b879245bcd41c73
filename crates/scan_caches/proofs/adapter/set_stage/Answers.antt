use Rattle.std.proofs.Common.{Some}
use Rattle.scan_caches.proofs.Links.{updated, restaged}
use Rattle.scan_caches.proofs.adapter.set_stage.Goals as goal

pub returns-clause-live : goal.returns-clause-live
returns-clause-live c = restaged c.args.id c.args.stage c.args.stages.now.entries _ c.requires (updated c.args.id (Some c.args.stage) c.args.stages.now.entries _ c.in-Ok.ensures.updates.0)

pub returns-clause-stages : goal.returns-clause-stages
returns-clause-stages c = updated c.args.id (Some c.args.stage) c.args.stages.now.entries _ c.in-Ok.ensures.updates.0
