use Rattle.std.proofs.Common.{Some}
use Rattle.scan_caches.specs.declared.adapter.Stage.TheVariants as stage
use Rattle.scan_caches.proofs.Links.{updated, staged}
use Rattle.scan_caches.proofs.adapter.add_stage.Goals as goal

pub returns-in-Ok-clause-live : goal.returns-in-Ok-clause-live
returns-in-Ok-clause-live c = staged c.args.id stage.Looking c.args.stages.now.entries _ (updated c.args.id (Some stage.Looking) c.args.stages.now.entries _ c.in-Ok.ensures.updates.0)

pub returns-in-Ok-clause-ok : goal.returns-in-Ok-clause-ok
returns-in-Ok-clause-ok c = updated c.args.id (Some stage.Looking) c.args.stages.now.entries _ c.in-Ok.ensures.updates.0
