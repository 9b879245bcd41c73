use Rattle.std.proofs.Common.{None}
use Rattle.scan_caches.proofs.Links.{updated, unstaged}
use Rattle.scan_caches.proofs.adapter.end.Goals as goal

pub returns-clause-live : goal.returns-clause-live
returns-clause-live c = unstaged c.args.id c.args.stages.now.entries _ (updated c.args.id None c.args.stages.now.entries _ c.remove.ensures.updates.0)

pub returns-clause-stages : goal.returns-clause-stages
returns-clause-stages c = updated c.args.id None c.args.stages.now.entries _ c.remove.ensures.updates.0
