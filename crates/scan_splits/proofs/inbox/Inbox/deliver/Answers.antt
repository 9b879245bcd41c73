use Rattle.scan_splits.proofs.Inboxes.{inserted}
use Rattle.scan_splits.proofs.inbox.Inbox.deliver.Goals as goal

pub returns-clause-ok : goal.returns-clause-ok
returns-clause-ok c = rw (← c.self.view_is) (inserted c.self.inside.arrivals.entries c.insert.new.self.entries c.args.id c.args.arrival c.in_ok-insert.ensures.updates.0)
