use Rattle.std.proofs.Common.{◌∙◌, sym}
use Rattle.scan_segments.proofs.Lookups.{get-from_entries-lookup}
use Rattle.scan_splits.proofs.inbox.Inbox.get.Goals as goal

pub returns : goal.returns
returns c = rw (← c.self.view_is) (c.get.ensures.value ∙ sym (get-from_entries-lookup c.self.inside.arrivals.entries c.args.id))
