use Rattle.std.proofs.Common.{◌∙◌, ap, sym, is_some}
use Rattle.scan_segments.proofs.Lookups.{get-from_entries-lookup}
use Rattle.scan_splits.proofs.inbox.Inbox.has.Goals as goal

pub returns : goal.returns
returns c = rw (← c.self.view_is) (c.contains_key.ensures ∙ ap is_some (sym (get-from_entries-lookup c.self.inside.arrivals.entries c.args.id)))
