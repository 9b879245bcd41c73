use Rattle.std.proofs.Common.{◌∙◌}
use Rattle.scan_layout.proofs.Entries.{seen_clone}
use Rattle.scan_layout.proofs.reader_context.LayoutReaderContext.try_clone.Goals as goal

pub returns : goal.returns
returns g c = seen_clone c.self.inside.entries.entries c.in_ok-entries.entries.entries c.in_ok-entries.ensures.cases ∙ c.self.view_is
