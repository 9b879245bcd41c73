use Rattle.std.proofs.Common.{◌∙◌, sym}
use Rattle.scan_layout.proofs.Entries.{get_seen, lent}
use Rattle.scan_layout.proofs.reader_context.LayoutReaderContext.get.Goals as goal

pub returns : goal.returns
returns g c = rw (← c.self.view_is) (lent c.get.result _ c.get.ensures.value ∙ sym (get_seen c.self.inside.entries.entries c.args.id))
