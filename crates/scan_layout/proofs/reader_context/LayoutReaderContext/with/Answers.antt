use Rattle.std.proofs.Common.{◌∙◌, ap}
use Rattle.std.specs.Arc.{arc_value}
use Rattle.std.specs.FinMap as map
use Rattle.scan_layout.proofs.Entries.{seen_inserted}
use Rattle.scan_layout.proofs.reader_context.LayoutReaderContext.with.Goals as goal

pub returns : goal.returns
returns g c =
    seen_inserted c.context.inside.entries.entries c.insert.new.self.entries c.args.id c.args.value c.in_ok-insert.ensures.updates.0
    ∙ ap (λ m. map.insert m c.args.id (arc_value c.args.value)) (c.context.view_is ∙ c.in_ok-context.ensures)
