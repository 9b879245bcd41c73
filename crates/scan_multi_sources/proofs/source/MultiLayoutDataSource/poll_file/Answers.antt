use Rattle.std.proofs.Common.{map, refl, subst}
use Rattle.scan_multi_sources.specs.ChildView.{child_data}
use Rattle.scan_multi_sources.specs.Sources.{AsksSource, multi_data}
use Rattle.scan_multi_sources.proofs.source.MultiLayoutDataSource.poll_file.Goals as goal

pub returns : goal.returns
returns g c =
    let i = c.self.inside in
    let q = g.O.LayoutReaderFactory.opener in
    let children = map child_data c.poll_child.new.children.items in
    subst (λ z. AsksSource q z (multi_data i.dtype children i.concurrency) c.args.place c.poll_child.result) c.self.view_is
    (children, c.poll_child.ensures, refl)
