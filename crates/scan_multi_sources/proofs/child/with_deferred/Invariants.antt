use Rattle.std.proofs.Common.{◌≡◌, ◌++◌, map}
use Rattle.std.specs.Vec.Iter.{into_iter_items}
use Rattle.scan_multi_sources.specs.ChildView.{child_data}
use Rattle.scan_multi_sources.specs.Children.{deferred_children}
use Rattle.scan_multi_sources.proofs.child.with_deferred.Given as goal

abbrev pub invariant-loop-factory : goal.invariant-loop-factory
invariant-loop-factory g l =
    map child_data l.children.items ++ deferred_children (into_iter_items l.factory-iterator) (into_iter_items l.sizes)
    ≡ map child_data l.fn.children.items ++ deferred_children l.fn.factories.items (into_iter_items l.fn.sizes)
