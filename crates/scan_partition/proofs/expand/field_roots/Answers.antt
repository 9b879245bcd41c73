use Rattle.scan_partition.proofs.FieldParts.{item_holds}
use Rattle.scan_partition.proofs.expand.field_roots.Goals as goal

pub field_root-requires : goal.field_root-requires
field_root-requires c = item_holds c.args.scope.now.value c.args.names.now c.loop-name.name-index c.name-item.result _ c.loop-name-test.true c.name-item.is c.in_ok-try_clone.ensures c.requires
