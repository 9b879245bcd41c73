use Rattle.std.proofs.Common.{ap, sym, ◌∙◌}
use Rattle.scan_expr.specs.Bound.{bound_of}
use Rattle.scan_partition.specs.Leaves.{groups_in, scope_in}
use Rattle.scan_partition.specs.Partition.{found, leaf_of}
use Rattle.scan_partition.specs.Soles.{item_seen}
use Rattle.scan_partition.proofs.Adding.{found_none}
use Rattle.scan_partition.proofs.Loops.{if_ok}
use Rattle.scan_partition.proofs.Planting.{leaf_reads}
use Rattle.scan_partition.proofs.leaves.Leaves.leaf.Goals as goal

pub item_access-requires : goal.item_access-requires
item_access-requires c = leaf_reads (scope_in c.args.self.now) (found (item_seen c.args.leaf.item) (groups_in c.args.self.now)) (item_seen c.args.leaf.item) c.args.leaf.number c.requires

pub returns-in-None : goal.returns-in-None
returns-in-None c =
    if_ok _ _ c.item_access.result
    (λ b h. h ∙ ap (λ es. bound_of (scope_in c.args.self.now) (leaf_of es (item_seen c.args.leaf.item) c.args.leaf.number)) (sym (found_none (item_seen c.args.leaf.item) c.args.self.now.plan.now.groups.items (sym c.in-None.ensures))))
    c.item_access.ensures
