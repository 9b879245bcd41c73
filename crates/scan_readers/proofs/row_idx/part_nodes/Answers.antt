use borrow.Author.Rules.{rules}
use Rattle.std.proofs.Common.{◌≡◌, ◌<◌, ◌≤◌, ◌++◌, ◌∷◌, [], List, Some, length, slice_index_or, ap, subst, ◌∙◌}
use Rattle.std.specs.List.{slice_get}
use Rattle.scan_partition.specs.declared.row_idx.Partition.{Partition}
use Rattle.scan_partition.specs.declared.row_idx.Partition.TheVariants.{RowIdx}
use Rattle.scan_readers.specs.RowParts.{IsPartPlan}
use Rattle.scan_readers.proofs.RowWalk.{over_at, partable_at, own_place, walked_next, walked_end}
use Rattle.scan_readers.proofs.row_idx.part_nodes.Goals as goal

pub part_node-requires-clause-over : goal.part_node-requires-clause-over
part_node-requires-clause-over g c =
    let parted = c.args.parted.now in
    let below : c.loop-i.i < length parted.items = search rules in
    let at : Some c.part.result.now ≡ slice_get parted.parts c.loop-i.i = search rules in
    rw (c.items-items.ensures.items, c.loop-i.invariant.same) (over_at (g.R.LayoutReader.state c.args.child.now).dtype parted.items parted.parts c.loop-i.i RowIdx c.part.result.now c.requires.over below at)

pub part_node-requires-clause-bound : goal.part_node-requires-clause-bound
part_node-requires-clause-bound g c =
    let at : Some c.part.result.now ≡ slice_get c.args.parted.now.parts c.loop-i.i = search rules in
    partable_at c.args.parted.now.parts c.loop-i.i c.part.result.now c.requires.bound at

pub loop-i-preserved : goal.loop-i-preserved
loop-i-preserved g c =
    let s = g.R.LayoutReader.state in
    let k = g.R.LayoutReader.kept in
    let parted = c.args.parted.now in
    let i = c.loop-i.i in
    let n = c.in_ok-part_node.field-0 in
    let below : i < length parted.items = search rules in
    let at : Some c.part.result.now ≡ slice_get parted.parts i = search rules in
    let made = subst (λ (is : List Partition). IsPartPlan (s c.loop-i.child) c.args.first (slice_index_or is i RowIdx) c.part.result.now n) c.items-items.ensures.items c.in_ok-part_node.ensures.plan in
    let pushed : c.push.new.self.items ≡ c.loop-i.nodes.items ++ n ∷ [] = search (rules, c.in_ok-push.ensures.items) in
    rw pushed (walked_next (s c.args.child.now) (s c.loop-i.child) (s c.part_node.new.child) (k c.args.child.now) (k c.loop-i.child) (k c.part_node.new.child) c.args.first parted.items parted.parts i c.loop-i.nodes.items (slice_index_or parted.items i RowIdx) c.part.result.now n
    c.loop-i.invariant below (own_place parted.items i RowIdx below) at c.in_ok-part_node.ensures.same c.in_ok-part_node.ensures.stay made)

pub returns-clause-plans : goal.returns-clause-plans
returns-clause-plans g c =
    let s = g.R.LayoutReader.state in
    let k = g.R.LayoutReader.kept in
    let parted = c.args.parted.now in
    let past : length parted.items ≤ c.loop-i.i = search rules in
    let even : length parted.parts ≡ length parted.items = c.items-items.ensures.even ∙ ap length c.items-items.ensures.items in
    rw c.new.ensures (walked_end (s c.args.child.now) (s c.loop-i.child) (k c.args.child.now) (k c.loop-i.child) c.args.first parted.items parted.parts c.loop-i.i c.loop-i.nodes.items c.loop-i.invariant past even)
