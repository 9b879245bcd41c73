use Rattle.std.proofs.Common.{ap, ◌∙◌}
use Rattle.scan_readers.specs.KindView.{leaf_of}
use Rattle.scan_readers.specs.Made.{none_made}
use Rattle.scan_readers.proofs.PlansOf.{leaf_built}
use Rattle.scan_readers.proofs.kind.ReaderKind.of_layout.Goals as goal

pub returns-in_ok-leaf-in-Leaf-clause-layout : goal.returns-in_ok-leaf-in-Leaf-clause-layout
returns-in_ok-leaf-in-Leaf-clause-layout c = leaf_built _ c.args.layout.now.value _ _ _ _ _ _ (c.node.view_is ∙ c.deref-node.ensures) c.in-Leaf.is c.requires.form c.in_ok-leaf-in-Leaf.ensures

pub returns-in_ok-leaf-in-Leaf-clause-made : goal.returns-in_ok-leaf-in-Leaf-clause-made
returns-in_ok-leaf-in-Leaf-clause-made c = ap none_made (leaf_built (leaf_of c.in_ok-leaf-in-Leaf.leaf) c.args.layout.now.value _ _ _ _ _ _ (c.node.view_is ∙ c.deref-node.ensures) c.in-Leaf.is c.requires.form c.in_ok-leaf-in-Leaf.ensures)
