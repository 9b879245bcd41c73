use Rattle.std.proofs.Common.{ap, ◌∙◌}
use Rattle.scan_layout.specs.Layout.{Layout, kids_of}
use Rattle.scan_layout.specs.Slots.{nth_kid}
use Rattle.scan_readers.specs.KindView.{layout_of, made_of}
use Rattle.scan_readers.proofs.Making.{kid_count}
use Rattle.scan_readers.proofs.Walking.{child_asks, child_asks_all}
use Rattle.scan_readers.proofs.ListKids.{kid_leaf, kid_is_leaf}
use Rattle.scan_readers.proofs.ListWalk.{leaf_within, leaf_all, asks_same}
use Rattle.scan_readers.proofs.nested.NestedReader.child_leaf.Goals as goal

pub take_child-requires : goal.take_child-requires
take_child-requires c = kid_count (kids_of c.args.self.now.layout) c.args.index c.requires.layout c.requires.kid

pub returns-in_err-child-clause-asks : goal.returns-in_err-child-clause-asks
returns-in_err-child-clause-asks c = λ e. asks_same _ c.args.self.now c.take_child.new.self c.take_child.ensures.layout c.in_err-child.ensures.kept

pub leaf-leaf-requires : goal.leaf-leaf-requires
leaf-leaf-requires c = kid_is_leaf (kids_of c.args.self.now.layout) c.args.index c.requires.layout (layout_of c.in_ok-child.child) c.requires.kid c.in_ok-child.ensures.child c.requires.leaf

pub put_child-requires : goal.put_child-requires
put_child-requires c = ap (λ (l : Layout). nth_kid (kids_of l) c.args.index) c.take_child.ensures.layout ∙ c.in_ok-child.ensures.child

pub returns-clause-asks : goal.returns-clause-asks
returns-clause-asks c = λ e. child_asks c.args.self.now c.take_child.new.self c.put_child.new.self c.args.index e c.in_ok-child.child c.in_ok-child.child
    c.take_child.ensures.layout c.in_ok-child.ensures.out c.take_child.ensures.wide c.in_ok-child.ensures.child c.in_ok-child.ensures.own
    (leaf_within (layout_of c.in_ok-child.child) e (made_of c.in_ok-child.child)) c.put_child.ensures

pub returns-clause-all : goal.returns-clause-all
returns-clause-all c = λ e. child_asks_all c.args.self.now c.take_child.new.self c.put_child.new.self c.args.index e c.in_ok-child.child c.in_ok-child.child
    c.leaf-leaf.result c.in_ok-child.ensures.out c.take_child.ensures.wide c.in_ok-child.ensures.child c.in_ok-child.ensures.own
    (leaf_all (layout_of c.in_ok-child.child) e (made_of c.in_ok-child.child) c.leaf-leaf.result
    (kid_is_leaf (kids_of c.args.self.now.layout) c.args.index c.requires.layout
    (layout_of c.in_ok-child.child) c.requires.kid c.in_ok-child.ensures.child c.requires.leaf)) c.put_child.ensures

pub returns-clause-leaf : goal.returns-clause-leaf
returns-clause-leaf c = kid_leaf c.leaf-leaf.result (kids_of c.args.self.now.layout) c.args.index (layout_of c.in_ok-child.child) c.in_ok-child.ensures.child c.leaf-leaf.ensures
