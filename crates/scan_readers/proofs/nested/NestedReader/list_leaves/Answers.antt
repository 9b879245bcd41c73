use Rattle.std.proofs.Common.{sym, subst}
use Rattle.scan_values.specs.DataType.{nullability_of}
use Rattle.scan_layout.specs.Layout.{Layout, dtype_of}
use Rattle.scan_readers.specs.ListKids.{IsList, IsValidityOf}
use Rattle.scan_readers.specs.Reached.{offsets_part, validity_parts}
use Rattle.scan_readers.specs.StructPlans.{Asks, AsksAll}
use Rattle.scan_readers.proofs.ListKids.{offsets_leaf}
use Rattle.scan_readers.proofs.ListWalk.{asks_first, asks_more, all_more}
use Rattle.scan_readers.proofs.nested.NestedReader.list_leaves.Goals as goal

pub child_leaf-requires : goal.child_leaf-requires
child_leaf-requires c = offsets_leaf c.args.self.now.layout c.requires

pub returns-in_err-offsets-clause-asks : goal.returns-in_err-offsets-clause-asks
returns-in_err-offsets-clause-asks c = asks_first (offsets_part c.args.self.now.layout) (validity_parts (nullability_of (dtype_of c.args.self.now.layout))) c.args.self.now c.child_leaf.new.self (c.child_leaf.ensures.asks (offsets_part c.args.self.now.layout).1)

pub validity_leaf-requires : goal.validity_leaf-requires
validity_leaf-requires c = subst IsList (sym (c.child_leaf.ensures.asks (offsets_part c.args.self.now.layout).1).layout) c.requires

pub returns-in_err-validity-clause-asks : goal.returns-in_err-validity-clause-asks
returns-in_err-validity-clause-asks c = asks_more (offsets_part c.args.self.now.layout)
    (validity_parts (nullability_of (dtype_of c.args.self.now.layout))) c.args.self.now c.child_leaf.new.self c.validity_leaf.new.self
    (c.child_leaf.ensures.asks (offsets_part c.args.self.now.layout).1) (subst
    (λ (m : Layout). Asks (validity_parts (nullability_of (dtype_of m))) c.child_leaf.new.self c.validity_leaf.new.self)
    (c.child_leaf.ensures.asks (offsets_part c.args.self.now.layout).1).layout c.validity_leaf.ensures.asks)

pub returns-clause-asks : goal.returns-clause-asks
returns-clause-asks c = asks_more (offsets_part c.args.self.now.layout)
    (validity_parts (nullability_of (dtype_of c.args.self.now.layout))) c.args.self.now c.child_leaf.new.self c.validity_leaf.new.self
    (c.child_leaf.ensures.asks (offsets_part c.args.self.now.layout).1) (subst
    (λ (m : Layout). Asks (validity_parts (nullability_of (dtype_of m))) c.child_leaf.new.self c.validity_leaf.new.self)
    (c.child_leaf.ensures.asks (offsets_part c.args.self.now.layout).1).layout c.validity_leaf.ensures.asks)

pub returns-clause-all : goal.returns-clause-all
returns-clause-all c = all_more (offsets_part c.args.self.now.layout)
    (validity_parts (nullability_of (dtype_of c.args.self.now.layout))) c.args.self.now c.child_leaf.new.self c.validity_leaf.new.self
    (c.child_leaf.ensures.asks (offsets_part c.args.self.now.layout).1).layout (c.in_ok-offsets.ensures.all (offsets_part c.args.self.now.layout).1)
    (subst (λ (m : Layout). AsksAll (validity_parts (nullability_of (dtype_of m))) c.child_leaf.new.self c.validity_leaf.new.self)
    (c.child_leaf.ensures.asks (offsets_part c.args.self.now.layout).1).layout c.in_ok-validity.ensures.all)

pub returns-clause-leaves : goal.returns-clause-leaves
returns-clause-leaves c = record { offsets = c.in_ok-offsets.ensures.leaf; validity = subst (λ (m : Layout). IsValidityOf m c.in_ok-validity.validity) (c.child_leaf.ensures.asks (offsets_part c.args.self.now.layout).1).layout c.in_ok-validity.ensures.leaf }
