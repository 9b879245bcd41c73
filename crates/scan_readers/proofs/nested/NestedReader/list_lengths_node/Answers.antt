use Rattle.std.proofs.Common.{◌≡◌, Some, sym, subst}
use Rattle.std.specs.Prelude.{option_map}
use Rattle.scan_layout.specs.Layout.{Layout, kids_of, rows_of}
use Rattle.scan_layout.specs.Slots.{nth_kid}
use Rattle.scan_readers.specs.ListKids.{IsList, IsValidityOf}
use Rattle.scan_readers.specs.ListPlans.{IsNeverNull, IsMaybeNull}
use Rattle.scan_readers.proofs.ListKids.{never_null, maybe_null, numbers, lengths_plan, valid_lengths_plan}
use Rattle.scan_readers.proofs.nested.NestedReader.list_lengths_node.Goals as goal

pub element_count-elements-requires : goal.element_count-elements-requires
element_count-elements-requires c = subst IsList (sym c.list_leaves.ensures.asks.layout) c.requires.list

pub lengths_node-requires-clause-scope : goal.lengths_node-requires-clause-scope
lengths_node-requires-clause-scope c = subst IsNeverNull (sym c.requires.scope) (never_null c.args.self.now.layout c.requires.list (subst (IsValidityOf c.args.self.now.layout) c.in-None.is c.in_ok-leaves.ensures.leaves.validity))

pub lengths_node-requires-clause-numbers : goal.lengths_node-requires-clause-numbers
lengths_node-requires-clause-numbers c = numbers c.args.self.now.layout c.in_ok-leaves.leaves.offsets c.requires.list c.in_ok-leaves.ensures.leaves.offsets

pub returns-in-None-clause-plan : goal.returns-in-None-clause-plan
returns-in-None-clause-plan c = lengths_plan c.args.self.now.layout c.args.expr.now c.in_ok-leaves.leaves.offsets c.element_count-elements.result
    c.lengths_node.result c.requires.list c.in_ok-leaves.ensures.leaves.offsets
    (subst (IsValidityOf c.args.self.now.layout) c.in-None.is c.in_ok-leaves.ensures.leaves.validity)
    (subst (λ (m : Layout). option_map rows_of (nth_kid (kids_of m) 0) ≡ Some c.element_count-elements.result) c.list_leaves.ensures.asks.layout
    c.element_count-elements.ensures) c.requires.scope c.lengths_node.ensures.plan

pub valid_lengths_node-requires-clause-scope : goal.valid_lengths_node-requires-clause-scope
valid_lengths_node-requires-clause-scope c = subst IsMaybeNull (sym c.requires.scope) (maybe_null c.args.self.now.layout c.in-Some.validity c.requires.list (subst (IsValidityOf c.args.self.now.layout) c.in-Some.is c.in_ok-leaves.ensures.leaves.validity)).0

pub valid_lengths_node-requires-clause-numbers : goal.valid_lengths_node-requires-clause-numbers
valid_lengths_node-requires-clause-numbers c = numbers c.args.self.now.layout c.in_ok-leaves.leaves.offsets c.requires.list c.in_ok-leaves.ensures.leaves.offsets

pub valid_lengths_node-requires-clause-validity : goal.valid_lengths_node-requires-clause-validity
valid_lengths_node-requires-clause-validity c = (maybe_null c.args.self.now.layout c.in-Some.validity c.requires.list (subst (IsValidityOf c.args.self.now.layout) c.in-Some.is c.in_ok-leaves.ensures.leaves.validity)).1

pub returns-clause-plan : goal.returns-clause-plan
returns-clause-plan c = valid_lengths_plan c.args.self.now.layout c.args.expr.now c.in_ok-leaves.leaves.offsets c.element_count-elements.result
    c.in-Some.validity c.valid_lengths_node.result c.requires.list c.in_ok-leaves.ensures.leaves.offsets
    (subst (IsValidityOf c.args.self.now.layout) c.in-Some.is c.in_ok-leaves.ensures.leaves.validity)
    (subst (λ (m : Layout). option_map rows_of (nth_kid (kids_of m) 0) ≡ Some c.element_count-elements.result) c.list_leaves.ensures.asks.layout
    c.element_count-elements.ensures) c.requires.scope c.valid_lengths_node.ensures.plan
