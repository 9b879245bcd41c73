use Rattle.scan_readers.proofs.ListMade.{of_class, maybe_lists, maybe_lengths, valid_lengths_made}
use Rattle.scan_readers.proofs.list.valid_lengths_node.Goals as goal

pub by_lengths_node-requires-clause-scope : goal.by_lengths_node-requires-clause-scope
by_lengths_node-requires-clause-scope c = maybe_lists c.args.expr.now.scope c.requires.scope

pub by_lengths_node-requires-clause-class : goal.by_lengths_node-requires-clause-class
by_lengths_node-requires-clause-class c = of_class _ c.requires.class

pub by_lengths_node-requires-clause-dtype : goal.by_lengths_node-requires-clause-dtype
by_lengths_node-requires-clause-dtype c = (maybe_lengths c.args.expr.now.scope c.in_ok-lengths.lengths c.lengths.result _ c.in_ok-read.read c.requires.scope c.lengths.ensures c.in_ok-lengths.ensures).0

pub by_lengths_node-requires-clause-lengths : goal.by_lengths_node-requires-clause-lengths
by_lengths_node-requires-clause-lengths c = (maybe_lengths c.args.expr.now.scope c.in_ok-lengths.lengths c.lengths.result _ c.in_ok-read.read c.requires.scope c.lengths.ensures c.in_ok-lengths.ensures).1

pub returns : goal.returns
returns c = record {
  plan = valid_lengths_made c.necessary_children_are_needed-law.ensures.needed c.args.expr.now c.args.offsets.now c.args.validity.now
      c.args.elements c.in_ok-read.read c.lengths.result c.in_ok-lengths.lengths c.by_lengths_node.result c.in_ok-read.ensures c.lengths.ensures
      c.in_ok-lengths.ensures c.requires.class c.by_lengths_node.ensures;
}
