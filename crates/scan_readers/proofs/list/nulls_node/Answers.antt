use Rattle.scan_readers.proofs.ListNulls.{nulls_made}
use Rattle.scan_readers.proofs.list.nulls_node.Goals as goal

pub returns : goal.returns
returns c = record { plan = nulls_made c.necessary_children_are_needed-law.ensures.needed c.args.expr.now c.in_ok-over.over c.args.validity.now c.in_ok-leaf.leaf c.evaluate.result c.in_ok-over.ensures.own c.in_ok-leaf.ensures c.evaluate.ensures }
