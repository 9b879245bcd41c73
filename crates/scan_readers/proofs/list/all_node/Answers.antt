use Rattle.scan_readers.proofs.ListMade.{lists_made}
use Rattle.scan_readers.proofs.list.all_node.Goals as goal

pub returns : goal.returns
returns c = record {
  plan = lists_made c.necessary_children_are_needed-law.ensures.needed c.args.expr.now c.in_ok-copy.copy c.args.node c.args.offsets.now
      c.args.elements c.in_ok-read.read c.in_ok-values.values c.evaluate.result c.in_ok-read.ensures c.in_ok-values.ensures c.in_ok-copy.ensures c.requires.class
      c.evaluate.ensures;
}
