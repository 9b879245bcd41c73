use Rattle.scan_readers.proofs.ListMade.{valid_lists_made}
use Rattle.scan_readers.proofs.list.valid_all_node.Goals as goal

pub returns : goal.returns
returns c = record {
  plan = valid_lists_made c.necessary_children_are_needed-law.ensures.needed c.args.expr.now c.in_ok-copy.copy c.args.node c.args.offsets.now
      c.args.validity.now c.args.elements c.in_ok-read.read c.in_ok-values.values c.in_ok-under.under c.evaluate.result c.in_ok-read.ensures
      c.in_ok-values.ensures c.in_ok-under.ensures c.in_ok-copy.ensures c.requires.class c.evaluate.ensures;
}
