use Rattle.scan_readers.proofs.ListNulls.{nothing_of, never_null_made}
use Rattle.scan_readers.proofs.list.never_null_node.Goals as goal

pub constant-requires-clause-reads : goal.constant-requires-clause-reads
constant-requires-clause-reads c = nothing_of c.args.expr.now c.in_ok-copy.copy c.in_ok-copy.ensures c.requires.scope c.requires.class

pub returns : goal.returns
returns c = record { plan = never_null_made c.args.expr.now c.in_ok-copy.copy c.constant.result c.in_ok-copy.ensures c.constant.ensures c.requires.class }
