use Rattle.std.proofs.Common.{rules}
use Rattle.scan_pool.proofs.Exchanges.{begins, forks}
use Rattle.scan_pool.proofs.seat.sides.Goals as goal

pub ruled-requires-clause-rule : goal.ruled-requires-clause-rule
ruled-requires-clause-rule g c = begins g.T.Work.done

pub another-other-requires-clause-rule : goal.another-other-requires-clause-rule
another-other-requires-clause-rule g c = forks g.T.Work.done _ _ (search rules) (search rules)
