use Rattle.std.proofs.Common.{ap}
use Rattle.scan_pool.proofs.Exchanges.{puts}
use Rattle.scan_pool.proofs.mail.try_put.Goals as goal

pub try_push_as-requires-clause-rule : goal.try_push_as-requires-clause-rule
try_push_as-requires-clause-rule g c = let has = c.requires.has in puts g.T.Work.done _ _ _ _ has.0 (ap (λ v. v.serves) has.1) (ap (λ v. v.has) has.1) has.2
