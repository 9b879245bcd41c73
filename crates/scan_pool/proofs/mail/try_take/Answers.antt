use Rattle.std.proofs.Common.{ap}
use Rattle.scan_pool.proofs.Exchanges.{takes}
use Rattle.scan_pool.proofs.mail.try_take.Goals as goal

pub try_pop_as-requires-clause-rule : goal.try_pop_as-requires-clause-rule
try_pop_as-requires-clause-rule g c = takes g.T.Work.done _ _ (ap (λ v. v.serves) c.requires.idle)
