use Rattle.std.proofs.Common.{ap}
use Rattle.scan_pool.proofs.Exchanges.{backs}
use Rattle.scan_pool.proofs.mail.try_take_back.Goals as goal

pub try_pop_as-requires-clause-rule : goal.try_pop_as-requires-clause-rule
try_pop_as-requires-clause-rule g c = backs g.T.Work.done _ _ (ap (λ v. v.sends) c.requires.sent.1)
