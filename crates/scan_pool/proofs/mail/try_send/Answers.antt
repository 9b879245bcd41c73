use Rattle.std.proofs.Common.{ap, refl}
use Rattle.scan_pool.proofs.Exchanges.{sends}
use Rattle.scan_pool.proofs.mail.try_send.Goals as goal

pub try_push_as-requires-clause-rule : goal.try_push_as-requires-clause-rule
try_push_as-requires-clause-rule g c = sends g.T.Work.done _ _ _ _ (ap (λ v. v.sends) c.requires.idle) (ap (λ v. v.sent) c.requires.idle) refl
