use Rattle.std.proofs.Common.{ap}
use Rattle.std.proofs.lemmas.Result.{IfOk-weaker}
use Rattle.scan_caches.specs.Bounded.{keyed_state}
use Rattle.scan_run.proofs.run.new_cache.Goals as goal

pub returns-clause-empty : goal.returns-clause-empty
returns-clause-empty g c = IfOk-weaker c.with_hasher.result _ _ (λ x h. ap keyed_state h) c.with_hasher.ensures
