use Rattle.std.proofs.Common.{ap}
use Rattle.std.proofs.lemmas.Result.{IfOk-weaker}
use Rattle.scan_caches.specs.Bounded.{keyed_state}
use Rattle.scan_run.proofs.generate.scan.new_cache.Goals as goal

pub returns : goal.returns
returns c = IfOk-weaker c.new.result _ _ (λ x h. ap keyed_state h) c.new.ensures
