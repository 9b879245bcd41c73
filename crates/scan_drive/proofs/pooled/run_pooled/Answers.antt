use Rattle.std.proofs.Common.{rules, ap}
use Rattle.scan_drive.proofs.Pooling.{runs_there}
use Rattle.scan_drive.proofs.pooled.run_pooled.Goals as goal

pub returns-clause-runs : goal.returns-clause-runs
returns-clause-runs g c =
    let e = c.with_threads.ensures in
    runs_there _ _ _ _ _ _ _ _ _ _ _ _ _ _ _ _ _ _ _ _ _ _ _ _ _ (ap (λ s. s.state) e.shows) (ap (λ s. s.state) e.leaves) (search rules)
