use Rattle.std.proofs.Common.{length}
use Rattle.scan_pool.proofs.pool.+run_all.Given as goal

-- how many pieces there are
abbrev pub decreases-run_all : goal.decreases-run_all
decreases-run_all g l = length l.works.now.items
