use Rattle.scan_limit.proofs.Moves.{begins}
use Rattle.scan_limit.proofs.Schedules.{step_keeps}
use Rattle.scan_limit.proofs.laws.every_step_keeps_the_balance.Goals as goal

pub returns-clause-make : goal.returns-clause-make
returns-clause-make c limit = begins limit

pub returns-clause-step : goal.returns-clause-step
returns-clause-step c limit e s h ok = step_keeps limit e s h ok
