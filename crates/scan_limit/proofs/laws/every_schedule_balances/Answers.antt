use Rattle.scan_limit.specs.Schedule.{left_by, account_at}
use Rattle.scan_limit.proofs.Moves.{has_all}
use Rattle.scan_limit.proofs.Schedules.{account_there, schedule_keeps}
use Rattle.scan_limit.proofs.laws.every_schedule_balances.Goals as goal

pub returns-clause-claims : goal.returns-clause-claims
returns-clause-claims c limit past ok = (schedule_keeps limit past ok).claims

pub returns-clause-grants : goal.returns-clause-grants
returns-clause-grants c limit past ok = (schedule_keeps limit past ok).grants

pub returns-clause-whole : goal.returns-clause-whole
returns-clause-whole c limit past seat ok there whole =
    has_all limit seat (account_at (left_by limit past) seat) (left_by limit past) (schedule_keeps limit past ok) (account_there (left_by limit past).views seat there) whole
