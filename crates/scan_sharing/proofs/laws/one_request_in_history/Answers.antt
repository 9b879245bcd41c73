use Rattle.scan_sharing.proofs.Replayed.{are_held, are_answered, are_joined}
use Rattle.scan_sharing.proofs.laws.one_request_in_history.Goals as goal

pub returns : goal.returns
returns c = record { held = are_held; answered = are_answered; joined = are_joined }
