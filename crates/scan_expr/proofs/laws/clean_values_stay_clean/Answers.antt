use Rattle.scan_expr.proofs.Clean.{eval_clean}
use Rattle.scan_expr.proofs.laws.clean_values_stay_clean.Goals as goal

pub returns : goal.returns
returns c = eval_clean
