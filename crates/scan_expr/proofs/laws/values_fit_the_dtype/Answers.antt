use Rattle.scan_expr.proofs.Sound.{eval_fits}
use Rattle.scan_expr.proofs.laws.values_fit_the_dtype.Goals as goal

pub returns : goal.returns
returns c = eval_fits
