use Rattle.scan_expr.proofs.Binding.{bound_infers}
use Rattle.scan_expr.proofs.laws.what_binds_has_the_inferred_dtype.Goals as goal

pub returns : goal.returns
returns c = bound_infers
