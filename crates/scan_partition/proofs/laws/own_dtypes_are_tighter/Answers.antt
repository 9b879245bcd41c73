use Rattle.scan_values.specs.DataType.{struct_type}
use Rattle.scan_expr.specs.Infer.{infer}
use Rattle.scan_partition.specs.Items.{spelled}
use Rattle.scan_partition.proofs.Tighter.{item_tighter, tighter-refl}
use Rattle.scan_partition.proofs.laws.own_dtypes_are_tighter.Goals as goal

pub returns : goal.returns
returns c = λ fs n i. (item_tighter fs n i, tighter-refl (infer (struct_type fs n) (spelled i)))
