use Rattle.std.proofs.Common.{refl, sym, subst}
use Rattle.scan_partition.specs.Items.{AtMost}
use Rattle.scan_partition.proofs.Stepped.{step_into_known}
use Rattle.scan_partition.proofs.Bare.{item-bare}
use Rattle.scan_values.specs.DataType.{struct_type}
use Rattle.scan_partition.specs.Rows.{item_type}
use Rattle.scan_partition.proofs.laws.stepping_in_keeps_known_values.Goals as goal

pub returns : goal.returns
returns c = λ fs n i e v k p h g q. step_into_known (struct_type fs n) (item_type fs i) v _ k i (item-bare fs n i) refl e p (subst (AtMost i) (sym h) refl) g q
