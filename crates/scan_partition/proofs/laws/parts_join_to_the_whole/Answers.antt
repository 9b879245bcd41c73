use Rattle.std.proofs.Common.{ap, refl, sym, subst, ◌∙◌}
use Rattle.scan_partition.specs.Items.{AtMost}
use Rattle.scan_partition.proofs.Through.{step_into-through}
use Rattle.scan_partition.proofs.Expanded.{struct_partition, expand_seen, expand-expanded}
use Rattle.scan_partition.proofs.Having.{cuts_plain, cuts_items, expand-items}
use Rattle.scan_values.specs.DataType.{struct_type}
use Rattle.scan_partition.specs.Partition.{cuts}
use Rattle.scan_partition.specs.Expand.{expand}
use Rattle.scan_partition.specs.Rows.{item_type}
use Rattle.scan_partition.proofs.Joins.{parts_join}
use Rattle.scan_partition.proofs.laws.parts_join_to_the_whole.Goals as goal

pub returns-clause-several : goal.returns-clause-several
returns-clause-several c = λ fs n e v w k a few.
    let h = struct_partition fs n e v w k a.distinct a.row a.read (cuts_plain fs n (cuts (expand (struct_type fs n) e)) a.free (cuts_items fs n (expand (struct_type fs n) e) (expand-items fs n e a.found))) few in
    (ap (λ x. x.0) h, ap (λ x. x.1) h)

pub returns-clause-one : goal.returns-clause-one
returns-clause-one c = λ fs n e v w k i a u.
    let h = step_into-through (λ j. (item_type fs j, w j)) k i (expand (struct_type fs n) e) (expand-expanded (struct_type fs n) e) (subst (AtMost i) (sym u) refl) ∙ expand_seen fs w k n v a.distinct a.row a.read e in
    (ap (λ x. x.0) h, ap (λ x. x.1) h)

pub returns-clause-rows : goal.returns-clause-rows
returns-clause-rows c = parts_join
