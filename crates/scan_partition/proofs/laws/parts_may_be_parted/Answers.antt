use Rattle.scan_partition.proofs.Partable.{bound_is_partable, struct_parts_partable, kept_parts_partable, row_parts_partable, expanded_partable, validity_partable, lengths_partable, stepped_partable}
use Rattle.scan_partition.proofs.laws.parts_may_be_parted.Goals as goal

pub returns-clause-bound : goal.returns-clause-bound
returns-clause-bound c = bound_is_partable

pub returns-clause-of_struct : goal.returns-clause-of_struct
returns-clause-of_struct c = struct_parts_partable

pub returns-clause-kept : goal.returns-clause-kept
returns-clause-kept c = kept_parts_partable

pub returns-clause-of_rows : goal.returns-clause-of_rows
returns-clause-of_rows c = row_parts_partable

pub returns-clause-expanded : goal.returns-clause-expanded
returns-clause-expanded c = expanded_partable

pub returns-clause-validity : goal.returns-clause-validity
returns-clause-validity c = validity_partable

pub returns-clause-lengths : goal.returns-clause-lengths
returns-clause-lengths c = lengths_partable

pub returns-clause-stepped : goal.returns-clause-stepped
returns-clause-stepped c = stepped_partable
