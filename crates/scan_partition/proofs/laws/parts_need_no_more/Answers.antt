use Rattle.scan_partition.proofs.PartNeeds.{parts_need, kept_need}
use Rattle.scan_partition.proofs.RowNeeds.{row_parts_need}
use Rattle.scan_partition.proofs.laws.parts_need_no_more.Goals as goal

pub returns-clause-of_struct : goal.returns-clause-of_struct
returns-clause-of_struct c = parts_need

pub returns-clause-kept : goal.returns-clause-kept
returns-clause-kept c = kept_need

pub returns-clause-of_rows : goal.returns-clause-of_rows
returns-clause-of_rows c = row_parts_need
