use Rattle.std.proofs.Common.{ap, sym, subst}
use Rattle.scan_partition.specs.Partable.{RowPartsPartable}
use Rattle.scan_partition.specs.RowSplit.{KeepsRows, AreOver}
use Rattle.scan_partition.specs.declared.row_idx.Partitioning.TheVariants.{RowIdx, Child, Both}
use Rattle.scan_partition.proofs.RowParts.{number_fits}
use Rattle.scan_partition.proofs.RowKeeps.{number_keeps, child_keeps, both_keeps}
use Rattle.scan_partition.proofs.RowFree.{number_over, child_over, both_over}
use Rattle.scan_partition.proofs.Partable.{partable_over_rows, number_partable, both_partable}
use Rattle.scan_partition.proofs.row_idx.partition_row_idx.Goals as goal

pub over_number-requires : goal.over_number-requires
over_number-requires c = number_fits c.args.expr.now (partable_over_rows c.args.expr.now c.requires) c.dtype-typed.ensures.faultless (sym c.in-true-false.ensures')

pub returns-in_ok-over_number-in-true-false-clause-joined : goal.returns-in_ok-over_number-in-true-false-clause-joined
returns-in_ok-over_number-in-true-false-clause-joined c = subst (KeepsRows c.args.expr.now) (sym (ap RowIdx c.in_ok-over_number-in-true-false.ensures)) (number_keeps c.args.expr.now (sym c.in-true-false.ensures'))

pub returns-in_ok-try_clone-in-false-true-clause-joined : goal.returns-in_ok-try_clone-in-false-true-clause-joined
returns-in_ok-try_clone-in-false-true-clause-joined c = subst (KeepsRows c.args.expr.now) (sym (ap Child c.in_ok-try_clone-in-false-true.ensures)) (child_keeps c.args.expr.now (sym c.in-false-true.ensures))

pub returns-in_ok-by_both-in_default-clause-joined : goal.returns-in_ok-by_both-in_default-clause-joined
returns-in_ok-by_both-in_default-clause-joined c =
    subst (KeepsRows c.args.expr.now) (sym (ap Both c.in_ok-by_both-in_default.ensures.exact)) (both_keeps c.args.expr.now c.in_ok-by_both-in_default.ensures.few)

pub returns-in_ok-over_number-in-true-false-clause-over : goal.returns-in_ok-over_number-in-true-false-clause-over
returns-in_ok-over_number-in-true-false-clause-over c = subst (AreOver c.args.expr.now.scope) (sym (ap RowIdx c.in_ok-over_number-in-true-false.ensures)) (number_over c.args.expr.now.scope c.args.expr.now.expr)

pub returns-in_ok-try_clone-in-false-true-clause-over : goal.returns-in_ok-try_clone-in-false-true-clause-over
returns-in_ok-try_clone-in-false-true-clause-over c = subst (AreOver c.args.expr.now.scope) (sym (ap Child c.in_ok-try_clone-in-false-true.ensures)) (child_over c.args.expr.now.scope c.args.expr.now.expr (sym c.in-false-true.ensures))

pub returns-in_ok-by_both-in_default-clause-over : goal.returns-in_ok-by_both-in_default-clause-over
returns-in_ok-by_both-in_default-clause-over c = subst (AreOver c.args.expr.now.scope) (sym (ap Both c.in_ok-by_both-in_default.ensures.exact)) (both_over c.args.expr.now.scope c.args.expr.now.expr)

pub by_both-requires : goal.by_both-requires
by_both-requires c = partable_over_rows c.args.expr.now c.requires

pub returns-in_ok-over_number-in-true-false-clause-again : goal.returns-in_ok-over_number-in-true-false-clause-again
returns-in_ok-over_number-in-true-false-clause-again c = subst RowPartsPartable (sym (ap RowIdx c.in_ok-over_number-in-true-false.ensures)) (number_partable c.args.expr.now c.requires (sym c.in-true-false.ensures'))

pub returns-in_ok-try_clone-in-false-true-clause-again : goal.returns-in_ok-try_clone-in-false-true-clause-again
returns-in_ok-try_clone-in-false-true-clause-again c = subst RowPartsPartable (sym (ap Child c.in_ok-try_clone-in-false-true.ensures)) c.requires

pub returns-in_ok-by_both-in_default-clause-again : goal.returns-in_ok-by_both-in_default-clause-again
returns-in_ok-by_both-in_default-clause-again c = subst RowPartsPartable (sym (ap Both c.in_ok-by_both-in_default.ensures.exact)) (both_partable c.args.expr.now c.requires)
