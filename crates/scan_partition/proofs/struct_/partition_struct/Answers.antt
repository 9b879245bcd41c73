use Rattle.std.proofs.Common.{sym, subst, ◌∙◌}
use Rattle.scan_partition.specs.Partable.{PartsPartable}
use Rattle.scan_partition.specs.Had.{HasItems}
use Rattle.scan_partition.specs.Unnumbered.{SplitUnnumbered}
use Rattle.scan_partition.proofs.Had.{split_had}
use Rattle.scan_partition.proofs.Unnumbered.{split_free}
use Rattle.scan_partition.proofs.Choosing.{some_keeps}
use Rattle.scan_partition.proofs.Loops.{if_ok}
use Rattle.scan_partition.proofs.Partable.{partable_over, items_partable}
use Rattle.scan_partition.proofs.struct_.partition_struct.Goals as goal

pub returns-in-Some-clause-joined : goal.returns-in-Some-clause-joined
returns-in-Some-clause-joined c = some_keeps c.args.expr.now c.in-Some.projection (partable_over c.args.expr.now c.requires.partable c.requires.structure) (sym c.in-Some.is ∙ c.in_ok-projection.ensures)

pub returns-in-Some-clause-again : goal.returns-in-Some-clause-again
returns-in-Some-clause-again c = tt

pub returns-in-None-clause-again : goal.returns-in-None-clause-again
returns-in-None-clause-again c = if_ok _ _ c.by_items.result (λ p h. subst PartsPartable (sym h) (items_partable c.args.expr.now c.requires.partable c.requires.structure)) c.by_items.ensures.exact

pub returns-in-Some-clause-items : goal.returns-in-Some-clause-items
returns-in-Some-clause-items c = tt

pub returns-in-Some-clause-numbers : goal.returns-in-Some-clause-numbers
returns-in-Some-clause-numbers c = λ _. tt

pub returns-in-None-clause-items : goal.returns-in-None-clause-items
returns-in-None-clause-items c = if_ok _ _ c.by_items.result (λ p h. subst (HasItems c.args.expr.now.scope) (sym h) (split_had c.args.expr.now c.requires.partable c.requires.structure)) c.by_items.ensures.exact

pub returns-in-None-clause-numbers : goal.returns-in-None-clause-numbers
returns-in-None-clause-numbers c = if_ok _ _ c.by_items.result (λ p h r. subst SplitUnnumbered (sym h) (split_free c.args.expr.now.scope c.args.expr.now.expr r)) c.by_items.ensures.exact
