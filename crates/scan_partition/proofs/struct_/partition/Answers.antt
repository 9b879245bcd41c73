use Rattle.std.proofs.Common.{◌≡◌, ◌<◌, ◌^◌, length, sym, subst}
use Rattle.scan_partition.specs.Partable.{ArePartable}
use Rattle.scan_partition.specs.Had.{AreItemsOf}
use Rattle.scan_partition.specs.Unnumbered.{DividedUnnumbered}
use Rattle.scan_partition.proofs.Had.{items_had}
use Rattle.scan_partition.proofs.Unnumbered.{kept_free}
use Rattle.scan_partition.specs.Partition.{cuts}
use Rattle.scan_partition.specs.Divided.{Divided, divided, kept}
use Rattle.scan_partition.specs.Split.{KeptJoins}
use Rattle.scan_partition.proofs.Loops.{if_ok, if_ok_both}
use Rattle.scan_partition.proofs.Keeping.{kept_joins, kept_parts_fit, kept_root_fits}
use Rattle.scan_partition.proofs.Partable.{partable_over, kept_parts_partable}
use Rattle.scan_partition.proofs.struct_.partition.Goals as goal

pub divide-requires-clause-parts : goal.divide-requires-clause-parts
divide-requires-clause-parts c = kept_parts_fit c.args.expr.now (partable_over c.args.expr.now c.requires.partable c.requires.structure) c.requires.expanded c.dtype-typed.ensures.faultless

pub divide-requires-clause-root : goal.divide-requires-clause-root
divide-requires-clause-root c = kept_root_fits c.args.expr.now (partable_over c.args.expr.now c.requires.partable c.requires.structure) c.requires.expanded c.dtype-typed.ensures.faultless

pub returns-clause-joined : goal.returns-clause-joined
returns-clause-joined c =
    if_ok_both (λ p. p ≡ divided (kept c.args.expr.now.scope) c.args.expr.now.expr) (λ _. length (cuts c.args.expr.now.expr) < 2 ^ 64) (KeptJoins c.args.expr.now) c.divide.result
    (λ p h few. subst (KeptJoins c.args.expr.now) (sym h) (kept_joins c.args.expr.now (partable_over c.args.expr.now c.requires.partable c.requires.structure) c.requires.expanded c.dtype-typed.ensures.faultless few)) c.divide.ensures.exact c.divide.ensures.few

pub returns-clause-again : goal.returns-clause-again
returns-clause-again c = if_ok _ _ c.divide.result (λ p h. subst (λ (x : Divided). ArePartable x.parts) (sym h) (kept_parts_partable c.args.expr.now c.requires.partable c.requires.expanded)) c.divide.ensures.exact

pub returns-clause-items : goal.returns-clause-items
returns-clause-items c = if_ok _ _ c.divide.result (λ p h r. subst (λ (x : Divided). AreItemsOf c.args.expr.now.scope x.items) (sym h) (items_had c.args.expr.now.scope c.args.expr.now.expr r)) c.divide.ensures.exact

pub returns-clause-numbers : goal.returns-clause-numbers
returns-clause-numbers c = if_ok _ _ c.divide.result (λ p h r. subst DividedUnnumbered (sym h) (kept_free c.args.expr.now.scope c.args.expr.now.expr r)) c.divide.ensures.exact
