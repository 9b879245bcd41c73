use Rattle.std.proofs.Common.{is_some, ap, sym, ◌∙◌, ◌++◌, ◌∷◌, []}
use Rattle.scan_partition.proofs.FirstPlaces.{has_place}
use Rattle.scan_partition.proofs.FieldParts.{unnamed_here, unnamed_past}
use Rattle.scan_partition.proofs.expand.unnamed.Goals as goal
use Rattle.scan_partition.proofs.expand.unnamed.Goals.{then-not-taken+in_ok-try_clone+in_ok-push, else-not-taken}

pub loop-name-preserved : goal.loop-name-preserved
loop-name-preserved c =
    elim c.if-not-taken.branch [
      | then-not-taken+in_ok-try_clone+in_ok-push w ↦
          (λ i. (w.left-is i).items) ∙ w.in_ok-push.ensures.items ∙ (λ i. c.loop-name.invariant i ++ w.in_ok-try_clone.ensures i ∷ [])
          ∙ unnamed_here c.args.others.now c.args.names.now c.loop-name.name-index c.name-item.result c.loop-name-test.true c.name-item.is
          (sym (has_place c.args.others.now c.name-item.result) ∙ ap is_some (sym (c.in_ok-places.ensures c.name-item.result)) ∙ sym c.has-taken.ensures
          ∙ w.if-not-taken.true)
      | else-not-taken w ↦
          (λ i. (w.left-is i).items) ∙ c.loop-name.invariant
          ∙ unnamed_past c.args.others.now c.args.names.now c.loop-name.name-index c.name-item.result c.loop-name-test.true c.name-item.is
          (sym (has_place c.args.others.now c.name-item.result) ∙ ap is_some (sym (c.in_ok-places.ensures c.name-item.result)) ∙ sym c.has-taken.ensures
          ∙ w.if-not-taken.false)
    ]
