use Rattle.std.proofs.Common.{◌≡◌, get_or, map, ◌++◌, sym, ap, ◌∙◌}
use Rattle.std.proofs.lemmas.List.{map-append, append-nil}
use Rattle.std.proofs.Math.ListN.{drop_of_length-le}
use Rattle.scan_values.specs.Marked.{chained}
use Rattle.scan_values.specs.Val.{marked}
use Rattle.scan_expr.proofs.Evals.{mark, marks}
use Rattle.scan_expr.proofs.Placing.{marks_there, chained-there, nth-at, left_kept, left_past}
use Rattle.scan_expr.proofs.evaluate.left_fields.Goals as goal
use Rattle.scan_expr.proofs.evaluate.left_fields.Goals.{then-place-items+in_ok-try_clone+in_ok-push, else-place-items}

pub loop-place-preserved : goal.loop-place-preserved
loop-place-preserved c =
    let vs = c.as_slice-items.result.now in
    let ps = c.args.places.now in
    let i = c.loop-place.place-index in
    let p = get_or ps i 0 in
    let done = map mark c.loop-place.left.items in
    elim c.if-place-items.branch [
      | then-place-items+in_ok-try_clone+in_ok-push w ↦
          let here = nth-at vs p w.index-items-place.result w.if-place-items.true w.index-items-place.is ∙ ap marked (sym w.in_ok-try_clone.ensures) in
          rw (w.left-is, w.in_ok-push.ensures.items, map-append) (left_kept vs ps i done (mark w.in_ok-try_clone.field-0) c.loop-place-test.true w.if-place-items.true here c.loop-place.invariant)
      | else-place-items w ↦ rw (w.left-is) (left_past vs ps i done c.loop-place-test.true w.if-place-items.false c.loop-place.invariant)
    ]

pub returns : goal.returns
returns c =
    let vs = c.as_slice-items.result.now in
    let ps = c.args.places.now in
    let done : map mark c.loop-place.left.items ≡ marks_there vs ps =
    sym (append-nil (map mark c.loop-place.left.items)) ∙ ap (λ qs. map mark c.loop-place.left.items ++ marks_there vs qs) (sym (drop_of_length-le ps c.loop-place-test.false)) ∙ c.loop-place.invariant in
    rw (c.new.ensures, ← c.as_slice-items.ensures) (marks c.loop-place.left.items ∙ ap chained done ∙ chained-there vs ps)
