use Rattle.std.proofs.Common.{◌≡◌, ◌<◌, ◌≤◌, true, false, List, length, get_or, ap, sym, ◌∙◌, arith}
use Rattle.scan_values.specs.DataType.{Name}
use Rattle.scan_values.specs.NameFaults.{has_name}
use Rattle.scan_values.specs.FieldLists.{names_of}
use Rattle.scan_expr.proofs.Choices.{filter_step_kept, filter_step_out, no_dtype, filter_end}
use Rattle.scan_expr.proofs.typing.others.Goals as goal
use Rattle.scan_expr.proofs.typing.others.Goals.{then-not-has+in-Some+in_ok-try_clone+in_ok-push+in_ok-try_clone-2+in_ok-push-2, then-not-has+in_default, else-not-has}

pub loop-i-preserved : goal.loop-i-preserved
loop-i-preserved c =
    let ns = c.args.names.now in
    let fs = c.args.fields.now in
    let i = c.loop-i.i in
    let n = c.name-item.result in
    let at : n ≡ get_or (names_of fs) i n = c.name-item.is ∙ ap (λ (xs : List Name). get_or xs i n) c.names-name-items.ensures in
    let l : i < length (names_of fs) = omega (arith, c.loop-i-test.true, ap length c.names-name-items.ensures) in
    elim c.if-not-has.branch [
      | then-not-has+in-Some+in_ok-try_clone+in_ok-push+in_ok-try_clone-2+in_ok-push-2 w ↦
          let out : has_name n ns ≡ false = sym (w.if-not-has.ensures ∙ ap (has_name n) c.in_ok-taken.ensures) in
          rw (w.left-is, w.dtypes-is, w.in_ok-push.ensures.items, w.in_ok-push-2.ensures.items, w.in_ok-try_clone.ensures, w.in_ok-try_clone-2.ensures)
          (filter_step_kept ns fs i n w.in-Some.dtype.now c.loop-i.left.items c.loop-i.dtypes.items c.loop-i.invariant at w.in-Some.ensures out)
      | then-not-has+in_default w ↦ absurd (no_dtype fs i l w.in_default.ensures)
      | else-not-has w ↦
          let has : has_name n ns ≡ true = sym (w.if-not-has.ensures ∙ ap (has_name n) c.in_ok-taken.ensures) in
          rw (w.left-is, w.dtypes-is) (filter_step_out ns fs i n c.loop-i.left.items c.loop-i.dtypes.items c.loop-i.invariant l at has)
    ]

pub returns : goal.returns
returns c =
    let h : length (names_of c.args.fields.now) ≤ c.loop-i.i = omega (arith, c.loop-i-test.false, ap length c.names-name-items.ensures) in
    rw (c.new.ensures) (filter_end c.args.names.now c.args.fields.now c.loop-i.i c.loop-i.left.items c.loop-i.dtypes.items c.loop-i.invariant h)
