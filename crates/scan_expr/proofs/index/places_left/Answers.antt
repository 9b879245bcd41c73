use Rattle.std.proofs.Common.{◌≡◌, ◌<◌, ◌≤◌, true, false, List, ◌++◌, length, get_or, ap, sym, ◌∙◌, arith}
use Rattle.std.proofs.lemmas.List.{append-nil}
use Rattle.std.proofs.Math.ListN.{drop_of_length-le}
use Rattle.scan_values.specs.DataType.{Name}
use Rattle.scan_values.specs.NameFaults.{has_name}
use Rattle.scan_values.specs.FieldLists.{names_of}
use Rattle.scan_expr.specs.Places.{left_places}
use Rattle.scan_expr.proofs.Placing.{names-fields, left_on, left_over}
use Rattle.scan_expr.proofs.index.places_left.Goals as goal
use Rattle.scan_expr.proofs.index.places_left.Goals.{then-not-has+in_ok-push, else-not-has}

pub loop-i-preserved : goal.loop-i-preserved
loop-i-preserved c =
    let ns = c.args.names.now in
    let ms = names_of c.args.fields.now in
    let i = c.loop-i.i in
    let n = c.name-item.result in
    let at : n ≡ get_or ms i n = c.name-item.is ∙ ap (λ (xs : List Name). get_or xs i n) c.names-name-items.ensures in
    let l : i < length ms = omega (arith, c.loop-i-test.true, ap length c.names-name-items.ensures) in
    elim c.if-not-has.branch [
      | then-not-has+in_ok-push w ↦
          let out : has_name n ns ≡ false = sym (w.if-not-has.ensures ∙ ap (has_name n) c.in_ok-taken.ensures) in
          rw (w.places-is, w.in_ok-push.ensures.items) (left_on ns ms i n c.loop-i.places.items (left_places ns 0 ms) l at out c.loop-i.invariant)
      | else-not-has w ↦
          let has : has_name n ns ≡ true = sym (w.if-not-has.ensures ∙ ap (has_name n) c.in_ok-taken.ensures) in
          rw (w.places-is) (left_over ns ms i n c.loop-i.places.items (left_places ns 0 ms) l at has c.loop-i.invariant)
    ]

pub returns : goal.returns
returns c =
    let ns = c.args.names.now in
    let ms = names_of c.args.fields.now in
    let i = c.loop-i.i in
    let h : length ms ≤ i = omega (arith, c.loop-i-test.false, ap length c.names-name-items.ensures) in
    sym (append-nil c.loop-i.places.items) ∙ ap (λ xs. c.loop-i.places.items ++ left_places ns i xs) (sym (drop_of_length-le ms h)) ∙ c.loop-i.invariant ∙ ap (left_places ns 0) (sym (names-fields c.args.fields.now))
