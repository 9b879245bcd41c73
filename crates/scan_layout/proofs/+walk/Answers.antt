use Rattle.std.proofs.Common.{◌≡◌, ◌+◌, ◌∙◌, sym, ap, drop, arith, None, Some}
use Rattle.std.proofs.lemmas.Grind.{common_steps}
use Rattle.scan_values.specs.FieldLists.{dtypes_of as field_types}
use Rattle.scan_layout.specs.Layout.{nodes}
use Rattle.scan_layout.specs.LayoutView.{layouts_of}
use Rattle.scan_layout.specs.Check.{faults_in, fault_in, ◌then◌}
use Rattle.scan_layout.proofs.Kids.{faults_in_at}
use Rattle.scan_layout.proofs.+walk.Goals as goal

pub check::walk_each-loop-i-preserved : goal.check::walk_each-loop-i-preserved
check::walk_each-loop-i-preserved t c =
    let step = faults_in_at c.args.children.now (field_types c.args.fields.now) c.loop-i.i c.index-children-i.result c.in-Some.dtype.now c.loop-i-test.true c.index-children-i.is c.in-Some.ensures in
    let clear : fault_in c.index-children-i.result.value c.in-Some.dtype.now ≡ None = ap (λ l. fault_in l c.in-Some.dtype.now) (sym c.deref.ensures) ∙ c.in_ok-walk-in-Some.ensures in
    ap (λ f. f then faults_in (nodes (layouts_of (drop (c.loop-i.i + 1) c.args.children.now))) (drop (c.loop-i.i + 1) (field_types c.args.fields.now))) (sym clear) ∙ sym step ∙ c.loop-i.invariant

pub check::walk_each-returns-in_err-walk-in-Some : goal.check::walk_each-returns-in_err-walk-in-Some
check::walk_each-returns-in_err-walk-in-Some t c =
    let step = faults_in_at c.args.children.now (field_types c.args.fields.now) c.loop-i.i c.index-children-i.result c.in-Some.dtype.now c.loop-i-test.true c.index-children-i.is c.in-Some.ensures in
    let told : fault_in c.index-children-i.result.value c.in-Some.dtype.now ≡ Some c.in_err-walk-in-Some.field-0.0 = ap (λ l. fault_in l c.in-Some.dtype.now) (sym c.deref.ensures) ∙ c.in_err-walk-in-Some.ensures in
    let whole : faults_in (nodes (layouts_of c.args.children.now)) (field_types c.args.fields.now) ≡ Some c.in_err-walk-in-Some.field-0.0 =
    sym c.loop-i.invariant ∙ step ∙ ap (λ f. f then faults_in (nodes (layouts_of (drop (c.loop-i.i + 1) c.args.children.now)))
    (drop (c.loop-i.i + 1) (field_types c.args.fields.now))) told in
    grind (arith, common_steps, whole)
