use Rattle.std.proofs.Common.{◌≡◌, ◌+◌, ◌∙◌, sym, ap, drop, arith, Some}
use Rattle.std.proofs.lemmas.Grind.{common_steps}
use Rattle.scan_values.specs.FieldLists.{dtypes_of as field_types}
use Rattle.scan_layout.specs.Layout.{nodes}
use Rattle.scan_layout.specs.LayoutView.{layouts_of}
use Rattle.scan_layout.specs.Check.{dtypes_fault, ◌then◌}
use Rattle.scan_layout.proofs.Levels.{dtypes_fault_at}
use Rattle.scan_layout.proofs.check.are_of_fields.Goals as goal

pub loop-i-preserved : goal.loop-i-preserved
loop-i-preserved c =
    let step = dtypes_fault_at c.args.children.now (field_types c.args.fields.now) c.loop-i.i c.index-children-i.result c.in-Some.dtype.now c.loop-i-test.true c.index-children-i.is c.in-Some.ensures in
    ap (λ f. f then dtypes_fault (nodes (layouts_of (drop (c.loop-i.i + 1) c.args.children.now))) (drop (c.loop-i.i + 1) (field_types c.args.fields.now))) (sym c.in_ok-is_of-in-Some.ensures) ∙ sym step ∙ c.loop-i.invariant

pub returns-in_err-is_of-in-Some : goal.returns-in_err-is_of-in-Some
returns-in_err-is_of-in-Some c =
    let step = dtypes_fault_at c.args.children.now (field_types c.args.fields.now) c.loop-i.i c.index-children-i.result c.in-Some.dtype.now c.loop-i-test.true c.index-children-i.is c.in-Some.ensures in
    let whole : dtypes_fault (nodes (layouts_of c.args.children.now)) (field_types c.args.fields.now) ≡ Some c.in_err-is_of-in-Some.field-0.0 =
    sym c.loop-i.invariant ∙ step ∙ ap (λ f. f then dtypes_fault (nodes (layouts_of (drop (c.loop-i.i + 1) c.args.children.now))) (drop (c.loop-i.i + 1) (field_types c.args.fields.now))) c.in_err-is_of-in-Some.ensures in
    grind (arith, common_steps, whole)
