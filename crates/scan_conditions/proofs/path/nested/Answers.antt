use Rattle.std.proofs.Common.{ap, ◌∙◌}
use Rattle.scan_expr.specs.Expr.{root, unary}
use Rattle.scan_expr.specs.declared.op.Unary.TheVariants as un
use Rattle.scan_conditions.specs.Written.{nested}
use Rattle.scan_conditions.proofs.Places.{item_at}
use Rattle.scan_conditions.proofs.Steps.{nested_end, nested_step}
use Rattle.scan_conditions.proofs.path.nested.Goals as goal

pub loop-name-init : goal.loop-name-init
loop-name-init c = ap (λ e. nested e c.args.names.now) c.root-e.ensures

pub loop-name-preserved : goal.loop-name-preserved
loop-name-preserved c =
    let n = c.name-item.result in
    nested_step c.args.names.now c.loop-name.name-index n c.loop-name.e c.in_ok-field.field (nested root c.args.names.now) (item_at c.args.names.now c.loop-name.name-index n c.loop-name-test.true c.name-item.is)
    (c.in_ok-field.ensures ∙ ap (λ m. unary (un.GetItem m) c.loop-name.e) c.in_ok-copy.ensures) c.loop-name.invariant

pub returns : goal.returns
returns c = nested_end c.args.names.now c.loop-name.name-index c.loop-name.e (nested root c.args.names.now) c.loop-name-test.false c.loop-name.invariant
