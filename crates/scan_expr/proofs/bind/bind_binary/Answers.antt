use Rattle.std.proofs.Common.{◌≡◌, Ok, refl, ap, ◌∙◌}
use Rattle.scan_values.specs.DataType.{DataType}
use Rattle.scan_expr.specs.Infer.{infer, binary_type}
use Rattle.scan_expr.specs.Typing.{binary_fault, typed}
use Rattle.scan_expr.proofs.Binds.{binary_done}
use Rattle.scan_expr.proofs.bind.bind_binary.Goals as goal

pub returns : goal.returns
returns c = λ ne.
    let s = c.args.first.scope in
    let x = c.args.first.expr in
    let y = c.args.second.expr in
    let second : c.dtype-2.result.now ≡ infer s y = c.dtype-2.ensures.dtype ∙ ap (λ (d : DataType). infer d y) c.requires in
    let known : Ok c.in_ok-binary_typed.field-0 ≡ typed (binary_fault c.args.op (infer s x) (infer s y)) (binary_type c.args.op (infer s x) (infer s y)) =
    c.in_ok-binary_typed.ensures (λ e. cc) ∙ rw (c.dtype.ensures.dtype, second) refl in
    binary_done s c.args.op x y c.in_ok-binary_typed.field-0 c.in_ok-dtype.dtype c.in_ok-over_two.field-0 known c.in_ok-dtype.ensures c.in_ok-over_two.ensures
