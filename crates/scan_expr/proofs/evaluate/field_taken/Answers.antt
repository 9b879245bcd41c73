use Rattle.std.proofs.Common.{◌≡◌, ◌<◌, List, length, get_or, sym, ap, ◌∙◌, arith}
use Rattle.std.proofs.lemmas.List.{length-map}
use Rattle.scan_values.specs.Val.{Val, null_val, marked}
use Rattle.scan_values.specs.Values.{val_of}
use Rattle.scan_expr.proofs.Picks.{val_at}
use Rattle.scan_expr.proofs.Placing.{nth-val, nth-val-past}
use Rattle.scan_expr.proofs.evaluate.field_taken.Goals as goal

pub returns-then-place-len : goal.returns-then-place-len
returns-then-place-len c =
    let vs = c.in-Struct.values in
    let items = c.into_vec.result.items in
    let p = c.args.place in
    let within : p < length vs = omega (arith, c.if-place-len.true, c.len.ensures) in
    let even : length items ≡ length vs = sym (length-map items val_of) ∙ ap length c.into_vec.ensures in
    let is = val_at items p c.swap_remove.result (omega (arith, within, even)) c.swap_remove.ensures.value ∙ ap (λ (xs : List Val). get_or xs p null_val) c.into_vec.ensures in
    rw (c.in-Struct.is, nth-val vs p within) (ap marked is)

pub returns-in-Struct : goal.returns-in-Struct
returns-in-Struct c = rw (c.in-Struct.is) (sym (nth-val-past c.in-Struct.values c.args.place (omega (arith, c.if-place-len.false, c.len.ensures))))
