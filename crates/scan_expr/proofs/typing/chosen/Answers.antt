use Rattle.std.proofs.Common.{◌≡◌, length, map, ap, sym, ◌∙◌, arith}
use Rattle.std.proofs.lemmas.Grind.{common_steps}
use Rattle.std.proofs.lemmas.List.{length-map}
use Rattle.scan_values.specs.DataType.{Name, fields_of}
use Rattle.scan_expr.specs.Infer.{field_type}
use Rattle.scan_expr.proofs.Choices.{chosen-zip}
use Rattle.scan_expr.proofs.Placing.{type_at, types_at}
use Rattle.scan_expr.proofs.typing.chosen.Goals as goal

pub new-requires : goal.new-requires
new-requires c =
    let fs = c.args.fields.now in
    let ns = c.args.names.now in
    let d : c.loop-place.dtypes.items ≡ map (λ (n : Name). field_type n (fields_of fs)) ns =
    c.loop-place.invariant ∙ ap (map (type_at fs)) (grind (arith, common_steps)) ∙ ap (map (type_at fs)) c.requires ∙ types_at ns fs in
    let n : c.into_vec.result.items ≡ ns = c.into_vec.ensures ∙ c.in_ok-try_clone.ensures in
    ap length n ∙ sym (ap length d ∙ length-map ns (λ (n : Name). field_type n (fields_of fs)))

pub returns : goal.returns
returns c =
    let fs = c.args.fields.now in
    let ns = c.args.names.now in
    let d : c.loop-place.dtypes.items ≡ map (λ (n : Name). field_type n (fields_of fs)) ns =
    c.loop-place.invariant ∙ ap (map (type_at fs)) (grind (arith, common_steps)) ∙ ap (map (type_at fs)) c.requires ∙ types_at ns fs in
    let n : c.into_vec.result.items ≡ ns = c.into_vec.ensures ∙ c.in_ok-try_clone.ensures in
    rw (c.new.ensures, n, d) (chosen-zip ns (fields_of fs))
