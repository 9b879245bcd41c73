use Rattle.std.proofs.Common.{◌∙◌, ap, sym}
use Rattle.std.specs.Prelude.{option_map}
use Rattle.std.proofs.lemmas.List.{length-map}
use Rattle.scan_expr.specs.Bound.{Bound, exprs_of}
use Rattle.scan_expr.specs.Infer.{struct_fields}
use Rattle.scan_partition.proofs.Placing.{packed_some, packed_none}
use Rattle.scan_partition.proofs.direct.packed.Goals as goal

pub returns-in_ok-names-in-Some : goal.returns-in_ok-names-in-Some
returns-in_ok-names-in-Some c =
    packed_some (struct_fields c.args.scope.now) c.args.names.now c.in_ok-names-in-Some.names (exprs_of c.args.parts.now) c.in-Some.fields.items (length-map c.args.parts.now (λ (b : Bound). b.expr) ∙ c.requires) c.in_ok-names-in-Some.ensures
    (ap (option_map (λ v. v.items)) (sym c.in-Some.is) ∙ c.in_ok-fields.ensures)

pub returns-in-None : goal.returns-in-None
returns-in-None c =
    packed_none (struct_fields c.args.scope.now) c.args.names.now (exprs_of c.args.parts.now) (length-map c.args.parts.now (λ (b : Bound). b.expr) ∙ c.requires)
    (ap (option_map (λ v. v.items)) (sym c.in-None.is) ∙ c.in_ok-fields.ensures)
