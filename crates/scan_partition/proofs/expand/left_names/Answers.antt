use Rattle.std.proofs.Common.{ap, sym, ◌∙◌}
use Rattle.scan_expr.specs.Infer.{fields_or_none}
use Rattle.scan_expr.specs.Needs.{other_names}
use Rattle.scan_partition.specs.Expand.{unnamed}
use Rattle.scan_partition.proofs.Loops.{if_ok}
use Rattle.scan_partition.proofs.FieldParts.{unnamed_others}
use Rattle.scan_partition.proofs.expand.left_names.Goals as goal

pub returns-in-Some : goal.returns-in-Some
returns-in-Some c =
    if_ok _ _ c.unnamed.result
    (λ ns h. h ∙ (λ i. unnamed (c.as_slice.ensures i) (c.names.ensures i)) ∙ sym (unnamed_others c.args.names.now c.in-Some.fields.now) ∙ ap (λ fs. other_names c.args.names.now (fields_or_none fs)) c.in-Some.ensures)
    c.unnamed.ensures
