use Rattle.std.proofs.Common.{ap, sym, ◌∙◌}
use Rattle.scan_expr.specs.Infer.{fields_or_none}
use Rattle.scan_values.specs.NameFaults.{field_names}
use Rattle.scan_partition.proofs.Loops.{if_ok}
use Rattle.scan_partition.proofs.FieldParts.{names_are}
use Rattle.scan_partition.proofs.expand.struct_names.Goals as goal

pub returns-in-Some : goal.returns-in-Some
returns-in-Some c = if_ok _ _ c.same_names.result (λ ns h. h ∙ c.names.ensures ∙ sym (names_are c.in-Some.fields.now) ∙ ap (λ fs. field_names (fields_or_none fs)) c.in-Some.ensures) c.same_names.ensures
