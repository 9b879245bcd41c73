use Rattle.std.proofs.Common.{sym, ◌∙◌}
use Rattle.scan_conditions.proofs.Leaves.{is_name}
use Rattle.scan_conditions.proofs.path.name_at.Goals as goal

pub returns-clause-is : goal.returns-clause-is
returns-clause-is c =
    is_name c.args.parts.now c.args.at c.in-Some.part.now c.new-2.result c.in-Some.ensures.lookup.3.0 c.in-Some.ensures.lookup.1 (sym c.names_field.ensures ∙ c.if-not-names_field.false)
    (c.new-2.ensures ∙ (c.in_ok-text.ensures.ok ∙ c.as_str.ensures.value))
