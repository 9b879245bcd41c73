use Rattle.scan_conditions.specs.declared.token.Kind.TheVariants as kinds
use Rattle.scan_conditions.proofs.Parted.{found}
use Rattle.scan_conditions.proofs.leaf.quoted_at.Goals as goal

pub returns-in-Text-clause-is : goal.returns-in-Text-clause-is
returns-in-Text-clause-is c =
    found c.args.parts.now c.args.at c.in_ok-part.part.now kinds.Text c.as_str.result.now c.in_ok-part.ensures.lookup.3.0 c.in_ok-part.ensures.lookup.1 c.in-Text.is c.as_str.ensures.value
