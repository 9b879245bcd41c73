use Rattle.scan_conditions.specs.declared.token.Kind.TheVariants as kinds
use Rattle.scan_conditions.proofs.Parted.{found}
use Rattle.scan_conditions.proofs.token.word_at.Goals as goal

pub returns-in-Word-clause-is : goal.returns-in-Word-clause-is
returns-in-Word-clause-is c =
    found c.args.parts.now c.args.at c.in-Some.part.now kinds.Word c.as_str.result.now c.in-Some.ensures.lookup.3.0 c.in-Some.ensures.lookup.1 c.in-Word.is c.as_str.ensures.value
