use Rattle.scan_conditions.specs.declared.token.Kind.TheVariants as kinds
use Rattle.scan_conditions.proofs.Parted.{found}
use Rattle.scan_conditions.proofs.token.sign_at.Goals as goal

pub returns-in-Sign-clause-is : goal.returns-in-Sign-clause-is
returns-in-Sign-clause-is c =
    found c.args.parts.now c.args.at c.in-Some.part.now kinds.Sign c.as_str.result.now c.in-Some.ensures.lookup.3.0 c.in-Some.ensures.lookup.1 c.in-Sign.is c.as_str.ensures.value
