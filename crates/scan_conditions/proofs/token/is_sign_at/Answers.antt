use Rattle.std.proofs.Common.{sym, ◌∙◌}
use Rattle.scan_conditions.specs.declared.token.Kind.TheVariants as kinds
use Rattle.scan_conditions.proofs.Parted.{as_text}
use Rattle.scan_conditions.proofs.token.is_sign_at.Goals as goal

pub returns-in-Some-clause-is : goal.returns-in-Some-clause-is
returns-in-Some-clause-is c = λ h. as_text c.args.parts.now c.args.at kinds.Sign c.in-Some.found.now c.args.text.now c.in-Some.ensures.is (sym c.eq.ensures ∙ h)
