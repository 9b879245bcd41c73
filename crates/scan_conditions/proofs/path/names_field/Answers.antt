use Rattle.std.proofs.Common.{ap, true, false, refl, ◌∙◌}
use Rattle.std.specs.Prelude.{not, ◌&&◌}
use Rattle.scan_conditions.specs.Spelling.{begins, is_letter}
use Rattle.scan_conditions.specs.Written.{is_reserved}
use Rattle.scan_conditions.specs.declared.token.Kind.TheVariants as kinds
use Rattle.scan_conditions.proofs.Leaves.{of_kind}
use Rattle.scan_conditions.proofs.path.names_field.Goals as goal

pub returns-in-Word : goal.returns-in-Word
returns-in-Word c = of_kind c.args.part.now kinds.Word c.names_word.result c.in-Word.is (c.names_word.ensures ∙ ap (λ w. begins is_letter w && not (is_reserved w)) c.as_str.ensures.value)

pub returns-in-Name : goal.returns-in-Name
returns-in-Name c = of_kind c.args.part.now kinds.Name true c.in-Name.is refl

pub returns-in-Text : goal.returns-in-Text
returns-in-Text c = of_kind c.args.part.now kinds.Text false c.in-Text.is refl

pub returns-in-Sign : goal.returns-in-Sign
returns-in-Sign c = of_kind c.args.part.now kinds.Sign false c.in-Sign.is refl
