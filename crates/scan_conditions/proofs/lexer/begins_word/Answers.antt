use Rattle.std.proofs.Common.{ap, sym, ◌∙◌}
use Rattle.scan_conditions.specs.Spelling.{begins, is_letter}
use Rattle.scan_conditions.proofs.Lexing.{begins_none, begins_some}
use Rattle.scan_conditions.proofs.lexer.begins_word.Goals as goal

pub returns-in-Some : goal.returns-in-Some
returns-in-Some c = c.is_letter.ensures ∙ (sym (begins_some is_letter c.as_bytes.result.now 0 c.in-Some.c (sym c.in-Some.ensures.value)) ∙ ap (begins is_letter) c.as_bytes.ensures.value)

pub returns-in-None : goal.returns-in-None
returns-in-None c = sym (begins_none is_letter c.as_bytes.result.now 0 (sym c.in-None.ensures.value)) ∙ ap (begins is_letter) c.as_bytes.ensures.value
