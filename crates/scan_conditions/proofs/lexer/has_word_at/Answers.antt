use Rattle.std.proofs.Common.{sym, ◌∙◌}
use Rattle.scan_conditions.specs.Spelling.{is_word}
use Rattle.scan_conditions.proofs.Lexing.{begins_none, begins_some}
use Rattle.scan_conditions.proofs.lexer.has_word_at.Goals as goal

pub returns-in-Some : goal.returns-in-Some
returns-in-Some c = c.is_word.ensures ∙ sym (begins_some is_word c.args.bytes.now c.args.at c.in-Some.b (sym c.in-Some.ensures.value))

pub returns-in-None : goal.returns-in-None
returns-in-None c = sym (begins_none is_word c.args.bytes.now c.args.at (sym c.in-None.ensures.value))
