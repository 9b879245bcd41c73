use Rattle.std.proofs.Common.{sym}
use Rattle.std.specs.Prelude.{◌==◌}
use Rattle.scan_conditions.proofs.Lexing.{begins_none, begins_some}
use Rattle.scan_conditions.proofs.lexer.is_byte_at.Goals as goal

pub returns-in-Some-clause-value : goal.returns-in-Some-clause-value
returns-in-Some-clause-value c = sym (begins_some (λ b. b == c.args.c) c.args.bytes.now c.args.at c.in-Some.b (sym c.in-Some.ensures.value))

pub returns-in-None-clause-value : goal.returns-in-None-clause-value
returns-in-None-clause-value c = sym (begins_none (λ b. b == c.args.c) c.args.bytes.now c.args.at (sym c.in-None.ensures.value))
