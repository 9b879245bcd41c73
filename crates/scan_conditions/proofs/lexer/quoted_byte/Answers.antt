use Rattle.std.proofs.Common.{sym}
use Rattle.scan_conditions.proofs.Lexing.{once, twice}
use Rattle.scan_conditions.proofs.lexer.quoted_byte.Goals as goal

pub returns-then-c-quote : goal.returns-then-c-quote
returns-then-c-quote c = once c.args.quote c.in_ok-c.c c.args.bytes.now c.args.at (sym c.in_ok-c.ensures.value) c.if-c-quote.true

pub returns-then-d-quote : goal.returns-then-d-quote
returns-then-d-quote c =
    twice c.args.quote c.in_ok-c.c c.in_ok-d.d c.args.bytes.now c.args.at (sym c.in_ok-c.ensures.value) (sym c.in_ok-d.ensures.value) c.if-c-quote.false c.if-d-quote.true
