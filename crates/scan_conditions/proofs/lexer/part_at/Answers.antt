use Rattle.std.proofs.Common.{drop}
use Rattle.std.specs.Prelude.{string_bytes}
use Rattle.scan_conditions.proofs.Lexing.{name_begins, text_begins}
use Rattle.scan_conditions.proofs.lexer.part_at.Goals as goal

pub returns-then-c-eq39 : goal.returns-then-c-eq39
returns-then-c-eq39 c =
    text_begins c.in-Some.c (string_bytes c.in_ok-text.text) (drop c.args.at c.args.bytes.now) (drop c.in_ok-text.end c.args.bytes.now) c.if-c-eq39.true c.in_ok-text.ensures

pub returns-then-c-eq34 : goal.returns-then-c-eq34
returns-then-c-eq34 c =
    name_begins c.in-Some.c (string_bytes c.in_ok-name.name) (drop c.args.at c.args.bytes.now) (drop c.in_ok-name.after c.args.bytes.now) c.if-c-eq34.true c.in_ok-name.ensures
