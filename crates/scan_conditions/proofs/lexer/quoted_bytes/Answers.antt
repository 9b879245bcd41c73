use Rattle.std.proofs.Common.{drop, arith}
use Rattle.std.proofs.lemmas.Option.{slice_get_within}
use Rattle.scan_conditions.proofs.Lexing.{quoted_begins, quoted_more}
use Rattle.scan_conditions.proofs.lexer.quoted_bytes.Goals as goal

pub overflow_add-end : goal.overflow_add-end
overflow_add-end c = omega (arith, slice_get_within c.args.bytes.now c.args.at c.args.quote c.requires)

pub quoted-init : goal.quoted-init
quoted-init c = quoted_begins c.args.quote c.args.bytes.now c.args.at c.new-content.result.items c.new-content.ensures.items c.requires

pub quoted-preserved : goal.quoted-preserved
quoted-preserved c =
    quoted_more c.args.quote c.in-Some.c (drop c.args.at c.args.bytes.now) c.quoted.content.items c.push.new.self.items (drop c.quoted.end c.args.bytes.now) (drop c.in-Some.next c.args.bytes.now)
    c.quoted.invariant c.in-Some.ensures c.in_ok-push.ensures.items
