use Rattle.std.proofs.Common.{◌+◌, sym, arith}
use Rattle.std.proofs.lemmas.Option.{slice_get_within}
use Rattle.scan_conditions.specs.Spelling.{is_pair}
use Rattle.scan_conditions.proofs.Lexing.{begins_none}
use Rattle.scan_conditions.proofs.Parted.{single_part}
use Rattle.scan_conditions.proofs.lexer.sign_part.Goals as goal

pub overflow_add-next : goal.overflow_add-next
overflow_add-next c = omega (arith, slice_get_within c.args.bytes.now c.args.at c.args.c c.requires)

pub returns-in-None : goal.returns-in-None
returns-in-None c =
    single_part c.single_sign.result c.args.c c.args.bytes.now c.args.at c.requires (begins_none (is_pair c.args.c) c.args.bytes.now (c.args.at + 1) (sym c.in-None.ensures.value)) c.single_sign.ensures
