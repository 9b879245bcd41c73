use Rattle.std.proofs.Common.{drop, sym, ◌∙◌}
use Rattle.scan_conditions.specs.Spelling.{is_space}
use Rattle.scan_conditions.proofs.Lexing.{passes_more, passes_nothing}
use Rattle.scan_conditions.proofs.lexer.spaces_end.Goals as goal

pub spaces-init : goal.spaces-init
spaces-init c = passes_nothing is_space (drop c.args.at c.args.bytes.now)

pub spaces-preserved : goal.spaces-preserved
spaces-preserved c =
    passes_more is_space (drop c.args.at c.args.bytes.now) c.args.bytes.now c.spaces.end c.in-Some.c (sym c.in-Some.ensures.value) (sym c.is_space.ensures ∙ c.if-not-is_space.false) c.spaces.invariant
