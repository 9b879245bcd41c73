use Rattle.std.proofs.Common.{drop}
use Rattle.scan_conditions.specs.Spelling.{Passes, is_space}
use Rattle.scan_conditions.proofs.lexer.spaces_end.Given as goal

abbrev pub invariant-spaces : goal.invariant-spaces
invariant-spaces l = Passes is_space (drop l.at l.bytes) (drop l.end-2 l.bytes)
