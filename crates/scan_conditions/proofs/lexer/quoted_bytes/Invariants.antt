use Rattle.std.proofs.Common.{◌≡◌, ◌∷◌, ◌++◌, drop}
use Rattle.scan_conditions.specs.Spelling.{doubled}
use Rattle.scan_conditions.proofs.lexer.quoted_bytes.Given as goal

abbrev pub invariant-quoted : goal.invariant-quoted
invariant-quoted l = drop l.at l.bytes ≡ l.quote ∷ (doubled l.quote l.content.items ++ drop l.end-2 l.bytes)
