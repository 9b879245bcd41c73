use Rattle.std.proofs.Common.{◌++◌, List, drop, map}
use Rattle.scan_conditions.specs.Parts.{part_of}
use Rattle.scan_conditions.specs.Spelling.{Part, Spells}
use Rattle.scan_conditions.proofs.lexer.parts_of.Given as goal

abbrev pub invariant-parts : goal.invariant-parts
invariant-parts l = (qs : List Part) → Spells (drop l.at l.bytes) qs → Spells l.bytes (map part_of l.parts.items ++ qs)
