use Rattle.std.proofs.Common.{map}
use Rattle.scan_conditions.specs.Parts.{part_of}
use Rattle.scan_conditions.specs.Reads.{IsPath}
use Rattle.scan_conditions.proofs.path.path_at.Given as goal

abbrev pub invariant-dots : goal.invariant-dots
invariant-dots l = IsPath (map part_of l.parts) l.at l.end-2 l.names.items
