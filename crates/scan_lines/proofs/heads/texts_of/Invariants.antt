use Rattle.std.proofs.Common.{◌≡◌, take, true}
use Rattle.scan_lines.specs.Heads.{head_texts}
use Rattle.scan_lines.proofs.heads.texts_of.Given as goal

abbrev pub invariant-loop-k : goal.invariant-loop-k
invariant-loop-k l = l.made.items ≡ take l.k (head_texts true l.names)
