use Rattle.std.proofs.Common.{◌≡◌, ◌++◌, drop, map}
use Rattle.scan_values.specs.Val.{marked}
use Rattle.scan_values.specs.Marked.{is_true}
use Rattle.scan_spelling.proofs.column.LeafColumn.to_mask.Given as goal

abbrev pub invariant-loop-i : goal.invariant-loop-i
invariant-loop-i l = l.bits.items ++ map (λ v. is_true (marked v)) (drop l.i l.self.items) ≡ map (λ v. is_true (marked v)) l.self.items
