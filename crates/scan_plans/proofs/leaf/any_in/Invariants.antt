use Rattle.std.proofs.Common.{◌≡◌, ◌||◌, drop}
use Rattle.std.specs.List.{list_any}
use Rattle.scan_plans.proofs.leaf.any_in.Given as goal

abbrev pub invariant-loop-bit : goal.invariant-loop-bit
invariant-loop-bit l = (l.any || list_any (λ b. b) (drop l.bit-index l.block)) ≡ list_any (λ b. b) l.block
