use Rattle.std.proofs.Common.{◌≡◌, rules}
use Rattle.std.specs.Prelude.{◌+ℤ◌}
use mir.Val.{to_z, of_z}
use mir.Syntax.{w64}
use Rattle.scan_groups.proofs.Sums.{sum_near}
use Rattle.scan_groups.proofs.sum.Sum.add_short.Goals as goal

pub returns-clause-more : goal.returns-clause-more
returns-clause-more c = λ vs h.
    let s = c.args.self.now in
    let is : to_z w64 (of_z w64 (to_z w64 (of_z w64 s.near) +ℤ to_z w64 (of_z w64 c.args.n))) ≡ s.near +ℤ c.args.n = search (rules, c.requires) in
    sum_near s vs c.args.n (to_z w64 (of_z w64 (to_z w64 (of_z w64 s.near) +ℤ to_z w64 (of_z w64 c.args.n)))) is h
