use Rattle.std.proofs.Common.{◌≡◌, ◌∙◌, rules}
use Rattle.std.specs.Prelude.{◌+ℤ◌}
use mir.Val.{to_z, of_z}
use mir.Syntax.{w64}
use Rattle.scan_groups.proofs.Sums.{sum_near}
use Rattle.scan_groups.proofs.sum.Sum.add.Goals as goal

pub returns-in-Some : goal.returns-in-Some
returns-in-Some c = λ vs h.
    let is : c.in-Some.near ≡ c.args.self.now.near +ℤ c.args.n = search rules in
    let back : to_z w64 (of_z w64 c.in-Some.near) ≡ c.in-Some.near = search rules in
    sum_near c.args.self.now vs c.args.n (to_z w64 (of_z w64 c.in-Some.near)) (back ∙ is) h
