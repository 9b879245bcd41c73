use Rattle.std.proofs.Common.{ap, sym, ◌∙◌, arith}
use Rattle.scan_limit.proofs.Moves.{looks}
use Rattle.scan_limit.proofs.limit.RowLimit.is_exhausted.Goals as goal

pub load-requires : goal.load-requires
load-requires c =
    let same = ap (λ v. v.budget) c.s.view_is ∙ c.requires.own ∙ sym c.self.view_is in
    let i = c.self.invariant in
    (ap (λ b. b.table) same, omega arith, looks _ _ _ _ (ap (λ b. b.limit) same ∙ sym i.0))
