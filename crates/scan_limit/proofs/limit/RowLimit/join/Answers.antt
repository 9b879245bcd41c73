use Rattle.std.proofs.Common.{ap, sym, ◌∙◌, arith}
use Rattle.scan_limit.proofs.Moves.{joins, looks}
use Rattle.scan_limit.proofs.limit.RowLimit.join.Goals as goal

pub join_seat-requires : goal.join_seat-requires
join_seat-requires c =
    let one = ap (λ v. v.budget) c.into.view_is ∙ c.requires.own.0 ∙ sym c.self.view_is in
    let two = ap (λ v. v.budget) c.from.view_is ∙ c.requires.own.1 ∙ sym c.self.view_is in
    let i = c.self.invariant in
    (ap (λ b. b.table) one, ap (λ b. b.table) two, c.from.invariant.1, omega arith, joins _ _ _ _ _)

pub load-word-requires : goal.load-word-requires
load-word-requires c =
    let one = ap (λ v. v.budget) c.into.view_is ∙ c.requires.own.0 ∙ sym c.self.view_is in
    let i = c.self.invariant in
    (c.join_seat.ensures.0 ∙ ap (λ b. b.table) one, omega arith, looks _ _ _ _ (ap (λ m. m.0.limit) c.join_seat.ensures.2 ∙ ap (λ b. b.limit) one ∙ sym i.0))
