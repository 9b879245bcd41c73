use Rattle.std.proofs.Common.{◌≤◌, ap, sym, ◌∙◌, arith}
use Rattle.scan_limit.proofs.Moves.{claims}
use Rattle.scan_limit.proofs.limit.RowLimit.take.Goals as goal

pub fetch_add-before-requires : goal.fetch_add-before-requires
fetch_add-before-requires c =
    let same = ap (λ v. v.budget) c.s.view_is ∙ c.requires.own ∙ sym c.self.view_is in
    let i = c.self.invariant in
    let mine = c.s.invariant in
    let room : c.args.rows ≤ c.s.inside.seat.me.0.room = omega (arith, c.requires.room, ap (λ v. v.room) c.s.view_is, ap (λ a. a.room) mine.0) in
    (ap (λ b. b.table) same, omega arith, claims _ _ _ _ _ (ap (λ b. b.limit) same ∙ sym i.0) room)
