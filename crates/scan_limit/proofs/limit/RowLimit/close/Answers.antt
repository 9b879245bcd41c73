use Rattle.std.proofs.Common.{◌≡◌, ◌+◌, min, ap, sym, ◌∙◌, arith}
use Rattle.scan_limit.specs.declared.budget.Account.{Account}
use Rattle.scan_limit.specs.Budget.{most}
use Rattle.scan_limit.proofs.Moves.{closes}
use Rattle.scan_limit.proofs.limit.RowLimit.close.Goals as goal

pub returns-clause-claimed : goal.returns-clause-claimed
returns-clause-claimed c =
    let v : Account = c.s.inside.seat.me.0 in
    let mine = c.s.invariant.0 in
    let whole : v.room + v.claimed ≡ most = omega (arith, c.requires.whole, ap (λ s. s.room) c.s.view_is, ap (λ s. s.claimed) c.s.view_is, ap (λ a. a.room) mine, ap (λ a. a.claimed) mine) in
    let end = closes _ _ v _ _ _ whole c.close_with-closed.ensures.values.2 c.word-word.ensures in
    end.0 ∙ ap (λ a. a.claimed) mine ∙ ap (λ s. s.claimed) c.s.view_is

pub returns-clause-granted : goal.returns-clause-granted
returns-clause-granted c =
    let v : Account = c.s.inside.seat.me.0 in
    let mine = c.s.invariant.0 in
    let whole : v.room + v.claimed ≡ most = omega (arith, c.requires.whole, ap (λ s. s.room) c.s.view_is, ap (λ s. s.claimed) c.s.view_is, ap (λ a. a.room) mine, ap (λ a. a.claimed) mine) in
    let end = closes _ _ v _ _ _ whole c.close_with-closed.ensures.values.2 c.word-word.ensures in
    sym (ap (λ s. s.granted) c.s.view_is) ∙ sym (ap (λ a. a.granted) mine) ∙ end.1 ∙ ap (λ l. min l c.word-word.result) (c.self.invariant.0 ∙ ap (λ b. b.limit) c.self.view_is)
