use Rattle.std.proofs.Common.{Bool, arith, subst, sym}
use Rattle.scan_drive.specs.Windows.{IsWindow}
use Rattle.scan_drive.proofs.round.window_end.Goals as goal

pub returns-then-ordered-clause-window : goal.returns-then-ordered-clause-window
returns-then-ordered-clause-window g c =
    subst (λ (b : Bool). IsWindow b c.args.workers c.args.turns.now.items c.args.slots.now.items c.args.first c.window.result) (sym c.if-ordered.true)
    (record { done = c.finished-done.result; is_done = c.finished-done.ensures.done; most = c.window.ensures.most })

pub returns-clause-window : goal.returns-clause-window
returns-clause-window g c =
    subst (λ (b : Bool). IsWindow b c.args.workers c.args.turns.now.items c.args.slots.now.items c.args.first c.window-2.result) (sym c.if-ordered.false)
    (record { unfinished = c.count_busy-busy.result; are_busy = c.count_busy-busy.ensures.busy; most = λ lt. omega (arith, lt, c.window-2.ensures.most, c.free_places.ensures.most) })
