use Rattle.std.proofs.Common.{◌∙◌, subst}
use Rattle.crossbeam_queue.specs.Passes.{IsPassOf}
use Rattle.scan_pool.proofs.Turns.{first_of, second_of, out_view, some_out_view}
use Rattle.scan_pool.proofs.seat.Seat.take_back.Goals as goal

pub returns-in-Some-clause-done : goal.returns-in-Some-clause-done
returns-in-Some-clause-done g c = λ b out. (second_of c.in-Some.ensures.back) b (out_view b c.loop.self (second_of c.loop.invariant b out))

pub loop-preserved : goal.loop-preserved
loop-preserved g c =
    let own = subst (λ m. IsPassOf m.line c.try_take_back.new.pass) c.deref.ensures c.try_take_back.ensures.own in
    let same = c.in-None.ensures.back in
    let at = some_out_view c.loop.self (first_of c.loop.invariant) in
    ((at.0, (own, same ∙ at.1)), λ b out. (own, same ∙ out_view b c.loop.self (second_of c.loop.invariant b out)))
