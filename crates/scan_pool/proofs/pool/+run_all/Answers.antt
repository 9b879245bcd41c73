use Rattle.std.proofs.Common.{subst}
use Rattle.std.specs.Prelude.{All}
use Rattle.std.proofs.lemmas.List.Elements.{All-tail}
use Rattle.scan_pool.specs.Seats.{IsIdle, IsOut}
use Rattle.scan_pool.proofs.Turns.{first_of, done_either, one_more_done}
use Rattle.scan_pool.proofs.pool.+run_all.Goals as goal

pub returns-then-is_empty-clause-done : goal.returns-then-is_empty-clause-done
returns-then-is_empty-clause-done g t c = one_more_done g.T.Work.done _ _ _ _ _ _ c.in-Some.ensures.items c.in_ok-run_all.ensures.done c.done_here-done.ensures c.in_ok-push.ensures.items

pub run_all-requires-2-after_bounds : goal.run_all-requires-2-after_bounds
run_all-requires-2-after_bounds g t c κs within = (All-tail IsIdle _ _ (subst (All IsIdle) (first_of c.in-Some-split_first_mut.ensures.cases) c.requires.0), c.requires.1)

pub returns-clause-done : goal.returns-clause-done
returns-clause-done g t c = one_more_done g.T.Work.done _ _ _ _ _ _ c.in-Some.ensures.items c.in_ok-run_all-2.ensures.done
    (done_either g.T.Work.done c.send-unsent.result c.in-Some.work c.in_ok-done.done (λ b. IsOut b c.send-unsent.new.self) (IsIdle c.send-unsent.new.self) c.send-unsent.ensures c.in_ok-done.ensures.done) c.in_ok-push-2.ensures.items
