use Rattle.std.proofs.Common.{sym, ap, ◌∙◌}
use Rattle.scan_segments.specs.Requests.{Requested, is_live}
use Rattle.scan_segments.specs.contracts.memory_source.MemorySource.{the_view}
use Rattle.scan_segments.proofs.Moves.{begins}
use Rattle.scan_segments.proofs.memory_source.MemorySourceSegmentSource.request.Goals as goal

pub returns-clause-ok : goal.returns-clause-ok
returns-clause-ok c =
    let b = c.in_ok-begin.ensures in
    rw (← c.self.view_is)
    (begins c.args.id (the_view c.self.inside) _ _ (ap (λ (r : Requested). r.asked) b.begins) (ap (λ (r : Requested). r.live) b.begins) (ap is_live (sym b.begins) ∙ b.live))
