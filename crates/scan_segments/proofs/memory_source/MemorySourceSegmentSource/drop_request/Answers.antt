use Rattle.std.proofs.Common.{refl}
use Rattle.std.proofs.Math.Nat.{le_refl}
use Rattle.scan_segments.proofs.Moves.{ends}
use Rattle.scan_segments.proofs.memory_source.MemorySourceSegmentSource.drop_request.Goals as goal

pub returns-clause-ends : goal.returns-clause-ends
returns-clause-ends c = ends c.args.id c.args.self.now _ _ _ c.end.ensures.after c.end.ensures.live (le_refl _) refl (le_refl _)
