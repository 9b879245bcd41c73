use Rattle.std.proofs.Common.{sym, ap, ◌∙◌}
use Rattle.scan_segments.specs.Requests.{is_live}
use Rattle.scan_segments.proofs.memory_source.MemorySource.end.Goals as goal

pub returns-clause-live : goal.returns-clause-live
returns-clause-live c = rw (← c.self.view_is) (ap is_live (sym c.end.ensures.ends) ∙ c.end.ensures.live)
