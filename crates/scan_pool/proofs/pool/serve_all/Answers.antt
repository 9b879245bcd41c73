use Rattle.std.proofs.Common.{subst}
use Rattle.std.specs.Prelude.{All}
use Rattle.std.proofs.lemmas.List.Elements.{All-tail}
use Rattle.scan_pool.specs.Seats.{IsServing}
use Rattle.scan_pool.proofs.Turns.{first_of}
use Rattle.scan_pool.proofs.pool.serve_all.Goals as goal

pub serve_both-requires-clause-others : goal.serve_both-requires-clause-others
serve_both-requires-clause-others g c κs within = All-tail IsServing _ _ (subst (All IsServing) (first_of c.in-Some.ensures.cases) c.requires.0)
