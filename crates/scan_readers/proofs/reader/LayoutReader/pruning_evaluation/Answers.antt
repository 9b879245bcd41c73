use Rattle.std.proofs.Common.{ap, ◌∙◌}
use Rattle.scan_values.specs.Fits.{is_bool_type}
use Rattle.scan_plans.specs.Pruning.{pruned}
use Rattle.scan_readers.specs.Evaluations.{Prunes}
use Rattle.scan_readers.proofs.Evaluating.{given_means, fewer_rows, prune_means}
use Rattle.scan_readers.proofs.reader.LayoutReader.pruning_evaluation.Goals as goal

pub prune-requires-clause-dtype : goal.prune-requires-clause-dtype
prune-requires-clause-dtype g c = ap is_bool_type c.requires.own.dtype ∙ c.requires.dtype

pub prune-requires-clause-rows : goal.prune-requires-clause-rows
prune-requires-clause-rows g c = fewer_rows (c.args.plan.now.value).tree c.args.range.now.end (g.Self.LayoutReader.state c.args.self.now).rows c.requires.rows c.requires.own.rows

pub returns-clause-means : goal.returns-clause-means
returns-clause-means g c =
    let s = g.Self.LayoutReader.state c.args.self.now in
    let p = c.args.plan.now.value in
    let first = c.args.range.now.start in
    given_means (Prunes s p.expr first c.args.mask) (pruned p.tree first c.args.mask) c.prune.result (prune_means s p first c.args.range.now.end c.args.mask c.requires.own c.requires.rows c.requires.length) c.prune.ensures.answer
