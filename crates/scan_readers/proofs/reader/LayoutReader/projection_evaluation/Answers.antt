use Rattle.scan_plans.specs.Futures.{future_data}
use Rattle.scan_readers.specs.Evaluations.{Projects}
use Rattle.scan_readers.proofs.Evaluating.{given_means, fewer_rows, projection_means}
use Rattle.scan_readers.proofs.reader.LayoutReader.projection_evaluation.Goals as goal

pub project-requires-clause-rows : goal.project-requires-clause-rows
project-requires-clause-rows g c = fewer_rows (c.args.plan.now.value).tree c.args.range.now.end (g.Self.LayoutReader.state c.args.self.now).rows c.requires.rows c.requires.own.rows

pub returns-clause-means : goal.returns-clause-means
returns-clause-means g c =
    let s = g.Self.LayoutReader.state c.args.self.now in
    let p = c.args.plan.now.value in
    let first = c.args.range.now.start in
    given_means (Projects s p.expr first c.args.mask) (future_data p first c.args.mask) c.project.result (projection_means s p first c.args.range.now.end c.args.mask c.requires.own c.requires.rows c.requires.length) c.project.ensures
