use Rattle.std.proofs.Common.{[], ◌∷◌, ◌++◌, ap, ◌∙◌}
use Rattle.scan_values.specs.Fits.{is_bool_type}
use Rattle.scan_plans.specs.Masks.{mask_data}
use Rattle.scan_readers.specs.Evaluations.{Filters}
use Rattle.scan_readers.proofs.Evaluating.{given_means, fewer_rows, filter_means}
use Rattle.scan_readers.proofs.reader.LayoutReader.filter_evaluation.Goals as goal

pub filter-requires-clause-dtype : goal.filter-requires-clause-dtype
filter-requires-clause-dtype g c = ap is_bool_type c.requires.own.dtype ∙ c.requires.dtype

pub filter-requires-clause-rows : goal.filter-requires-clause-rows
filter-requires-clause-rows g c = fewer_rows (c.args.plan.now.value).tree c.args.range.now.end (g.Self.LayoutReader.state c.args.self.now).rows c.requires.rows c.requires.own.rows

pub returns-clause-means : goal.returns-clause-means
returns-clause-means g c =
    let s = g.Self.LayoutReader.state c.args.self.now in
    let p = c.args.plan.now.value in
    let first = c.args.range.now.start in
    given_means (Filters s p.expr first c.args.mask) (mask_data c.args.mask.known (c.args.mask.filters ++ (p.tree, first) ∷ [])) c.filter.result (filter_means s p first c.args.range.now.end c.args.mask c.requires.own c.requires.rows c.requires.length) c.filter.ensures
