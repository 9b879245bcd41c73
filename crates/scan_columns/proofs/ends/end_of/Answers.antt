use Rattle.std.proofs.Common.{◌≡◌, ◌+◌, suc, take, arith, ◌∙◌, ap, slice_index_or}
use Rattle.scan_columns.specs.Nested.{sizes, total}
use Rattle.scan_columns.proofs.NestedLemmas.{start_at}
use Rattle.scan_columns.proofs.ends.end_of.Goals as goal

pub returns : goal.returns
returns c =
    let i = c.args.i in
    let ns = sizes 0 c.args.ends.now in
    let next : suc i ≡ i + 1 = omega arith in
    let at = start_at 0 c.args.ends.now i 0 c.requires.rises c.requires.within in
    let place : slice_index_or c.args.ends.now i 0 ≡ total (take (suc i) ns) = omega (arith, at) in
    place ∙ ap (λ j. total (take j ns)) next
