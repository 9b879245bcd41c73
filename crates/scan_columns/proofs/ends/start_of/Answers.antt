use Rattle.std.proofs.Common.{◌≡◌, ◌-◌, suc, take, arith, ◌∙◌, ap, slice_index_or}
use Rattle.scan_columns.specs.Nested.{sizes, total}
use Rattle.scan_columns.proofs.NestedLemmas.{start_at}
use Rattle.scan_columns.proofs.ends.start_of.Goals as goal

pub returns-else-i-eq0 : goal.returns-else-i-eq0
returns-else-i-eq0 c =
    let i = c.args.i in
    let ns = sizes 0 c.args.ends.now in
    let above : suc (i - 1) ≡ i = omega (arith, c.if-i-eq0.false) in
    let at = start_at 0 c.args.ends.now (i - 1) 0 c.requires.rises (omega (arith, c.if-i-eq0.false, c.requires.within)) in
    let same : total (take (suc (i - 1)) ns) ≡ total (take i ns) = ap (λ j. total (take j ns)) above in
    let place : slice_index_or c.args.ends.now (i - 1) 0 ≡ total (take (suc (i - 1)) ns) = omega (arith, at) in
    place ∙ same
