use borrow.Author.Rules.{rules}
use Rattle.std.proofs.Common.{◌≡◌, ◌++◌, ◌∙◌, length, take, ap, sym, subst}
use Rattle.scan_columns.specs.Nested.{sizes, sums, Rises, total}
use Rattle.scan_columns.proofs.NestedLemmas.{sizes_onto, rises_onto, sizes_sum}
use Rattle.scan_columns.proofs.ends.joined.Goals as goal

pub returns-clause-sizes : goal.returns-clause-sizes
returns-clause-sizes c =
    let ends = c.args.ends.items in
    let t = c.start_of-start.result in
    let made : c.in_ok-made.made.items ≡ ends ++ sums t (sizes 0 c.args.others.now) = search (rules, c.in_ok-made.ensures) in
    let whole : t ≡ total (take (length ends) (sizes 0 ends)) = search (rules, c.start_of-start.ensures) in
    ap (sizes 0) made ∙ sizes_onto 0 t ends (sizes 0 c.args.others.now) c.requires.rises (sizes_sum t ends whole)

pub returns-clause-rises : goal.returns-clause-rises
returns-clause-rises c =
    let ends = c.args.ends.items in
    let t = c.start_of-start.result in
    let made : c.in_ok-made.made.items ≡ ends ++ sums t (sizes 0 c.args.others.now) = search (rules, c.in_ok-made.ensures) in
    let whole : t ≡ total (take (length ends) (sizes 0 ends)) = search (rules, c.start_of-start.ensures) in
    subst (Rises 0) (sym made) (rises_onto 0 t ends (sizes 0 c.args.others.now) c.requires.rises (sizes_sum t ends whole))
