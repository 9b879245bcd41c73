use borrow.Author.Rules.{rules}
use Rattle.std.proofs.Common.{◌≡◌, ◌≤◌, take, arith}
use Rattle.scan_columns.specs.Nested.{total}
use Rattle.scan_columns.proofs.NestedLemmas.{total_ordered}
use Rattle.scan_columns.proofs.texts.bytes_between.Goals as goal

pub part-requires-clause-ordered : goal.part-requires-clause-ordered
part-requires-clause-ordered c =
    let ns = c.args.ends.now in
    let low : c.start-low.result ≡ total (take c.args.from ns) = search (rules, c.start-low.ensures) in
    let high : c.start-high.result ≡ total (take c.args.to ns) = search (rules, c.start-high.ensures) in
    omega (arith, low, high, total_ordered c.args.from c.args.to ns c.requires.ordered)
