use borrow.Author.Rules.{rules}
use Rattle.std.proofs.Common.{◌≡◌, ◌+◌, ◌≤◌, take, arith}
use Rattle.scan_columns.specs.Nested.{total}
use Rattle.scan_columns.proofs.NestedLemmas.{total_ordered}
use Rattle.scan_columns.proofs.texts.slot_bytes.Goals as goal

pub slice_bounds-result-count : goal.slice_bounds-result-count
slice_bounds-result-count c =
    let i = c.args.i in
    let ns = c.args.ends.now in
    let low : c.start-low.result ≡ total (take i ns) = search (rules, c.start-low.ensures) in
    let high : c.end-high.result ≡ total (take (i + 1) ns) = search (rules, c.end-high.ensures) in
    omega (arith, low, high, total_ordered i (i + 1) ns (omega arith))

pub slice_bounds-result-start : goal.slice_bounds-result-start
slice_bounds-result-start c =
    let i = c.args.i in
    let ns = c.args.ends.now in
    let low : c.start-low.result ≡ total (take i ns) = search (rules, c.start-low.ensures) in
    let high : c.end-high.result ≡ total (take (i + 1) ns) = search (rules, c.end-high.ensures) in
    omega (arith, low, high, total_ordered i (i + 1) ns (omega arith))
