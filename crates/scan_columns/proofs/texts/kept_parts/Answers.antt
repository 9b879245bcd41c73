use borrow.Author.Rules.{rules}
use Rattle.std.proofs.Common.{◌≡◌, ◌<◌, ◌++◌, ℕ, Bool, false, List, [], cond, get_or, length, slice_range, arith, refl}
use Rattle.std.specs.List.{items_where_true}
use Rattle.scan_columns.specs.Nested.{sizes, spread}
use Rattle.scan_columns.proofs.TextLemmas.{part_step}
use Rattle.scan_columns.proofs.texts.kept_parts.Goals as goal

pub loop-i-preserved : goal.loop-i-preserved
loop-i-preserved c =
    let i = c.loop-i.i in
    let start = c.loop-i.start in
    let ends : List ℕ = c.args.ends.now in
    let bits : List Bool = c.args.bits.now in
    let bytes : List ℕ = c.args.bytes.now in
    let made : List ℕ = c.loop-i.made.items in
    let end = get_or ends i 0 in
    let low : i < length ends = c.loop-i-test.true in
    let short : i < length bits = omega (arith, low, c.requires.even) in
    let kept : List ℕ = cond (get_or bits i false) (slice_range bytes start end) [] in
    let more : c.extend_from_slice.new.self.items ≡ made ++ kept = search (rules, c.in_ok-extend_from_slice.ensures.items, c.if_true-kept.ensures) in
    let step = part_step start end ends i bits bytes made (items_where_true (spread bits (sizes 0 ends)) bytes) low short refl c.loop-i.invariant.rises c.loop-i.invariant.whole c.loop-i.invariant.same in
    rw more (record { rises = step.2; whole = step.3; same = step.4 })
