use borrow.Author.Rules.{rules}
use Rattle.std.proofs.Common.{◌≡◌, ◌<◌, false, List, [], ◌∷◌, ◌++◌, length, map, ◌∙◌}
use Rattle.scan_values.specs.Val.{Val}
use Rattle.scan_expr.specs.Bound.{Bound}
use Rattle.scan_columns.specs.Cells.{vals_in}
use Rattle.scan_columns.specs.Rows.{beside, part_rows, bound_in, bound_overflows_in, IsPlaced}
use Rattle.scan_columns.proofs.PickLemmas.{place_found, next_none}
use Rattle.scan_columns.proofs.evaluate.each_placed.Goals as goal

pub loop-part-preserved : goal.loop-part-preserved
loop-part-preserved c =
    let cs = c.args.columns.now in
    let bs = c.args.parts.now in
    let k = c.loop-part.part-index in
    let b = c.part-item.result in
    let rows = part_rows (map vals_in cs) c.args.len in
    let f : Bound → List Val = bound_in rows in
    let old = beside cs c.loop-part.made.items in
    let new = beside cs c.in_ok-place.more.items in
    let at : IsPlaced old new c.in_ok-place.place (f b) = search (rules, c.in_ok-place.ensures.items) in
    let pushed : c.push.new.self.items ≡ c.loop-part.places.items ++ (c.in_ok-place.place ∷ []) = search (rules, c.in_ok-push.ensures.items) in
    let l : k < length bs = c.loop-part-test.true in
    let both = place_found f bs k b old new c.loop-part.places.items c.push.new.self.items c.in_ok-place.place l c.part-item.is at pushed c.loop-part.invariant.below c.loop-part.invariant.values in
    let none : bound_overflows_in rows b ≡ false = search (rules, c.in_ok-place.ensures.within) in
    record {
      values = both.1;
      below = both.0;
      within = c.loop-part.invariant.within ∙ next_none (bound_overflows_in rows) bs k b l c.part-item.is none;
    }
