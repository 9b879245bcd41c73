use Rattle.std.proofs.Common.{rules, ◌≡◌, ◌<◌, ◌+◌, ◌++◌, List, [], ◌∷◌, ap, drop, get_or, length, map, arith, sym, ◌∙◌}
use Rattle.std.proofs.lemmas.Bool.{eqb-true}
use Rattle.std.proofs.lemmas.List.{length-map, map-append}
use Rattle.scan_values.specs.Val.{Val}
use Rattle.scan_columns.specs.Cells.{vals_in}
use Rattle.scan_columns.specs.Rows.{picked}
use Rattle.scan_columns.proofs.PickLemmas.{below_at}
use Rattle.scan_columns.proofs.LastUses.{no_later, picked_next}
use Rattle.scan_columns.proofs.picks.picked.Goals as goal

pub at_place-requires : goal.at_place-requires
at_place-requires c =
    let cs = c.args.columns.now in
    let below : get_or c.args.places.now c.loop-i.i 0 < length (map vals_in cs) = below_at (length (map vals_in cs)) c.args.places.now c.loop-i.i 0 c.requires c.loop-i-test.true in
    omega (arith, below, length-map cs vals_in, c.loop-i.invariant.count)

pub loop-i-preserved : goal.loop-i-preserved
loop-i-preserved c =
    let cs = c.args.columns.now in
    let us = c.in_ok-last.last.items in
    let ps = c.args.places.now in
    let p = get_or ps c.loop-i.i 0 in
    let below : p < length us = omega (arith, below_at (length (map vals_in cs)) ps c.loop-i.i 0 c.requires c.loop-i-test.true, length-map cs vals_in, c.in_ok-last.ensures.count) in
    let kept : picked (map vals_in c.at_place.new.columns) (drop (c.loop-i.i + 1) ps) ≡ picked (map vals_in c.loop-i.columns) (drop (c.loop-i.i + 1) ps) =
    c.in_ok-at_place.ensures.later (drop (c.loop-i.i + 1) ps) (λ e. no_later us ps c.loop-i.i p c.index.result.now c.in_ok-last.ensures.last below (sym c.index.ensures ∙ eqb-true c.index.result.now c.loop-i.i e)) in
    let pushed : c.push.new.self.items ≡ c.loop-i.made.items ++ (c.in_ok-at_place.field-0 ∷ []) = search rules in
    let grown : map vals_in c.push.new.self.items ≡ map vals_in c.loop-i.made.items ++ (get_or (map vals_in c.loop-i.columns) p [] ∷ []) =
    ap (map vals_in) pushed ∙ map-append vals_in c.loop-i.made.items (c.in_ok-at_place.field-0 ∷ []) ∙ ap (λ (v : List Val). map vals_in c.loop-i.made.items ++ (v ∷ [])) c.in_ok-at_place.ensures.cells in
    record {
      values = picked_next (map vals_in c.loop-i.made.items) (map vals_in c.push.new.self.items) (map vals_in c.loop-i.columns) (map vals_in c.at_place.new.columns) (map vals_in cs) ps c.loop-i.i c.loop-i-test.true c.loop-i.invariant.values grown kept;
      count = c.at_place.ensures.count ∙ c.loop-i.invariant.count;
    }
