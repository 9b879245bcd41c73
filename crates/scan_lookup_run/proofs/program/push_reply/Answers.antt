use Rattle.std.proofs.Common.{◌++◌, ◌<◌, ◌∙◌, List, ℕ, get_or, length, map, refl, ap, arith, rules}
use Rattle.std.proofs.lemmas.List.{get_or_default}
use Rattle.scan_values.specs.DataType.{DataType}
use Rattle.scan_values.specs.Val.{Val}
use Rattle.scan_values.specs.Values.{val_of}
use Rattle.scan_values.specs.declared.value.Value.{Value}
use Rattle.scan_places.specs.declared.place.Place.{Place}
use Rattle.scan_lookup_run.specs.Replied.{reply_lines}
use Rattle.scan_lookup_run.proofs.Lines.{all_lines, line_more, map_long}
use Rattle.scan_lookup_run.proofs.program.push_reply.Goals as goal

pub loop-i-init : goal.loop-i-init
loop-i-init c = refl

pub bounds-values-i : goal.bounds-values-i
bounds-values-i c =
    let long = map_long val_of c.as_slice-values.result.now in
    let same = ap length c.as_slice-values.ensures.items in
    omega (arith, c.loop-i-test.true, long, same, c.requires)

pub offset_bounds-values-i : goal.offset_bounds-values-i
offset_bounds-values-i c =
    let long = map_long val_of c.as_slice-values.result.now in
    let same = ap length c.as_slice-values.ensures.items in
    let below : c.loop-i.i < length c.as_slice-values.result.now = omega (arith, c.loop-i-test.true, long, same, c.requires) in
    search (rules, below)

pub loop-i-preserved : goal.loop-i-preserved
loop-i-preserved c =
    let ps : List Place = c.args.places.now in
    let vs : List Value = c.as_slice-values.result.now in
    let d : DataType = c.dtype-dtype.result.now in
    let long = map_long val_of vs in
    let same = ap length c.as_slice-values.ensures.items in
    let below : c.loop-i.i < length vs = omega (arith, c.loop-i-test.true, long, same, c.requires) in
    let lt : c.loop-i.i < length ps = omega (arith, c.loop-i-test.true) in
    let first : Place = record { file = 0; row = 0 } in
    let p : Place = get_or ps c.loop-i.i first in
    line_more d ps vs c.args.out.now.items c.loop-i.i p c.index-values-i.result c.loop-i.out.items c.push_line.new.out.items lt below (get_or_default ps c.loop-i.i first p lt) c.index-values-i.is c.in_ok-push_line.ensures.ok
    c.loop-i.invariant

pub returns : goal.returns
returns c =
    let ps : List Place = c.args.places.now in
    let vs : List Value = c.as_slice-values.result.now in
    let d : DataType = c.dtype-dtype.result.now in
    let first : List ℕ = c.args.out.now.items in
    all_lines d ps vs first c.loop-i.i c.loop-i.out.items (omega (arith, c.loop-i-test.false)) c.loop-i.invariant
    ∙ ap (λ (x : DataType). first ++ reply_lines x ps (map val_of vs)) c.dtype-dtype.ensures
    ∙ ap (λ (xs : List Val). first ++ reply_lines (c.args.reply.now).dtype ps xs) c.as_slice-values.ensures.items
