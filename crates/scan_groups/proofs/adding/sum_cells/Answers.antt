use Rattle.std.proofs.Common.{◌≡◌, ◌<◌, ◌≤◌, List, [], ◌∷◌, ◌++◌, length, get_or, refl, sym, ap, ◌∙◌, subst, arith, unsigned_abs}
use Rattle.std.proofs.lemmas.List.{length-set, get_or_default}
use Rattle.std.proofs.lemmas.List.Elements.{All-set}
use Rattle.scan_groups.specs.Cells.{run_vals}
use Rattle.scan_values.specs.Val.{Val, null_val}
use Rattle.scan_groups.specs.Totals.{IsSumOf, no_sum}
use Rattle.scan_groups.specs.Within.{IsWithin}
use Rattle.scan_groups.proofs.Added.{adds_none, adds_more, adds_all}
use Rattle.scan_groups.proofs.adding.sum_cells.Goals as goal

pub loop-i-init : goal.loop-i-init
loop-i-init c = record { long = refl; near = λ k h. h; more = adds_none IsSumOf no_sum c.args.places.now (run_vals c.args.run) c.args.sums.items }

pub index-requires : goal.index-requires
index-requires c = let lt = c.requires.places c.loop-i.i 0 c.loop-i-test.true in omega (arith, lt, c.loop-i.invariant.long, c.loop-i.sums.ok.0)

pub index_mut-requires : goal.index_mut-requires
index_mut-requires c = let lt = c.requires.places c.loop-i.i 0 c.loop-i-test.true in omega (arith, lt, c.loop-i.invariant.long, c.loop-i.sums.ok.0)

pub loop-i-preserved : goal.loop-i-preserved
loop-i-preserved c =
    let us = c.loop-i.sums.items in
    let ps = c.args.places.now in
    let i = c.loop-i.i in
    let p = get_or ps i 0 in
    let x = c.in_ok-sums.field-0 in
    let vs : List Val = run_vals c.args.run in
    let v = get_or vs i null_val in
    let lt = c.requires.places i 0 c.loop-i-test.true in
    let below : p < length us = omega (arith, lt, c.loop-i.invariant.long) in
    let at : c.index.result.now ≡ get_or us p no_sum = c.index.ensures ∙ get_or_default us p c.index.result.now no_sum below in
    let within : i < length vs = omega (arith, c.requires.even, c.loop-i-test.true) in
    let step : (ws : List Val) → IsSumOf ws (get_or us p no_sum) → IsSumOf (ws ++ v ∷ []) x =
    λ ws h. subst (λ w. IsSumOf (ws ++ w ∷ []) x) c.cell.ensures (c.in_ok-sums.ensures.more ws (subst (λ s. IsSumOf ws s) (sym at) h)) in
    let same : x.near ≡ (get_or us p no_sum).near = c.in_ok-sums.ensures.near ∙ ap (λ s. s.near) at in
    record {
      near = λ k h. let all = c.loop-i.invariant.near k h in All-set (IsWithin k) us p x (subst (λ z. unsigned_abs z ≤ k) (sym same) (all p no_sum below)) all;
      long = length-set us p x ∙ c.loop-i.invariant.long;
      more = adds_more IsSumOf no_sum i ps vs c.args.sums.items us p v x c.loop-i-test.true within refl refl below step c.loop-i.invariant.more;
    }

pub returns-clause-more : goal.returns-clause-more
returns-clause-more c =
    let vs : List Val = run_vals c.args.run in
    let most = c.loop-i-test.false in
    let long : length vs ≤ c.loop-i.i = omega (arith, c.requires.even, most) in
    adds_all IsSumOf no_sum c.loop-i.i c.args.places.now vs c.args.sums.items c.loop-i.sums.items most long c.loop-i.invariant.more
