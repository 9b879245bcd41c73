use Rattle.std.proofs.Common.{◌≡◌, ◌+◌, ◌<◌, ◌≤◌, List, [], ◌∷◌, ◌++◌, length, get_or, set, take, map, refl, sym, ap, ◌∙◌, subst, arith}
use Rattle.std.proofs.lemmas.List.{length-set, length-map, get_or-map, set-set, map-set}
use Rattle.scan_values.specs.Val.{Val, null_val}
use Rattle.scan_values.specs.Values.{val_of}
use Rattle.scan_groups.specs.Cells.{run_vals}
use Rattle.scan_groups.specs.Totals.{picked, IsLeastOf}
use Rattle.scan_groups.proofs.Added.{adds_none, adds_more, adds_all}
use Rattle.scan_groups.proofs.adding.find_least.Goals as goal

pub loop-i-init : goal.loop-i-init
loop-i-init c = record { long = refl; more = adds_none IsLeastOf null_val c.args.places.now (run_vals c.args.run) (map val_of c.args.values.items) }

pub index_mut-requires : goal.index_mut-requires
index_mut-requires c = let lt = c.requires.places c.loop-i.i 0 c.loop-i-test.true in omega (arith, lt, c.loop-i.invariant.long, c.loop-i.values.ok.0)

pub index_mut-requires-in-loop-i : goal.index_mut-requires-in-loop-i
index_mut-requires-in-loop-i c = let lt = c.requires.places c.loop-i.i 0 c.loop-i-test.true in omega (arith, lt, c.loop-i.invariant.long, c.loop-i.values.ok.0)

pub loop-i-preserved : goal.loop-i-preserved
loop-i-preserved c =
    let us = c.loop-i.values.items in
    let ps = c.args.places.now in
    let i = c.loop-i.i in
    let p = get_or ps i 0 in
    let d = c.replace-least.new.dest in
    let x = c.in_ok-value.value in
    let vs : List Val = run_vals c.args.run in
    let v = get_or vs i null_val in
    let lt = c.requires.places i 0 c.loop-i-test.true in
    let below : p < length us = omega (arith, lt, c.loop-i.invariant.long) in
    let long = length-map us val_of in
    let there : p < length (map val_of us) = omega (arith, below, long) in
    let within : i < length vs = omega (arith, c.requires.even, c.loop-i-test.true) in
    let old = c.replace-least.result in
    let now = c.index_mut.result.now in
    let at : val_of old ≡ get_or (map val_of us) p null_val = ap val_of (c.replace-least.ensures.value ∙ c.index_mut.ensures.value) ∙ sym (get_or-map val_of us p now null_val below) in
    let step : (ws : List Val) → IsLeastOf ws (get_or (map val_of us) p null_val) → IsLeastOf (ws ++ v ∷ []) (val_of x) =
    λ ws h. subst (λ w. IsLeastOf (ws ++ w ∷ []) (val_of x)) c.cell.ensures (c.in_ok-value.ensures ws (subst (λ u. IsLeastOf ws u) (sym at) h)) in
    let put : set (map val_of us) p (val_of x) ≡ map val_of (set (set us p d) p x) = sym (ap (map val_of) (set-set us p d x) ∙ map-set val_of us p x) in
    let all = adds_more IsLeastOf null_val i ps vs (map val_of c.args.values.items) (map val_of us) p v (val_of x) c.loop-i-test.true within refl refl there step c.loop-i.invariant.more in
    record {
      long = length-set (set us p d) p x ∙ length-set us p d ∙ c.loop-i.invariant.long;
      more = λ before q h. subst (λ zs. IsLeastOf (before ++ picked q (take (i + 1) ps) (take (i + 1) vs)) (get_or zs q null_val)) put (all before q h);
    }

pub returns-clause-more : goal.returns-clause-more
returns-clause-more c =
    let vs : List Val = run_vals c.args.run in
    let most = c.loop-i-test.false in
    let long : length vs ≤ c.loop-i.i = omega (arith, c.requires.even, most) in
    adds_all IsLeastOf null_val c.loop-i.i c.args.places.now vs (map val_of c.args.values.items) (map val_of c.loop-i.values.items) most long c.loop-i.invariant.more
