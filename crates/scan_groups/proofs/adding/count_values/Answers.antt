use Rattle.std.proofs.Common.{◌≡◌, ◌+◌, ◌<◌, ◌≤◌, List, length, get_or, cond, refl, ap, ◌∙◌, arith}
use Rattle.std.proofs.lemmas.List.{length-set, get_or_default}
use Rattle.scan_groups.specs.Cells.{run_vals}
use Rattle.scan_groups.specs.Rows.{is_null}
use Rattle.scan_values.specs.Val.{Val, null_val}
use Rattle.scan_groups.specs.Totals.{IsCountOf}
use Rattle.scan_groups.proofs.Added.{adds_none, adds_more, adds_all, count_of_push}
use Rattle.scan_groups.proofs.adding.count_values.Goals as goal

pub loop-i-init : goal.loop-i-init
loop-i-init c = record { long = refl; more = adds_none IsCountOf 0 c.args.places.now (run_vals c.args.run) c.args.counts.items }

pub index-requires : goal.index-requires
index-requires c = let lt = c.requires.places c.loop-i.i 0 c.loop-i-test.true in omega (arith, lt, c.loop-i.invariant.long, c.loop-i.counts.ok.0)

pub index_mut-requires : goal.index_mut-requires
index_mut-requires c = let lt = c.requires.places c.loop-i.i 0 c.loop-i-test.true in omega (arith, lt, c.loop-i.invariant.long, c.loop-i.counts.ok.0)

pub loop-i-preserved : goal.loop-i-preserved
loop-i-preserved c =
    let us = c.loop-i.counts.items in
    let ps = c.args.places.now in
    let i = c.loop-i.i in
    let p = get_or ps i 0 in
    let x = c.in_ok-counts.field-0 in
    let vs : List Val = run_vals c.args.run in
    let v = get_or vs i null_val in
    let lt = c.requires.places i 0 c.loop-i-test.true in
    let below : p < length us = omega (arith, lt, c.loop-i.invariant.long) in
    let at : c.index.result.now ≡ get_or us p 0 = c.index.ensures ∙ get_or_default us p c.index.result.now 0 below in
    let within : i < length vs = omega (arith, c.requires.even, c.loop-i-test.true) in
    let e : x ≡ cond c.is_null.result (get_or us p 0) (get_or us p 0 + 1) = c.in_ok-counts.ensures ∙ ap (λ n. cond c.is_null.result n (n + 1)) at in
    let step = count_of_push (get_or us p 0) x v c.is_null.result (c.is_null.ensures ∙ ap is_null c.cell.ensures) e in
    record {
      long = length-set us p x ∙ c.loop-i.invariant.long;
      more = adds_more IsCountOf 0 i ps vs c.args.counts.items us p v x c.loop-i-test.true within refl refl below step c.loop-i.invariant.more;
    }

pub returns-clause-more : goal.returns-clause-more
returns-clause-more c =
    let vs : List Val = run_vals c.args.run in
    let most = c.loop-i-test.false in
    let long : length vs ≤ c.loop-i.i = omega (arith, c.requires.even, most) in
    adds_all IsCountOf 0 c.loop-i.i c.args.places.now vs c.args.counts.items c.loop-i.counts.items most long c.loop-i.invariant.more
