use Rattle.std.proofs.Common.{◌≡◌, ◌+◌, ◌<◌, ◌≤◌, length, get_or, refl, sym, ap, ◌∙◌, subst, arith}
use Rattle.std.proofs.lemmas.List.{length-set, get_or_default}
use Rattle.std.proofs.lemmas.List.Elements.{All-set, All-weaker}
use Rattle.scan_values.specs.Val.{null_val}
use Rattle.scan_groups.specs.Totals.{IsCount}
use Rattle.scan_groups.proofs.Added.{adds_none, adds_more, adds_all, count_push}
use Rattle.scan_groups.proofs.counts.count_rows.Goals as goal

pub loop-i-init : goal.loop-i-init
loop-i-init c = record { long = refl; bound = omega arith; most = All-weaker (λ n. n ≤ c.args.most) (λ n. n ≤ c.args.most + 0) (λ n le. omega (arith, le)) c.args.counts.items c.requires.most; more = λ vs e. adds_none IsCount 0 c.args.places.now vs c.args.counts.items }

pub index_mut-requires : goal.index_mut-requires
index_mut-requires c = let lt = c.requires.places c.loop-i.i 0 c.loop-i-test.true in omega (arith, lt, c.loop-i.invariant.long, c.loop-i.counts.ok.0)

pub loop-i-preserved : goal.loop-i-preserved
loop-i-preserved c =
    let us = c.loop-i.counts.items in
    let ps = c.args.places.now in
    let i = c.loop-i.i in
    let p = get_or ps i 0 in
    let lt = c.requires.places i 0 c.loop-i-test.true in
    let below : p < length us = omega (arith, lt, c.loop-i.invariant.long) in
    let was = c.index_mut.result.now in
    let at : was ≡ get_or us p 0 = c.index_mut.ensures.value ∙ get_or_default us p was 0 below in
    let x = was + 1 in
    let e : x ≡ get_or us p 0 + 1 = ap (λ n. n + 1) at in
    let one : was ≤ c.args.most + i = subst (λ n. n ≤ c.args.most + i) (sym at) (c.loop-i.invariant.most p 0 below) in
    record {
      bound = omega (arith, c.loop-i-test.true);
      most = All-set (λ n. n ≤ c.args.most + (i + 1)) us p x (omega (arith, one)) (All-weaker (λ n. n ≤ c.args.most + i) (λ n. n ≤ c.args.most + (i + 1)) (λ n le. omega (arith, le)) us c.loop-i.invariant.most);
      long = length-set us p x ∙ c.loop-i.invariant.long;
      more = λ vs long. adds_more IsCount 0 i ps vs c.args.counts.items us p (get_or vs i null_val) x c.loop-i-test.true (omega (arith, long, c.loop-i-test.true)) refl refl below (count_push (get_or us p 0) x (get_or vs i null_val) e)
          (c.loop-i.invariant.more vs long);
    }

pub returns-clause-more : goal.returns-clause-more
returns-clause-more c = λ vs long. let most = c.loop-i-test.false in adds_all IsCount 0 c.loop-i.i c.args.places.now vs c.args.counts.items c.loop-i.counts.items most (omega (arith, long, most)) (c.loop-i.invariant.more vs long)

pub returns-clause-most : goal.returns-clause-most
returns-clause-most c = All-weaker (λ n. n ≤ c.args.most + c.loop-i.i) (λ n. n ≤ c.args.most + length c.args.places.now) (λ n le. let l = c.loop-i.invariant.bound in omega (arith, le, l)) c.loop-i.counts.items c.loop-i.invariant.most
