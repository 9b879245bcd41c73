use Rattle.std.proofs.Common.{◌≡◌, ◌+◌, ◌-◌, [], ◌∷◌, ◌++◌, length, sym, ap, ◌∙◌, arith, append_assoc, append-nil}
use Rattle.std.specs.Prelude.{replicate}
use Rattle.std.proofs.lemmas.List.{replicate_more}
use Rattle.scan_values.specs.declared.value.Value.TheVariants.{Null}
use Rattle.scan_groups.proofs.Added.{past_start}
use Rattle.scan_groups.proofs.adding.with_nulls.Goals as goal

pub loop-i-init : goal.loop-i-init
loop-i-init c =
    let vs = c.args.values.items in
    let n : c.len-i.result - length vs ≡ 0 = omega (arith, c.len-i.ensures, c.args.values.ok.0) in
    record {
      most = λ k a b. omega (arith, a, c.len-i.ensures, c.args.values.ok.0);
      same = sym (append-nil vs) ∙ ap (λ k. vs ++ replicate k Null) (sym n);
    }

pub loop-i-preserved : goal.loop-i-preserved
loop-i-preserved c =
    let vs = c.args.values.items in
    let n = c.loop-i.i - length vs in
    let next : n + 1 ≡ c.loop-i.i + 1 - length vs = omega (arith, c.loop-i.auto.i, c.len-i.ensures, c.args.values.ok.0) in
    record {
      most = λ k a b. omega (arith, b, c.loop-i-test.true);
      same = c.in_ok-push.ensures.items ∙ ap (λ us. us ++ Null ∷ []) c.loop-i.invariant.same ∙ append_assoc vs (replicate n Null) (Null ∷ []) ∙ ap (λ us. vs ++ us) (replicate_more n Null ∙ ap (λ k. replicate k Null) next);
    }

pub returns : goal.returns
returns c =
    let vs = c.args.values.items in
    c.loop-i.invariant.same ∙ ap (λ k. vs ++ replicate k Null) (past_start (length vs) c.args.len c.loop-i.i c.loop-i.invariant.most c.loop-i-test.false)
