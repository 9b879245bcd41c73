use Rattle.std.proofs.Common.{◌≡◌, ◌++◌, ◌∷◌, [], ◌∙◌, ℕ, List, replicate, ap, arith, rules}
use Rattle.scan_seek.specs.KeptData.{KeptData, unopened}
use Rattle.scan_lookup.proofs.Sessions.{replicate_push}
use Rattle.scan_lookup.proofs.session.all_unopened.Goals as goal

pub loop-i-init : goal.loop-i-init
loop-i-init c = record { most = omega arith; same = (search rules) }

pub loop-i-preserved : goal.loop-i-preserved
loop-i-preserved c =
    let old : List KeptData = c.loop-i.kept.items in
    let pushed : c.push.new.self.items ≡ old ++ (c.unopened.result ∷ []) = search rules in
    record {
      most = omega (arith, c.loop-i-test.true);
      same = pushed ∙ ap (λ (k : KeptData). old ++ k ∷ []) c.unopened.ensures ∙ ap (λ (xs : List KeptData). xs ++ unopened ∷ []) c.loop-i.invariant.same ∙ replicate_push c.loop-i._i unopened;
    }

pub returns : goal.returns
returns c =
    let end : c.loop-i._i ≡ c.args.count = omega (arith, c.loop-i-test.false, c.loop-i.invariant.most) in
    c.loop-i.invariant.same ∙ ap (λ (n : ℕ). replicate n unopened) end
