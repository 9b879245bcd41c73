use Rattle.std.proofs.Common.{◌≡◌, ◌++◌, ◌∷◌, [], IfOk, subst}
use Rattle.scan_plans.specs.Masks.{MaskData, mask_data, mask_of}
use Rattle.scan_plans.specs.Pruning.{FiltersAlike}
use Rattle.scan_plans.proofs.Pruned.{kept_within, kept_again, filters_alike, of_pruned}
use Rattle.scan_plans.proofs.plan.Plan.prune.Goals as goal

pub returns-then-is_numbered-clause-alike : goal.returns-then-is_numbered-clause-alike
returns-then-is_numbered-clause-alike c = λ store.
    let p = (c.args.plan.now.value).tree in
    let first = c.args.range.now.start in
    let bits = c.args.mask in
    let made : IfOk c.filter.result (λ m. m ≡ mask_data bits ((p, first) ∷ [])) = subst (λ (a : MaskData). IfOk c.filter.result (λ m. m ≡ mask_data a.known (a.filters ++ (p, first) ∷ []))) c.ready-all.ensures c.filter.ensures in
    of_pruned (λ (m : MaskData). FiltersAlike p store first bits (mask_of m store)) (mask_data bits ((p, first) ∷ [])) c.filter.result (kept_again p store first bits) made

pub returns-clause-keeps : goal.returns-clause-keeps
returns-clause-keeps c = λ store. rw c.ready-all.ensures (kept_within (c.args.plan.now.value).tree store c.args.range.now.start c.args.mask)

pub returns-clause-alike : goal.returns-clause-alike
returns-clause-alike c = λ store. rw c.ready-all.ensures (filters_alike (c.args.plan.now.value).tree store c.args.range.now.start c.args.mask)
