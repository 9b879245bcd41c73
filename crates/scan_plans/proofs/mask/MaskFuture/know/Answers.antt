use Rattle.std.proofs.Common.{◌≡◌, ◌+◌, ◌-◌, ◌≤◌, ◌∙◌, List, length, take, drop, ap, subst, sym, arith, Ok}
use Rattle.scan_plans.specs.Came.{came}
use Rattle.scan_plans.specs.Knowing.{RunsAll, Knows}
use Rattle.scan_plans.specs.Masks.{MaskData, mask_data, SameMask, AreFilters}
use Rattle.scan_plans.specs.MaskView.{filters_of}
use Rattle.scan_plans.specs.declared.mask.Filter.{Filter}
use Rattle.scan_plans.proofs.Progressing.{take_rest, goes_within, goes_form, goes_same, goes_answer, goes_length, goes_stuck, none_runs, stays_same, none_left, known_already}
use Rattle.scan_plans.proofs.mask.MaskFuture.know.Goals as goal

pub run_filters-requires : goal.run_filters-requires
run_filters-requires c =
    let bits = c.self.inside.known in
    let fs = c.self.inside.filters.items in
    let ran = c.self.inside.ran in
    let rest : take (length c.deref.result.now - ran) (drop ran c.deref.result.now) ≡ drop ran fs = take_rest ran c.deref.result.now ∙ ap (λ (xs : List Filter). drop ran xs) c.deref.ensures.value in
    subst (λ (xs : List Filter). AreFilters (length bits) (filters_of xs)) (sym rest) c.self.invariant.form

pub overflow_add-self : goal.overflow_add-self
overflow_add-self c =
    let here = came c.args.inbox.now in
    let bits = c.self.inside.known in
    let fs = c.self.inside.filters.items in
    let ran = c.self.inside.ran in
    let rest : take (length c.deref.result.now - ran) (drop ran c.deref.result.now) ≡ drop ran fs = take_rest ran c.deref.result.now ∙ ap (λ (xs : List Filter). drop ran xs) c.deref.ensures.value in
    let p = c.in_ok-progress.progress in
    let r : RunsAll here bits (filters_of (drop ran fs)) (Ok p) = subst (λ (xs : List Filter). RunsAll here bits (filters_of xs) (Ok p)) rest c.in_ok-progress.ensures in
    let w : ran + p.ran ≤ length fs = goes_within here bits p.known fs ran p.ran c.self.invariant.within r.0 in
    let l : length c.deref.result.now ≡ length fs = ap (λ (xs : List Filter). length xs) c.deref.ensures.value in
    omega (arith, w, l, c.deref.ensures.len, c.self.inside.filters.ok.0, c.self.inside.filters.small)

pub invariant_of-self : goal.invariant_of-self
invariant_of-self c =
    let here = came c.args.inbox.now in
    let bits = c.self.inside.known in
    let fs = c.self.inside.filters.items in
    let ran = c.self.inside.ran in
    let rest : take (length c.deref.result.now - ran) (drop ran c.deref.result.now) ≡ drop ran fs = take_rest ran c.deref.result.now ∙ ap (λ (xs : List Filter). drop ran xs) c.deref.ensures.value in
    let p = c.in_ok-progress.progress in
    let r : RunsAll here bits (filters_of (drop ran fs)) (Ok p) = subst (λ (xs : List Filter). RunsAll here bits (filters_of xs) (Ok p)) rest c.in_ok-progress.ensures in
    record { within = goes_within here bits p.known fs ran p.ran c.self.invariant.within r.0; form = goes_form here bits p.known fs ran p.ran c.self.invariant.form r.0 }

pub returns-clause-same : goal.returns-clause-same
returns-clause-same c =
    let here = came c.args.inbox.now in
    let bits = c.self.inside.known in
    let fs = c.self.inside.filters.items in
    let ran = c.self.inside.ran in
    let rest : take (length c.deref.result.now - ran) (drop ran c.deref.result.now) ≡ drop ran fs = take_rest ran c.deref.result.now ∙ ap (λ (xs : List Filter). drop ran xs) c.deref.ensures.value in
    let p = c.in_ok-progress.progress in
    let r : RunsAll here bits (filters_of (drop ran fs)) (Ok p) = subst (λ (xs : List Filter). RunsAll here bits (filters_of xs) (Ok p)) rest c.in_ok-progress.ensures in
    subst (λ (m : MaskData). SameMask here (mask_data p.known (filters_of (drop (ran + p.ran) fs))) m) c.self.view_is (goes_same here bits p.known fs ran p.ran r.0)

pub returns-clause-answer : goal.returns-clause-answer
returns-clause-answer c =
    let here = came c.args.inbox.now in
    let bits = c.self.inside.known in
    let fs = c.self.inside.filters.items in
    let ran = c.self.inside.ran in
    let rest : take (length c.deref.result.now - ran) (drop ran c.deref.result.now) ≡ drop ran fs = take_rest ran c.deref.result.now ∙ ap (λ (xs : List Filter). drop ran xs) c.deref.ensures.value in
    let p = c.in_ok-progress.progress in
    let r : RunsAll here bits (filters_of (drop ran fs)) (Ok p) = subst (λ (xs : List Filter). RunsAll here bits (filters_of xs) (Ok p)) rest c.in_ok-progress.ensures in
    subst (λ (m : MaskData). Knows here m (mask_data p.known (filters_of (drop (ran + p.ran) fs))) (Ok p.lacking)) c.self.view_is (goes_answer here bits p.known fs ran p.ran p.lacking r.0 r.1)

pub returns-clause-length : goal.returns-clause-length
returns-clause-length c =
    let here = came c.args.inbox.now in
    let bits = c.self.inside.known in
    let fs = c.self.inside.filters.items in
    let ran = c.self.inside.ran in
    let rest : take (length c.deref.result.now - ran) (drop ran c.deref.result.now) ≡ drop ran fs = take_rest ran c.deref.result.now ∙ ap (λ (xs : List Filter). drop ran xs) c.deref.ensures.value in
    let p = c.in_ok-progress.progress in
    let r : RunsAll here bits (filters_of (drop ran fs)) (Ok p) = subst (λ (xs : List Filter). RunsAll here bits (filters_of xs) (Ok p)) rest c.in_ok-progress.ensures in
    goes_length here bits p.known fs ran p.ran r.0 ∙ ap (λ (m : MaskData). length m.known) c.self.view_is

pub returns-then-self-len-clause-same : goal.returns-then-self-len-clause-same
returns-then-self-len-clause-same c = stays_same (came c.args.inbox.now) c.args.self.now

pub returns-then-self-len-clause-answer : goal.returns-then-self-len-clause-answer
returns-then-self-len-clause-answer c =
    let fs = c.self.inside.filters.items in
    let left : length fs ≤ c.self.inside.ran = omega (arith, c.if-self-len.true, c.len.ensures, c.self.inside.filters.ok.0) in
    known_already (came c.args.inbox.now) c.args.self.now (sym (ap (λ (m : MaskData). m.filters) c.self.view_is) ∙ none_left fs c.self.inside.ran left)

pub returns-clause-run : goal.returns-clause-run
returns-clause-run c =
    let here = came c.args.inbox.now in
    let bits = c.self.inside.known in
    let fs = c.self.inside.filters.items in
    let ran = c.self.inside.ran in
    let rest : take (length c.deref.result.now - ran) (drop ran c.deref.result.now) ≡ drop ran fs = take_rest ran c.deref.result.now ∙ ap (λ (xs : List Filter). drop ran xs) c.deref.ensures.value in
    let p = c.in_ok-progress.progress in
    let r : RunsAll here bits (filters_of (drop ran fs)) (Ok p) = subst (λ (xs : List Filter). RunsAll here bits (filters_of xs) (Ok p)) rest c.in_ok-progress.ensures in
    goes_stuck here p.known fs ran p.ran p.lacking r.1

pub returns-then-self-len-clause-run : goal.returns-then-self-len-clause-run
returns-then-self-len-clause-run c =
    let fs = c.self.inside.filters.items in
    let left : length fs ≤ c.self.inside.ran = omega (arith, c.if-self-len.true, c.len.ensures, c.self.inside.filters.ok.0) in
    none_runs (came c.args.inbox.now) c.args.self.now (sym (ap (λ (m : MaskData). m.filters) c.self.view_is) ∙ none_left fs c.self.inside.ran left)
