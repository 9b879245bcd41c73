use Rattle.std.proofs.Common.{◌≡◌, ◌∙◌, List, length, ap, arith, subst, sym}
use Rattle.std.specs.Prelude.{All}
use Rattle.std.proofs.lemmas.List.{with_items_is}
use Rattle.scan_drive.specs.Budgets.{BudgetData, GrantsAll, IsOpen}
use Rattle.scan_drive.specs.Claimed.{PhaseGrants}
use Rattle.scan_drive.specs.Workers.{IsWithin}
use Rattle.scan_drive.specs.declared.workers.Job.{Job}
use Rattle.scan_drive.proofs.Granting.{granted_places, granted_within, phase_open, phase_used, put_as}
use Rattle.scan_drive.proofs.Working.{listed_in_turn}
use Rattle.scan_drive.proofs.workers.poll_granted.Goals as goal

pub put_jobs-requires : goal.put_jobs-requires
put_jobs-requires g c =
    let split = g.W.SplitWork.split in
    let comes = g.W.SplitWork.comes in
    let items = g.W.SplitWork.items in
    let v = c.in_ok-jobs.jobs in
    let jobs : List (Job g.row.W.Denot g.row.W-Rows.Denot) = v.items in
    let jobs' : List (Job g.row.W.Denot g.row.W-Rows.Denot) = c.grant_phase.new.jobs in
    let n : length jobs' ≡ length jobs = c.grant_phase.auto.jobs ∙ ap length c.as_mut_slice.ensures.value in
    let is = with_items_is v jobs' (omega (arith, n, v.ok)) in
    let b : BudgetData = c.args.budget in
    let d : BudgetData = c.in_ok-budget.budget in
    let grants : PhaseGrants split comes items b d jobs jobs' = subst (λ (xs : List (Job g.row.W.Denot g.row.W-Rows.Denot)). PhaseGrants split comes items b d xs jobs') c.as_mut_slice.ensures.value c.in_ok-budget.ensures in
    let count = length c.take_jobs.new.slots.items in
    subst (All (IsWithin count)) (sym is)
    (granted_within split comes items count jobs jobs' b d grants (subst (λ k. All (IsWithin k) jobs) (sym c.in_ok-jobs.ensures.jobs.len) c.in_ok-jobs.ensures.jobs.within))

pub returns-in-Some-clause-polled : goal.returns-in-Some-clause-polled
returns-in-Some-clause-polled g c =
    let split = g.W.SplitWork.split in
    let comes = g.W.SplitWork.comes in
    let items = g.W.SplitWork.items in
    let v = c.in_ok-jobs.jobs in
    let jobs : List (Job g.row.W.Denot g.row.W-Rows.Denot) = v.items in
    let jobs' : List (Job g.row.W.Denot g.row.W-Rows.Denot) = c.grant_phase.new.jobs in
    let n : length jobs' ≡ length jobs = c.grant_phase.auto.jobs ∙ ap length c.as_mut_slice.ensures.value in
    let is = with_items_is v jobs' (omega (arith, n, v.ok)) in
    let b : BudgetData = c.args.budget in
    let d : BudgetData = c.in_ok-budget.budget in
    let grants : PhaseGrants split comes items b d jobs jobs' = subst (λ (xs : List (Job g.row.W.Denot g.row.W-Rows.Denot)). PhaseGrants split comes items b d xs jobs') c.as_mut_slice.ensures.value c.in_ok-budget.ensures in
    let put = put_as jobs jobs' _ c.in_ok-asking.asking.items c.put_jobs.new.asking.items c.args.slots.now.items c.take_jobs.new.slots.items c.put_jobs.new.slots.items
    c.in_ok-asking.ensures.items c.in_ok-jobs.ensures.jobs c.in_ok-jobs.ensures.all is c.in_ok-put_jobs.ensures.asking c.in_ok-put_jobs.ensures.slots in
    (phase_open split comes items jobs jobs' c.in_ok-asking.asking.items c.put_jobs.new.asking.items c.args.slots.now.items c.take_jobs.new.slots.items c.put_jobs.new.slots.items
    b d put grants c.requires.open (subst IsOpen c.in-Some.ensures.0 c.in-Some.ensures.1)).0

pub returns-in-Some-clause-grants : goal.returns-in-Some-clause-grants
returns-in-Some-clause-grants g c =
    let split = g.W.SplitWork.split in
    let comes = g.W.SplitWork.comes in
    let items = g.W.SplitWork.items in
    let v = c.in_ok-jobs.jobs in
    let jobs : List (Job g.row.W.Denot g.row.W-Rows.Denot) = v.items in
    let jobs' : List (Job g.row.W.Denot g.row.W-Rows.Denot) = c.grant_phase.new.jobs in
    let n : length jobs' ≡ length jobs = c.grant_phase.auto.jobs ∙ ap length c.as_mut_slice.ensures.value in
    let is = with_items_is v jobs' (omega (arith, n, v.ok)) in
    let b : BudgetData = c.args.budget in
    let d : BudgetData = c.in_ok-budget.budget in
    let grants : PhaseGrants split comes items b d jobs jobs' = subst (λ (xs : List (Job g.row.W.Denot g.row.W-Rows.Denot)). PhaseGrants split comes items b d xs jobs') c.as_mut_slice.ensures.value c.in_ok-budget.ensures in
    let put = put_as jobs jobs' _ c.in_ok-asking.asking.items c.put_jobs.new.asking.items c.args.slots.now.items c.take_jobs.new.slots.items c.put_jobs.new.slots.items
    c.in_ok-asking.ensures.items c.in_ok-jobs.ensures.jobs c.in_ok-jobs.ensures.all is c.in_ok-put_jobs.ensures.asking c.in_ok-put_jobs.ensures.slots in
    subst (λ (x : BudgetData). GrantsAll items b x c.put_jobs.new.slots.items) (sym c.in-Some.ensures.0)
    (phase_open split comes items jobs jobs' c.in_ok-asking.asking.items c.put_jobs.new.asking.items c.args.slots.now.items c.take_jobs.new.slots.items c.put_jobs.new.slots.items
    b d put grants c.requires.open (subst IsOpen c.in-Some.ensures.0 c.in-Some.ensures.1)).1

pub returns-in-None-clause-polled : goal.returns-in-None-clause-polled
returns-in-None-clause-polled g c =
    let split = g.W.SplitWork.split in
    let comes = g.W.SplitWork.comes in
    let items = g.W.SplitWork.items in
    let v = c.in_ok-jobs.jobs in
    let jobs : List (Job g.row.W.Denot g.row.W-Rows.Denot) = v.items in
    let jobs' : List (Job g.row.W.Denot g.row.W-Rows.Denot) = c.grant_phase.new.jobs in
    let n : length jobs' ≡ length jobs = c.grant_phase.auto.jobs ∙ ap length c.as_mut_slice.ensures.value in
    let is = with_items_is v jobs' (omega (arith, n, v.ok)) in
    let b : BudgetData = c.args.budget in
    let d : BudgetData = c.in_ok-budget.budget in
    let grants : PhaseGrants split comes items b d jobs jobs' = subst (λ (xs : List (Job g.row.W.Denot g.row.W-Rows.Denot)). PhaseGrants split comes items b d xs jobs') c.as_mut_slice.ensures.value c.in_ok-budget.ensures in
    let put = put_as jobs jobs' _ c.in_ok-asking.asking.items c.put_jobs.new.asking.items c.args.slots.now.items c.take_jobs.new.slots.items c.put_jobs.new.slots.items
    c.in_ok-asking.ensures.items c.in_ok-jobs.ensures.jobs c.in_ok-jobs.ensures.all is c.in_ok-put_jobs.ensures.asking c.in_ok-put_jobs.ensures.slots in
    phase_used split comes items jobs jobs' c.in_ok-asking.asking.items c.put_jobs.new.asking.items c.args.slots.now.items c.take_jobs.new.slots.items c.put_jobs.new.slots.items
    b d put grants c.requires.open c.in-None.ensures

pub returns-in-Some-clause-order : goal.returns-in-Some-clause-order
returns-in-Some-clause-order g c =
    let split = g.W.SplitWork.split in
    let comes = g.W.SplitWork.comes in
    let items = g.W.SplitWork.items in
    let v = c.in_ok-jobs.jobs in
    let jobs : List (Job g.row.W.Denot g.row.W-Rows.Denot) = v.items in
    let jobs' : List (Job g.row.W.Denot g.row.W-Rows.Denot) = c.grant_phase.new.jobs in
    let n : length jobs' ≡ length jobs = c.grant_phase.auto.jobs ∙ ap length c.as_mut_slice.ensures.value in
    let is = with_items_is v jobs' (omega (arith, n, v.ok)) in
    let b : BudgetData = c.args.budget in
    let d : BudgetData = c.in_ok-budget.budget in
    let grants : PhaseGrants split comes items b d jobs jobs' = subst (λ (xs : List (Job g.row.W.Denot g.row.W-Rows.Denot)). PhaseGrants split comes items b d xs jobs') c.as_mut_slice.ensures.value c.in_ok-budget.ensures in
    listed_in_turn jobs jobs' _ c.in_ok-asking.asking.items c.put_jobs.new.asking.items c.args.turns.now.items c.in_ok-asking.ensures.items (granted_places split comes items jobs jobs' b d grants) is c.in_ok-put_jobs.ensures.asking c.in_ok-jobs.ensures.order
