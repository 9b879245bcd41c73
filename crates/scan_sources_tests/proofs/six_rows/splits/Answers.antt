use Rattle.std.proofs.Common.{◌≤◌, ℕ, List, ap, map, subst, sym, ◌∙◌}
use Rattle.scan_plans.specs.Futures.{FutureData}
use Rattle.scan_streams.specs.Queues.{queued}
use Rattle.scan_streams.specs.Splits.{new_split, reach}
use Rattle.scan_sources_tests.proofs.Parting.{parts_reach}
use Rattle.scan_sources_tests.proofs.six_rows.splits.Goals as goal

pub returns-clause-reach : goal.returns-clause-reach
returns-clause-reach c =
    let p = c.in_ok-plans.plans.value in
    let s = c.in_ok-selection.selection.value in
    subst (λ (fs : List FutureData). reach (map new_split fs) ≤ 6) (sym (c.new-2.ensures ∙ ap (queued p s) c.in_ok-rows.ensures)) (parts_reach p s c.args.first c.args.second c.requires.order c.requires.within)
