use Rattle.std.proofs.Common.{List, true, length, map, replicate, ap, ◌∙◌}
use Rattle.scan_plans.specs.MaskLists.{under}
use Rattle.scan_plans.specs.Masks.{MaskData}
use Rattle.scan_plans.specs.Meaning.{value_at, true_rows}
use Rattle.scan_plans.specs.PlanTree.{rows}
use Rattle.scan_plans.proofs.Projections.{all_rows}
use Rattle.scan_plans.proofs.future.ArrayFuture.ready.Goals as goal

pub returns-clause-items : goal.returns-clause-items
returns-clause-items c = λ store.
    let a = c.args.array in
    ap (λ (ms : List MaskData). under store ms (map (value_at (rows a.dtype a.items) store) (true_rows 0 (replicate (length a.items) true)))) c.new.ensures.items ∙ all_rows a.dtype a.items store
