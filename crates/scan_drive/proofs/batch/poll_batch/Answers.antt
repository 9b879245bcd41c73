use Rattle.std.proofs.Common.{◌≡◌, ◌<◌, ◌∙◌, ℕ, List, get_or, length, ap, arith, subst, sym}
use Rattle.std.specs.Prelude.{None}
use Rattle.std.specs.List.{AllZip}
use Rattle.std.proofs.lemmas.List.{with_items_is}
use Rattle.scan_drive.specs.Claimed.{JobWorked}
use Rattle.scan_drive.specs.declared.workers.Job.{Job}
use Rattle.scan_drive.proofs.Batching.{zip_of}
use Rattle.scan_drive.proofs.batch.poll_batch.Goals as goal

pub returns : goal.returns
returns g c =
    let P : Job g.row.W.Denot g.row.W-Rows.Denot → Job g.row.W.Denot g.row.W-Rows.Denot → Type 0 = JobWorked g.W.SplitWork.split g.W.SplitWork.comes g.W.SplitWork.items None in
    let v = c.args.batch.now.jobs in
    let jobs : List (Job g.row.W.Denot g.row.W-Rows.Denot) = v.items in
    let jobs' : List (Job g.row.W.Denot g.row.W-Rows.Denot) = c.work.new.jobs in
    let n : length jobs' ≡ length jobs = c.work.auto.jobs ∙ ap length c.as_mut_slice.ensures.value in
    let is = with_items_is v jobs' (omega (arith, n, v.ok)) in
    let each : (i : ℕ) (d : Job g.row.W.Denot g.row.W-Rows.Denot) → i < length jobs → P (get_or jobs i d) (get_or jobs' i d) =
    subst (λ (xs : List (Job g.row.W.Denot g.row.W-Rows.Denot)). (i : ℕ) (d : Job g.row.W.Denot g.row.W-Rows.Denot) → i < length xs → P (get_or xs i d) (get_or jobs' i d)) c.as_mut_slice.ensures.value c.work.ensures in
    subst (AllZip P jobs) (sym is) (zip_of P jobs jobs' n each)
