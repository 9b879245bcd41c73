use Rattle.std.proofs.Common.{ap, refl}
use Rattle.std.specs.Prelude.{option_copied}
use Rattle.scan_drive.specs.declared.workers.Job.{Job}
use Rattle.scan_drive.proofs.Claiming.{worked_none, worked_some}
use Rattle.scan_drive.proofs.workers.poll_job.Goals as goal

pub returns-in-Some : goal.returns-in-Some
returns-in-Some g c =
    let old : Job g.row.W.Denot g.row.W-Rows.Denot = c.args.job.now in
    let mid : Job g.row.W.Denot g.row.W-Rows.Denot = record old { slot = c.poll_slot-job.new.slot; found = c.poll_slot-job.result } in
    worked_some g.W.SplitWork.split g.W.SplitWork.comes g.W.SplitWork.items (option_copied c.args.limit) _ old mid c.claim_job.new.job (ap option_copied c.in-Some.is) refl refl
    c.poll_slot-job.ensures.keeps c.poll_slot-job.ensures.looks c.claim_job.ensures.place c.claim_job.ensures.found c.claim_job.ensures.claims

pub returns-in-None : goal.returns-in-None
returns-in-None g c =
    let old : Job g.row.W.Denot g.row.W-Rows.Denot = c.args.job.now in
    worked_none g.W.SplitWork.split g.W.SplitWork.comes g.W.SplitWork.items (option_copied c.args.limit) old (record old { slot = c.poll_slot-job.new.slot; found = c.poll_slot-job.result })
    (ap option_copied c.in-None.is) refl c.poll_slot-job.ensures.keeps c.poll_slot-job.ensures.looks
