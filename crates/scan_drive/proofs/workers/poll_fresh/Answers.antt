use Rattle.std.proofs.Common.{◌≡◌, ◌<◌, ℕ, List, get_or, length, refl, subst, sym}
use Rattle.std.specs.Prelude.{All}
use Rattle.scan_drive.specs.Workers.{IsWithin, JobPolled}
use Rattle.scan_drive.specs.declared.workers.Job.{Job}
use Rattle.scan_drive.proofs.Batching.{zip_long, zip_polled}
use Rattle.scan_drive.proofs.Working.{listed_in_turn, phase_back, places_same, still_within}
use Rattle.scan_drive.proofs.workers.poll_fresh.Goals as goal

pub put_jobs-requires : goal.put_jobs-requires
put_jobs-requires g c =
    let split = g.W.SplitWork.split in
    let comes = g.W.SplitWork.comes in
    let items = g.W.SplitWork.items in
    let jobs : List (Job g.row.W.Denot g.row.W-Rows.Denot) = c.in_ok-jobs.jobs.items in
    let jobs' : List (Job g.row.W.Denot g.row.W-Rows.Denot) = c.in_ok-done.done.items in
    let n : length jobs' ≡ length jobs = zip_long split comes items jobs jobs' c.in_ok-done.ensures.done in
    let polled : (i : ℕ) (d : Job g.row.W.Denot g.row.W-Rows.Denot) → i < length jobs → JobPolled split comes items (get_or jobs i d) (get_or jobs' i d) =
    zip_polled split comes items jobs jobs' c.in_ok-done.ensures.done in
    let count = length c.take_jobs.new.slots.items in
    still_within split comes items count jobs jobs' n polled (subst (λ k. All (IsWithin k) jobs) (sym c.in_ok-jobs.ensures.jobs.len) c.in_ok-jobs.ensures.jobs.within)

pub returns-clause-polled : goal.returns-clause-polled
returns-clause-polled g c =
    let split = g.W.SplitWork.split in
    let comes = g.W.SplitWork.comes in
    let items = g.W.SplitWork.items in
    let jobs : List (Job g.row.W.Denot g.row.W-Rows.Denot) = c.in_ok-jobs.jobs.items in
    let jobs' : List (Job g.row.W.Denot g.row.W-Rows.Denot) = c.in_ok-done.done.items in
    let n : length jobs' ≡ length jobs = zip_long split comes items jobs jobs' c.in_ok-done.ensures.done in
    let polled : (i : ℕ) (d : Job g.row.W.Denot g.row.W-Rows.Denot) → i < length jobs → JobPolled split comes items (get_or jobs i d) (get_or jobs' i d) =
    zip_polled split comes items jobs jobs' c.in_ok-done.ensures.done in
    (phase_back split comes items jobs jobs' _ c.in_ok-asking.asking.items c.put_jobs.new.asking.items c.args.slots.now.items c.take_jobs.new.slots.items c.put_jobs.new.slots.items
    c.in_ok-asking.ensures.items c.in_ok-jobs.ensures.jobs c.in_ok-jobs.ensures.all n polled refl c.in_ok-put_jobs.ensures.asking c.in_ok-put_jobs.ensures.slots).polled

pub returns-clause-once : goal.returns-clause-once
returns-clause-once g c =
    let split = g.W.SplitWork.split in
    let comes = g.W.SplitWork.comes in
    let items = g.W.SplitWork.items in
    let jobs : List (Job g.row.W.Denot g.row.W-Rows.Denot) = c.in_ok-jobs.jobs.items in
    let jobs' : List (Job g.row.W.Denot g.row.W-Rows.Denot) = c.in_ok-done.done.items in
    let n : length jobs' ≡ length jobs = zip_long split comes items jobs jobs' c.in_ok-done.ensures.done in
    let polled : (i : ℕ) (d : Job g.row.W.Denot g.row.W-Rows.Denot) → i < length jobs → JobPolled split comes items (get_or jobs i d) (get_or jobs' i d) =
    zip_polled split comes items jobs jobs' c.in_ok-done.ensures.done in
    (phase_back split comes items jobs jobs' _ c.in_ok-asking.asking.items c.put_jobs.new.asking.items c.args.slots.now.items c.take_jobs.new.slots.items c.put_jobs.new.slots.items
    c.in_ok-asking.ensures.items c.in_ok-jobs.ensures.jobs c.in_ok-jobs.ensures.all n polled refl c.in_ok-put_jobs.ensures.asking c.in_ok-put_jobs.ensures.slots).once

pub returns-clause-keeps : goal.returns-clause-keeps
returns-clause-keeps g c =
    let split = g.W.SplitWork.split in
    let comes = g.W.SplitWork.comes in
    let items = g.W.SplitWork.items in
    let jobs : List (Job g.row.W.Denot g.row.W-Rows.Denot) = c.in_ok-jobs.jobs.items in
    let jobs' : List (Job g.row.W.Denot g.row.W-Rows.Denot) = c.in_ok-done.done.items in
    let n : length jobs' ≡ length jobs = zip_long split comes items jobs jobs' c.in_ok-done.ensures.done in
    let polled : (i : ℕ) (d : Job g.row.W.Denot g.row.W-Rows.Denot) → i < length jobs → JobPolled split comes items (get_or jobs i d) (get_or jobs' i d) =
    zip_polled split comes items jobs jobs' c.in_ok-done.ensures.done in
    (phase_back split comes items jobs jobs' _ c.in_ok-asking.asking.items c.put_jobs.new.asking.items c.args.slots.now.items c.take_jobs.new.slots.items c.put_jobs.new.slots.items
    c.in_ok-asking.ensures.items c.in_ok-jobs.ensures.jobs c.in_ok-jobs.ensures.all n polled refl c.in_ok-put_jobs.ensures.asking c.in_ok-put_jobs.ensures.slots).keeps

pub returns-clause-settled : goal.returns-clause-settled
returns-clause-settled g c =
    let split = g.W.SplitWork.split in
    let comes = g.W.SplitWork.comes in
    let items = g.W.SplitWork.items in
    let jobs : List (Job g.row.W.Denot g.row.W-Rows.Denot) = c.in_ok-jobs.jobs.items in
    let jobs' : List (Job g.row.W.Denot g.row.W-Rows.Denot) = c.in_ok-done.done.items in
    let n : length jobs' ≡ length jobs = zip_long split comes items jobs jobs' c.in_ok-done.ensures.done in
    let polled : (i : ℕ) (d : Job g.row.W.Denot g.row.W-Rows.Denot) → i < length jobs → JobPolled split comes items (get_or jobs i d) (get_or jobs' i d) =
    zip_polled split comes items jobs jobs' c.in_ok-done.ensures.done in
    (phase_back split comes items jobs jobs' _ c.in_ok-asking.asking.items c.put_jobs.new.asking.items c.args.slots.now.items c.take_jobs.new.slots.items c.put_jobs.new.slots.items
    c.in_ok-asking.ensures.items c.in_ok-jobs.ensures.jobs c.in_ok-jobs.ensures.all n polled refl c.in_ok-put_jobs.ensures.asking c.in_ok-put_jobs.ensures.slots).settled

pub returns-clause-order : goal.returns-clause-order
returns-clause-order g c =
    let split = g.W.SplitWork.split in
    let comes = g.W.SplitWork.comes in
    let items = g.W.SplitWork.items in
    let jobs : List (Job g.row.W.Denot g.row.W-Rows.Denot) = c.in_ok-jobs.jobs.items in
    let jobs' : List (Job g.row.W.Denot g.row.W-Rows.Denot) = c.in_ok-done.done.items in
    let n : length jobs' ≡ length jobs = zip_long split comes items jobs jobs' c.in_ok-done.ensures.done in
    let polled : (i : ℕ) (d : Job g.row.W.Denot g.row.W-Rows.Denot) → i < length jobs → JobPolled split comes items (get_or jobs i d) (get_or jobs' i d) =
    zip_polled split comes items jobs jobs' c.in_ok-done.ensures.done in
    listed_in_turn jobs jobs' _ c.in_ok-asking.asking.items c.put_jobs.new.asking.items c.args.turns.now.items c.in_ok-asking.ensures.items (places_same jobs jobs' n (λ i d lt. (polled i d lt).place_is)) refl c.in_ok-put_jobs.ensures.asking c.in_ok-jobs.ensures.order
