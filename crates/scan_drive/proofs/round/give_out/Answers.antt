use Rattle.std.proofs.Common.{◌≡◌, ℕ, List, Global, refl}
use Rattle.std.specs.declared.collections.VecDeque.{VecDeque}
use Rattle.scan_drive.specs.Actives.{Keeps}
use Rattle.scan_drive.specs.Budgets.{IsPhase, UsesUpIn, GrantsIn}
use Rattle.scan_drive.specs.Chunks.{IsMore, IsCut}
use Rattle.scan_drive.specs.Drives.{NoneOf}
use Rattle.scan_drive.specs.Files.{Item, Told}
use Rattle.scan_drive.specs.Slots.{slot_at}
use Rattle.scan_drive.specs.declared.active.Active.{Active}
use Rattle.scan_drive.proofs.Dealing.{Reached, reached, reached_ok, reached_follows, reached_within, reached_seats, cut_reached, fault_reached, none_used, budget_on, open_in}
use Rattle.scan_drive.proofs.Following.{each_self, each_then}
use Rattle.scan_drive.proofs.Halting.{halts_polled, halts_gives}
use Rattle.scan_drive.proofs.Losing.{halts_then}
use Rattle.scan_drive.proofs.Polling.{polled_follows, all_gone_follow}
use Rattle.scan_drive.proofs.Standing.{keeps_each, ready_mid, ready_new, asking_new, links_new, asks_named, more_mid, steps_mid}
use Rattle.scan_drive.proofs.Working.{fresh_in_turn}
use Rattle.scan_drive.proofs.round.give_out.Goals as goal

pub poll_in-requires-clause-turns : goal.poll_in-requires-clause-turns
poll_in-requires-clause-turns g c κs lives = fresh_in_turn c.args.active.now.turns.items c.args.active.now.free.items c.args.active.now.slots.items c.requires.ready.1.seated

pub poll_in-requires-clause-open : goal.poll_in-requires-clause-open
poll_in-requires-clause-open g c κs lives = open_in c.args.ordered c.args.left.now c.args.budget.now c.requires.budget

pub deliver_in-requires-clause-seated : goal.deliver_in-requires-clause-seated
deliver_in-requires-clause-seated g c κs lives =
    let split = g.W.SplitWork.split in
    let comes = g.W.SplitWork.comes in
    let items = g.W.SplitWork.items in
    let old : Active g.row.W.Denot g.row.W-Rows.Denot = c.args.active.now in
    let mid : Active g.row.W.Denot g.row.W-Rows.Denot = record old { slots = c.poll_in.new.slots } in
    let asks : VecDeque ℕ Global → List ℕ = λ v. v.items in
    let r : Reached split comes items old.slots.items mid.slots.items = reached split comes items asks c.args.budget.now c.in-Ok.polled old.slots.items mid.slots.items c.in-Ok.ensures.polled in
    reached_seats split comes items old.turns.items old.free.items old.slots.items mid.slots.items r c.requires.ready.1.seated

pub unreachable-unreachable : goal.unreachable-unreachable
unreachable-unreachable g c =
    let split = g.W.SplitWork.split in
    let comes = g.W.SplitWork.comes in
    let items = g.W.SplitWork.items in
    let old : Active g.row.W.Denot g.row.W-Rows.Denot = c.args.active.now in
    let mid : Active g.row.W.Denot g.row.W-Rows.Denot = record old { slots = c.poll_in.new.slots } in
    let d = c.in-Ok-More.ensures in
    let more : IsMore split comes items c.args.ordered mid c.deliver_in.new.active c.args.chunks.now.items c.deliver_in.new.chunks.items c.args.left.now c.deliver_in.new.left = rw c.in-Ok-More.field-0-is at d.delivered in
    let used : UsesUpIn split comes items c.args.budget.now old.slots.items mid.slots.items = rw c.in-None.is at c.in-Ok.ensures.polled in
    absurd (none_used split comes items c.args.ordered c.args.left.now c.deliver_in.new.left c.args.budget.now old.slots.items mid.slots.items c.args.chunks.now.items c.deliver_in.new.chunks.items c.requires.budget used
    (λ x is un. d.reads un (c.holds_last-held.ensures.none x is) c.in-Ok-More.field-0-is) more.counts)

pub returns-in-Some-clause-waits : goal.returns-in-Some-clause-waits
returns-in-Some-clause-waits g c =
    let split = g.W.SplitWork.split in
    let comes = g.W.SplitWork.comes in
    let items = g.W.SplitWork.items in
    let old : Active g.row.W.Denot g.row.W-Rows.Denot = c.args.active.now in
    let mid : Active g.row.W.Denot g.row.W-Rows.Denot = record old { slots = c.poll_in.new.slots } in
    let new = c.deliver_in.new.active in
    let p = c.in-Ok.ensures in
    let asking = c.in-Some.asking.items in
    let phase : IsPhase split comes items asking old.slots.items mid.slots.items = rw c.in-Some.is at p.polled in
    let polled = phase.polled in
    let d = c.in-Ok-More.ensures in
    let gives = d.gives c.in-Ok-More.field-0-is in
    let more : IsMore split comes items c.args.ordered mid new c.args.chunks.now.items c.deliver_in.new.chunks.items c.args.left.now c.deliver_in.new.left = rw c.in-Ok-More.field-0-is at d.delivered in
    let grants : GrantsIn items c.args.budget.now c.poll_in.new.budget mid.slots.items = rw c.in-Some.is at p.grants in
    record {
      ready = λ n r. ready_new split comes items n mid new d.seated gives.0 (ready_mid split comes items n asking old mid refl refl polled r);
      asks = asking_new split comes items asking old.slots.items mid.slots.items new.slots.items polled phase.settled gives.0.at;
      once = phase.once;
      links = λ desks l. links_new split comes items asking desks old.slots.items mid.slots.items new.slots.items polled gives.0.at l;
      named = λ tale ok. asks_named split comes items tale asking old.turns.items old.free.items old.slots.items mid.slots.items new.slots.items c.requires.ready.1.seated polled gives.0.at ok;
      halts = halts_then old.slots.items mid.slots.items new.slots.items (halts_polled split comes items asking old.slots.items mid.slots.items polled) (halts_gives split mid new gives.0);
      follows = each_then NoneOf NoneOf old.slots.items mid.slots.items new.slots.items (polled_follows split comes items asking old.slots.items mid.slots.items polled) (all_gone_follow mid.slots.items new.slots.items gives.0.at);
      steps = (gives.1, steps_mid split comes items asking old mid new polled refl gives.0);
      grants = budget_on split comes items c.args.ordered c.args.left.now c.deliver_in.new.left c.args.budget.now c.poll_in.new.budget mid.slots.items c.args.chunks.now.items c.deliver_in.new.chunks.items c.requires.budget grants
          (λ x is un. d.reads un (c.holds_last-held.ensures.none x is) c.in-Ok-More.field-0-is) more.counts;
    }

pub returns-in-Some-clause-gives : goal.returns-in-Some-clause-gives
returns-in-Some-clause-gives g c =
    let split = g.W.SplitWork.split in
    let comes = g.W.SplitWork.comes in
    let items = g.W.SplitWork.items in
    let old : Active g.row.W.Denot g.row.W-Rows.Denot = c.args.active.now in
    let mid : Active g.row.W.Denot g.row.W-Rows.Denot = record old { slots = c.poll_in.new.slots } in
    let p = c.in-Ok.ensures in
    let phase : IsPhase split comes items c.in-Some.asking.items old.slots.items mid.slots.items = rw c.in-Some.is at p.polled in
    let polled = phase.polled in
    let new = c.deliver_in.new.active in
    let d = c.in-Ok-More.ensures in
    let more : IsMore split comes items c.args.ordered mid new c.args.chunks.now.items c.deliver_in.new.chunks.items c.args.left.now c.deliver_in.new.left = rw c.in-Ok-More.field-0-is at d.delivered in
    let file : (q : ℕ) → (slot_at mid.slots.items q).file ≡ (slot_at old.slots.items q).file = λ q. (polled.at q).file_is in
    let keeps : (tale : List (Told Item)) → Keeps split comes items tale old.turns.items old.slots.items mid.slots.items = λ tale. keeps_each split comes items tale old.turns.items old.slots.items mid.slots.items file phase.keeps in
    more_mid split comes items c.args.ordered old mid new c.args.chunks.now.items c.deliver_in.new.chunks.items c.args.left.now c.deliver_in.new.left keeps refl file more

pub returns-in-Ok-Full-clause-gives : goal.returns-in-Ok-Full-clause-gives
returns-in-Ok-Full-clause-gives g c =
    let split = g.W.SplitWork.split in
    let comes = g.W.SplitWork.comes in
    let items = g.W.SplitWork.items in
    let old : Active g.row.W.Denot g.row.W-Rows.Denot = c.args.active.now in
    let mid : Active g.row.W.Denot g.row.W-Rows.Denot = record old { slots = c.poll_in.new.slots } in
    let asks : VecDeque ℕ Global → List ℕ = λ v. v.items in
    let cut : IsCut split comes items c.args.ordered mid c.args.chunks.now.items c.deliver_in.new.chunks.items c.args.left.now = rw c.in-Ok-Full.field-0-is at c.in-Ok-Full.ensures.delivered in
    cut_reached split comes items asks c.args.ordered c.args.left.now c.args.budget.now c.in-Ok.polled old mid c.args.chunks.now.items c.deliver_in.new.chunks.items refl c.requires.budget c.in-Ok.ensures.polled cut

pub returns-in-Err-deliver_in-clause-stops : goal.returns-in-Err-deliver_in-clause-stops
returns-in-Err-deliver_in-clause-stops g c =
    let split = g.W.SplitWork.split in
    let comes = g.W.SplitWork.comes in
    let items = g.W.SplitWork.items in
    let old : Active g.row.W.Denot g.row.W-Rows.Denot = c.args.active.now in
    let mid : Active g.row.W.Denot g.row.W-Rows.Denot = record old { slots = c.poll_in.new.slots } in
    let asks : VecDeque ℕ Global → List ℕ = λ v. v.items in
    let r : Reached split comes items old.slots.items mid.slots.items = reached split comes items asks c.args.budget.now c.in-Ok.polled old.slots.items mid.slots.items c.in-Ok.ensures.polled in
    let e = c.in-Err-deliver_in.ensures in
    record {
      fault = λ is. fault_reached split comes items asks c.args.ordered c.args.left.now c.deliver_in.new.left c.args.budget.now c.in-Ok.polled old mid c.deliver_in.new.active c.args.chunks.now.items c.deliver_in.new.chunks.items c.in-Err-deliver_in.fault refl
          c.requires.budget c.in-Ok.ensures.polled is (e.fault is);
      cause = λ tale ok. e.cause tale (reached_ok split comes items tale old.turns.items old.slots.items mid.slots.items r ok);
      stops = record { mid = mid.slots.items; follows = reached_follows split comes items old.slots.items mid.slots.items r; stops = e.stops };
    }

pub returns-in-Some-clause-keeps : goal.returns-in-Some-clause-keeps
returns-in-Some-clause-keeps g c =
    let split = g.W.SplitWork.split in
    let comes = g.W.SplitWork.comes in
    let items = g.W.SplitWork.items in
    let old : Active g.row.W.Denot g.row.W-Rows.Denot = c.args.active.now in
    let mid : Active g.row.W.Denot g.row.W-Rows.Denot = record old { slots = c.poll_in.new.slots } in
    let asks : VecDeque ℕ Global → List ℕ = λ v. v.items in
    let r : Reached split comes items old.slots.items mid.slots.items = reached split comes items asks c.args.budget.now c.in-Ok.polled old.slots.items mid.slots.items c.in-Ok.ensures.polled in
    let k = c.in-Ok-More.ensures.keeps in
    record {
      ok = λ tale ok. k.ok tale (reached_ok split comes items tale old.turns.items old.slots.items mid.slots.items r ok);
      rows = k.rows;
      files = λ n w all. k.files n (reached_within split comes items old.slots.items mid.slots.items n r w) all;
    }

pub returns-in-Ok-Full-clause-keeps : goal.returns-in-Ok-Full-clause-keeps
returns-in-Ok-Full-clause-keeps g c =
    let split = g.W.SplitWork.split in
    let comes = g.W.SplitWork.comes in
    let items = g.W.SplitWork.items in
    let old : Active g.row.W.Denot g.row.W-Rows.Denot = c.args.active.now in
    let mid : Active g.row.W.Denot g.row.W-Rows.Denot = record old { slots = c.poll_in.new.slots } in
    let asks : VecDeque ℕ Global → List ℕ = λ v. v.items in
    let r : Reached split comes items old.slots.items mid.slots.items = reached split comes items asks c.args.budget.now c.in-Ok.polled old.slots.items mid.slots.items c.in-Ok.ensures.polled in
    let k = c.in-Ok-Full.ensures.keeps in
    record {
      ok = λ tale ok. k.ok tale (reached_ok split comes items tale old.turns.items old.slots.items mid.slots.items r ok);
      rows = k.rows;
      files = λ n w all. k.files n (reached_within split comes items old.slots.items mid.slots.items n r w) all;
    }

pub returns-in-Err-clause-stops : goal.returns-in-Err-clause-stops
returns-in-Err-clause-stops g c =
    let slots = c.args.active.now.slots.items in
    record { fault = λ is. tt; cause = λ tale ok. tt; stops = record { mid = slots; follows = each_self NoneOf NoneOf slots; stops = tt } }
