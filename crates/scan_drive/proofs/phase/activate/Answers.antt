use Rattle.std.proofs.Common.{◌∙◌, ◌≡◌, ◌<◌, ◌+◌, ◌++◌, ap, arith, length, length-set, sym, subst, List, set}
use Rattle.std.proofs.lemmas.Grind.{common_steps}
use Rattle.scan_drive.specs.Actives.{groups_left}
use Rattle.scan_drive.specs.Claims.{AreClaimed}
use Rattle.scan_drive.specs.declared.active.Active.{Active}
use Rattle.scan_drive.specs.Files.{told_at}
use Rattle.scan_drive.specs.Phases.{rest, unopened, SpentBelow, PhasesOk}
use Rattle.scan_drive.specs.declared.phase.Phase.{Phase}
use Rattle.scan_drive.specs.declared.phase.Tally.{Tally}
use Rattle.scan_drive.proofs.Fillings.{fills_counted, fills_spent, fills_seat}
use Rattle.scan_drive.proofs.Resting.{activated, seated_ok, phases_set, work_now, below_set, below_more, unopened_set, set_again}
use Rattle.scan_drive.specs.Filling.{Fills}
use Rattle.scan_drive.specs.Phases.{phase_at, IsSpent}
use Rattle.scan_drive.specs.Turns.{IsCounted, IsTally, SeatsOn}
use Rattle.scan_drive.specs.declared.phase.Phase.TheVariants as phases
use Rattle.std.proofs.lemmas.List.{get_or_default}
use Rattle.scan_drive.proofs.Turning.{seats_spent, seats_seat, tally_next, rows_ok, counts, not_counted, held_before}
use Rattle.scan_drive.proofs.phase.activate.Goals as goal

pub loop-first-preserved : goal.loop-first-preserved
loop-first-preserved g c =
    let split = g.W.SplitWork.split in
    let comes = g.W.SplitWork.comes in
    let inv = c.loop-first.invariant in
    let ps : List (Phase g.row.W.Denot g.row.F.Denot) = c.loop-first.phases.items in
    let i = c.loop-first.first in
    let x = c.index_mut.result.now in
    let v = c.index_mut.ensures.value in
    let lt : i < length ps = grind (arith, common_steps) in
    let spent = c.in-Spent.ensures.taken in
    let same : set ps i c.take_split.new.phase ≡ ps = set_again ps i x c.take_split.new.phase v spent.1 in
    record {
      len = length-set ps i c.take_split.new.phase ∙ inv.len;
      within = omega (arith, length-set ps i c.take_split.new.phase);
      below = subst (λ (qs : List (Phase g.row.W.Denot g.row.F.Denot)). SpentBelow qs (i + 1)) (sym same) (below_more ps i x lt v inv.below spent.0);
      opened = let u = ap unopened same in let w = inv.opened in omega arith;
      claimed = λ z n. inv.claimed z n;
      seated = inv.seated;
      left = λ tale n. ap (λ qs. groups_left split comes g.W.SplitWork.items tale c.loop-first.active ++ rest split comes tale qs) same ∙ inv.left tale n;
      counted = λ tale n p a old. (let o = inv.ok tale n p a in tally_next tale i c.loop-first.tally c.count.new.self (phase_at ps i) (omega (arith, n, inv.len, lt)) (rows_ok split comes (told_at tale i) (phase_at ps i) (o.0 i))
          (subst (λ (q : Phase g.row.W.Denot g.row.F.Denot). IsCounted i c.loop-first.tally c.count.new.self q) (c.index.ensures ∙ get_or_default ps i c.index.result.now phases.Unopened lt)
          (counts i c.loop-first.tally c.count.new.self c.index.result.now c.count.result c.if-not-count.false c.count.ensures)) (inv.counted tale n p a old));
      held = λ k why e. inv.held k why (sym (ap (λ (qs : List (Phase g.row.W.Denot g.row.F.Denot)). phase_at qs k) same) ∙ e);
      fills = subst (λ (qs : List (Phase g.row.W.Denot g.row.F.Denot)). Fills c.args.first (i + 1) c.args.tally.now c.count.new.self c.args.phases.now.items qs c.args.active.now.slots.items c.loop-first.active.slots.items) (sym same)
          (fills_spent c.args.first i c.args.tally.now c.loop-first.tally c.count.new.self c.args.phases.now.items ps c.args.active.now.slots.items c.loop-first.active.slots.items lt inv.len
          (subst (λ (q : Phase g.row.W.Denot g.row.F.Denot). IsCounted i c.loop-first.tally c.count.new.self q) (c.index.ensures ∙ get_or_default ps i c.index.result.now phases.Unopened lt)
          (counts i c.loop-first.tally c.count.new.self c.index.result.now c.count.result c.if-not-count.false c.count.ensures))
          (subst (λ (q : Phase g.row.W.Denot g.row.F.Denot). IsSpent q) (v ∙ get_or_default ps i x phases.Unopened lt) spent.0) inv.fills);
      seats = subst (λ (qs : List (Phase g.row.W.Denot g.row.F.Denot)). SeatsOn split c.args.first (i + 1) c.args.active.now c.loop-first.active c.args.phases.now.items qs) (sym same) (seats_spent split c.args.first i c.args.active.now c.loop-first.active c.args.phases.now.items ps lt inv.seats);
      ok = λ tale n p a. let o = inv.ok tale n p a in (subst (λ (qs : List (Phase g.row.W.Denot g.row.F.Denot)). PhasesOk split comes tale qs) (sym same) o.0, o.1);
    }

pub loop-first-preserved-in-Continue-branch-2 : goal.loop-first-preserved-in-Continue-branch-2
loop-first-preserved-in-Continue-branch-2 g c =
    let split = g.W.SplitWork.split in
    let comes = g.W.SplitWork.comes in
    let items = g.W.SplitWork.items in
    let inv = c.loop-first.invariant in
    let ps : List (Phase g.row.W.Denot g.row.F.Denot) = c.loop-first.phases.items in
    let i = c.loop-first.first in
    let x = c.index_mut.result.now in
    let y = c.take_split.new.phase in
    let v = c.index_mut.ensures.value in
    let old = c.loop-first.active in
    let new = c.seat.new.self in
    let w = c.in-Split.work in
    let taken = c.in-Split.ensures.taken in
    let seats = c.in_ok-seat-in-Split.ensures in
    let lt : i < length ps = grind (arith, common_steps) in
    record {
      len = length-set ps i y ∙ inv.len;
      within = omega (arith, length-set ps i y, inv.within);
      below = below_set ps i i y (omega arith) inv.below;
      opened = let u = unopened_set ps i x y lt v c.take_split.ensures.opened in let o = inv.opened in omega arith;
      claimed = λ z n. (let k = inv.claimed z n in
          absurd (n (sym (ap (λ (a : Active g.row.W.Denot g.row.W-Rows.Denot). a.turns.items) k.0) ∙ c.has_room.ensures.claimed c.if-has_room.true (subst AreClaimed (sym k.1) z))));
      seated = seats.seated;
      left = λ tale n. activated split comes items tale old new ps i x y w lt (n ∙ sym inv.len) inv.below v taken seats ∙ inv.left tale n;
      counted = λ tale n p a old. (let o = inv.ok tale n p a in tally_next tale i c.loop-first.tally c.count.new.self (phase_at ps i) (omega (arith, n, inv.len, lt)) (rows_ok split comes (told_at tale i) (phase_at ps i) (o.0 i))
          (subst (λ (q : Phase g.row.W.Denot g.row.F.Denot). IsCounted i c.loop-first.tally c.count.new.self q) (c.index.ensures ∙ get_or_default ps i c.index.result.now phases.Unopened lt)
          (counts i c.loop-first.tally c.count.new.self c.index.result.now c.count.result c.if-not-count.false c.count.ensures)) (inv.counted tale n p a old));
      held = λ k why e. inv.held k why (held_before ps i y k why lt taken.queued e);
      fills = fills_seat split comes c.args.first i c.args.tally.now c.loop-first.tally c.count.new.self c.args.phases.now.items ps c.args.active.now.slots.items old new x y w lt inv.len v
          (subst (λ (q : Phase g.row.W.Denot g.row.F.Denot). IsCounted i c.loop-first.tally c.count.new.self q) (c.index.ensures ∙ get_or_default ps i c.index.result.now phases.Unopened lt)
          (counts i c.loop-first.tally c.count.new.self c.index.result.now c.count.result c.if-not-count.false c.count.ensures)) taken seats inv.fills;
      seats = seats_seat split {comes = comes} c.args.first i c.args.active.now old new c.args.phases.now.items ps x y w lt inv.len v inv.seated taken seats inv.seats;
      ok = λ tale n p a. let o = inv.ok tale n p a in (phases_set split comes tale ps i x y lt v taken.phase_ok o.0, seated_ok split comes items tale i w old new (omega (arith, n, inv.len, lt)) (work_now split comes tale ps i x w lt v taken.work_ok o.0) seats o.1);
    }

pub returns-then-not-count-clause-goes : goal.returns-then-not-count-clause-goes
returns-then-not-count-clause-goes g c =
    let inv = c.loop-first.invariant in
    let same : c.count.new.self ≡ c.loop-first.tally = not_counted c.loop-first.first c.loop-first.tally c.count.new.self c.index.result.now c.count.result c.if-not-count.true c.count.ensures in
    record {
      left = inv.left;
      ok = inv.ok;
      counted = λ tale n p a old. subst (IsTally tale) (sym same) (inv.counted tale n p a old);
      held = inv.held;
      seats = inv.seats;
      fills = subst (λ (t : Tally). Fills c.args.first c.loop-first.first c.args.tally.now t c.args.phases.now.items c.loop-first.phases.items c.args.active.now.slots.items c.loop-first.active.slots.items) (sym same) inv.fills;
    }

pub returns-in-Waits-clause-goes : goal.returns-in-Waits-clause-goes
returns-in-Waits-clause-goes g c =
    let split = g.W.SplitWork.split in
    let comes = g.W.SplitWork.comes in
    let items = g.W.SplitWork.items in
    let inv = c.loop-first.invariant in
    let ps : List (Phase g.row.W.Denot g.row.F.Denot) = c.loop-first.phases.items in
    let i = c.loop-first.first in
    let t = c.loop-first.tally in
    let u = c.count.new.self in
    let lt : i < length ps = grind (arith, common_steps) in
    let same : set ps i c.take_split.new.phase ≡ ps = set_again ps i c.index_mut.result.now c.take_split.new.phase c.index_mut.ensures.value c.in-Waits.ensures.taken.0 in
    let counts_it : IsCounted i t u (phase_at ps i) = subst (λ (q : Phase g.row.W.Denot g.row.F.Denot). IsCounted i t u q) (c.index.ensures ∙ get_or_default ps i c.index.result.now phases.Unopened lt)
    (counts i t u c.index.result.now c.count.result c.if-not-count.false c.count.ensures) in
    record {
      left = λ tale n. ap (λ qs. groups_left split comes items tale c.loop-first.active ++ rest split comes tale qs) same ∙ inv.left tale n;
      ok = λ tale n p a. (let o = inv.ok tale n p a in (subst (λ (qs : List (Phase g.row.W.Denot g.row.F.Denot)). PhasesOk split comes tale qs) (sym same) o.0, o.1));
      counted = λ tale n p a old. (let o = inv.ok tale n p a in
          tally_next tale i t u (phase_at ps i) (omega (arith, n, inv.len, lt)) (rows_ok split comes (told_at tale i) (phase_at ps i) (o.0 i)) counts_it (inv.counted tale n p a old));
      held = λ k why e. inv.held k why (sym (ap (λ (qs : List (Phase g.row.W.Denot g.row.F.Denot)). phase_at qs k) same) ∙ e);
      seats = subst (λ (qs : List (Phase g.row.W.Denot g.row.F.Denot)). SeatsOn split c.args.first i c.args.active.now c.loop-first.active c.args.phases.now.items qs) (sym same) inv.seats;
      fills = subst (λ (qs : List (Phase g.row.W.Denot g.row.F.Denot)). Fills c.args.first i c.args.tally.now u c.args.phases.now.items qs c.args.active.now.slots.items c.loop-first.active.slots.items) (sym same)
          (fills_counted c.args.first i c.args.tally.now t u c.args.phases.now.items ps c.args.active.now.slots.items c.loop-first.active.slots.items lt inv.len counts_it inv.fills);
    }

pub returns-else-has_room-clause-goes : goal.returns-else-has_room-clause-goes
returns-else-has_room-clause-goes g c =
    let inv = c.loop-first.invariant in
    record { left = inv.left; ok = inv.ok; counted = inv.counted; held = inv.held; seats = inv.seats; fills = inv.fills }

pub returns-after-loop-first-clause-goes : goal.returns-after-loop-first-clause-goes
returns-after-loop-first-clause-goes g c =
    let inv = c.loop-first.invariant in
    record { left = inv.left; ok = inv.ok; counted = inv.counted; held = inv.held; seats = inv.seats; fills = inv.fills }
