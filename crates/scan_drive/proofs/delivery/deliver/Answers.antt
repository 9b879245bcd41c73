use Rattle.std.proofs.Common.{subst, sym, refl, inl, inr, ◌∙◌}
use Rattle.scan_drive.specs.Actives.{IsFront}
use Rattle.scan_drive.specs.Lost.{StopsOver}
use Rattle.scan_drive.specs.Chunks.{IsCause, IsDeliverFault, Gives}
use Rattle.scan_drive.specs.declared.active.Front.{Front}
use Rattle.scan_drive.specs.declared.delivery.Delivered.{Delivered}
use Rattle.scan_drive.specs.declared.delivery.DriveFault.{DriveFault}
use Rattle.scan_drive.proofs.Giving.{more_stays, more_rows, cut_rows, front_ok, files_rows, stays_ok, stays_halted, stays_seated, halted_cause, held_fault}
use Rattle.scan_drive.proofs.Polling.{stops_over}
use Rattle.scan_drive.proofs.Turning.{gives_stays, gives_rows, waits_stays}
use Rattle.scan_drive.proofs.delivery.deliver.Goals as goal

pub returns-in-Ok-Nothing-clause-delivered : goal.returns-in-Ok-Nothing-clause-delivered
returns-in-Ok-Nothing-clause-delivered g c =
    let f = subst (λ (x : Front g.row.W-Rows.Denot). IsFront c.turns.active c.take_front.new.self x) c.in-Ok-Nothing.field-0-is c.in-Ok-Nothing.ensures in
    more_stays g.W.SplitWork.split g.W.SplitWork.comes g.W.SplitWork.items c.args.active.now c.turns.active c.take_front.new.self c.args.chunks.now.items c.turns.chunks.items c.args.left.now c.turns.left c.turns.invariant.more f.1

pub returns-in-Ok-Waits-clause-delivered : goal.returns-in-Ok-Waits-clause-delivered
returns-in-Ok-Waits-clause-delivered g c =
    let f = subst (λ (x : Front g.row.W-Rows.Denot). IsFront c.turns.active c.take_front.new.self x) c.in-Ok-Waits.field-0-is c.in-Ok-Waits.ensures in
    more_stays g.W.SplitWork.split g.W.SplitWork.comes g.W.SplitWork.items c.args.active.now c.turns.active c.take_front.new.self c.args.chunks.now.items c.turns.chunks.items c.args.left.now c.turns.left c.turns.invariant.more f.0

pub returns-in-Ok-Waits-clause-gives : goal.returns-in-Ok-Waits-clause-gives
returns-in-Ok-Waits-clause-gives g c is =
    let f = subst (λ (x : Front g.row.W-Rows.Denot). IsFront c.turns.active c.take_front.new.self x) c.in-Ok-Waits.field-0-is c.in-Ok-Waits.ensures in
    (gives_stays g.W.SplitWork.split c.args.active.now c.turns.active c.take_front.new.self f.0 c.turns.invariant.gives, inr (waits_stays c.turns.active c.take_front.new.self f.0 f.1))

pub returns-in-Ok-Waits-clause-seated : goal.returns-in-Ok-Waits-clause-seated
returns-in-Ok-Waits-clause-seated g c =
    let f = subst (λ (x : Front g.row.W-Rows.Denot). IsFront c.turns.active c.take_front.new.self x) c.in-Ok-Waits.field-0-is c.in-Ok-Waits.ensures in
    stays_seated c.turns.active c.take_front.new.self f.0 c.turns.invariant.seated

pub returns-in-Ok-Nothing-clause-gives : goal.returns-in-Ok-Nothing-clause-gives
returns-in-Ok-Nothing-clause-gives g c is =
    let f = subst (λ (x : Front g.row.W-Rows.Denot). IsFront c.turns.active c.take_front.new.self x) c.in-Ok-Nothing.field-0-is c.in-Ok-Nothing.ensures in
    (gives_stays g.W.SplitWork.split c.args.active.now c.turns.active c.take_front.new.self f.1 c.turns.invariant.gives, inl ((λ i. (f.1.turns i).items) ∙ f.0))

pub returns-in-Ok-Full-clause-gives : goal.returns-in-Ok-Full-clause-gives
returns-in-Ok-Full-clause-gives g c is = absurd cc

pub returns-in-Ok-Halted-clause-fault : goal.returns-in-Ok-Halted-clause-fault
returns-in-Ok-Halted-clause-fault g c =
    let f = subst (λ (x : Front g.row.W-Rows.Denot). IsFront c.turns.active c.take_front.new.self x) c.in-Ok-Halted.field-0-is c.in-Ok-Halted.ensures in
    let more = more_stays g.W.SplitWork.split g.W.SplitWork.comes g.W.SplitWork.items c.args.active.now c.turns.active c.take_front.new.self c.args.chunks.now.items c.turns.chunks.items c.args.left.now c.turns.left c.turns.invariant.more f.1 in
    let turn = stays_halted c.in-Ok-Halted.file c.in-Ok-Halted.halt c.turns.active c.take_front.new.self f.0 f.1 in
    subst (λ (e : DriveFault). IsDeliverFault g.W.SplitWork.split g.W.SplitWork.comes g.W.SplitWork.items c.args.active.now c.take_front.new.self c.args.chunks.now.items c.turns.chunks.items c.args.left.now c.turns.left e) (sym c.held.ensures)
    (held_fault g.W.SplitWork.split g.W.SplitWork.comes g.W.SplitWork.items c.in-Ok-Halted.file c.in-Ok-Halted.halt c.args.active.now c.take_front.new.self c.args.chunks.now.items c.turns.chunks.items c.args.left.now c.turns.left turn c.turns.invariant.some more)

pub returns-in-Ok-Halted-clause-cause : goal.returns-in-Ok-Halted-clause-cause
returns-in-Ok-Halted-clause-cause g c tale ok =
    let f = subst (λ (x : Front g.row.W-Rows.Denot). IsFront c.turns.active c.take_front.new.self x) c.in-Ok-Halted.field-0-is c.in-Ok-Halted.ensures in
    subst (λ (e : DriveFault). IsCause tale e) (sym c.held.ensures)
    (halted_cause g.W.SplitWork.split g.W.SplitWork.comes g.W.SplitWork.items tale c.in-Ok-Halted.file c.in-Ok-Halted.halt c.turns.active f.0 (c.turns.invariant.ok tale ok))

pub turns-preserved : goal.turns-preserved
turns-preserved g c =
    let f = subst (λ (x : Front g.row.W-Rows.Denot). IsFront c.turns.active c.take_front.new.self x) c.in-Ok-Rows.field-0-is c.in-Ok-Rows.ensures in
    let given = subst (λ (d : Delivered). Gives g.W.SplitWork.items c.in-Ok-Rows.file (g.W.SplitWork.items c.in-Ok-Rows.rows) c.turns.chunks.items c.give.new.chunks.items c.turns.left c.give.new.left d) c.in-Ok-More.field-0-is c.in-Ok-More.ensures.gives in
    record {
      seated = f.seated;
      ok = λ tale ok. front_ok g.W.SplitWork.split g.W.SplitWork.comes g.W.SplitWork.items tale c.in-Ok-Rows.file c.in-Ok-Rows.rows c.turns.active c.take_front.new.self c.turns.invariant.seated f (c.turns.invariant.ok tale ok);
      some = λ h. c.in-Ok-More.ensures.some (c.turns.invariant.some h);
      files = files_rows c.in-Ok-Rows.file c.in-Ok-Rows.rows c.args.active.now.slots.items c.turns.active c.take_front.new.self c.args.chunks.now.items c.turns.chunks.items c.give.new.chunks.items c.turns.invariant.gives.at f c.turns.invariant.files c.in-Ok-More.ensures.file;
      gives = gives_rows g.W.SplitWork.split c.in-Ok-Rows.file c.in-Ok-Rows.rows c.args.active.now c.turns.active c.take_front.new.self c.turns.invariant.seated f c.turns.invariant.gives;
      more = more_rows g.W.SplitWork.split g.W.SplitWork.comes g.W.SplitWork.items c.in-Ok-Rows.file c.in-Ok-Rows.rows c.args.active.now c.turns.active c.take_front.new.self c.args.chunks.now.items c.turns.chunks.items c.give.new.chunks.items c.args.left.now c.turns.left c.give.new.left
          c.turns.invariant.seated c.turns.invariant.ok c.turns.invariant.more f given;
    }

pub returns-in-Ok-Full-clause-delivered : goal.returns-in-Ok-Full-clause-delivered
returns-in-Ok-Full-clause-delivered g c =
    let f = subst (λ (x : Front g.row.W-Rows.Denot). IsFront c.turns.active c.take_front.new.self x) c.in-Ok-Rows.field-0-is c.in-Ok-Rows.ensures in
    let given = subst (λ (d : Delivered). Gives g.W.SplitWork.items c.in-Ok-Rows.file (g.W.SplitWork.items c.in-Ok-Rows.rows) c.turns.chunks.items c.give.new.chunks.items c.turns.left c.give.new.left d) c.in-Ok-Full.field-0-is c.in-Ok-Full.ensures.gives in
    cut_rows g.W.SplitWork.split g.W.SplitWork.comes g.W.SplitWork.items c.in-Ok-Rows.file c.in-Ok-Rows.rows c.args.active.now c.turns.active c.take_front.new.self c.args.chunks.now.items c.turns.chunks.items c.give.new.chunks.items c.args.left.now c.turns.left c.turns.invariant.seated
    c.turns.invariant.ok c.turns.invariant.more f given

pub returns-in-Ok-Halted-clause-stops : goal.returns-in-Ok-Halted-clause-stops
returns-in-Ok-Halted-clause-stops g c =
    let f = subst (λ (x : Front g.row.W-Rows.Denot). IsFront c.turns.active c.take_front.new.self x) c.in-Ok-Halted.field-0-is c.in-Ok-Halted.ensures in
    subst (λ (e : DriveFault). StopsOver c.args.active.now.slots.items e) (sym c.held.ensures)
    (stops_over c.in-Ok-Halted.file c.in-Ok-Halted.halt c.args.active.now.slots.items c.turns.active.slots.items c.turns.active refl c.turns.invariant.gives.at f.0)

pub returns-in-Ok-Nothing-clause-keeps : goal.returns-in-Ok-Nothing-clause-keeps
returns-in-Ok-Nothing-clause-keeps g c =
    let f = subst (λ (x : Front g.row.W-Rows.Denot). IsFront c.turns.active c.take_front.new.self x) c.in-Ok-Nothing.field-0-is c.in-Ok-Nothing.ensures in
    let inv = c.turns.invariant in
    record { ok = λ tale ok. stays_ok g.W.SplitWork.split g.W.SplitWork.comes g.W.SplitWork.items tale c.turns.active c.take_front.new.self f.1 (inv.ok tale ok); rows = inv.some; files = inv.files }

pub returns-in-Ok-Waits-clause-keeps : goal.returns-in-Ok-Waits-clause-keeps
returns-in-Ok-Waits-clause-keeps g c =
    let f = subst (λ (x : Front g.row.W-Rows.Denot). IsFront c.turns.active c.take_front.new.self x) c.in-Ok-Waits.field-0-is c.in-Ok-Waits.ensures in
    let inv = c.turns.invariant in
    record { ok = λ tale ok. stays_ok g.W.SplitWork.split g.W.SplitWork.comes g.W.SplitWork.items tale c.turns.active c.take_front.new.self f.0 (inv.ok tale ok); rows = inv.some; files = inv.files }

pub returns-in-Ok-Full-clause-keeps : goal.returns-in-Ok-Full-clause-keeps
returns-in-Ok-Full-clause-keeps g c =
    let f = subst (λ (x : Front g.row.W-Rows.Denot). IsFront c.turns.active c.take_front.new.self x) c.in-Ok-Rows.field-0-is c.in-Ok-Rows.ensures in
    let inv = c.turns.invariant in
    let e = c.in-Ok-Full.ensures in
    record {
      ok = λ tale ok. front_ok g.W.SplitWork.split g.W.SplitWork.comes g.W.SplitWork.items tale c.in-Ok-Rows.file c.in-Ok-Rows.rows c.turns.active c.take_front.new.self inv.seated f (inv.ok tale ok);
      rows = λ h. e.some (inv.some h);
      files = files_rows c.in-Ok-Rows.file c.in-Ok-Rows.rows c.args.active.now.slots.items c.turns.active c.take_front.new.self c.args.chunks.now.items c.turns.chunks.items c.give.new.chunks.items inv.gives.at f inv.files e.file;
    }
