use Rattle.std.proofs.Common.{rules, refl, not, ap}
use Rattle.scan_drive.specs.Splits.{spoils}
use Rattle.scan_drive.specs.declared.slot.Halt.TheVariants as halt
use Rattle.scan_drive.specs.declared.slot.Slot.{Slot}
use Rattle.scan_drive.specs.declared.slot.Stage.TheVariants as stage
use Rattle.scan_drive.proofs.Keeping.{keeps_halted, extends_refl}
use Rattle.scan_drive.proofs.Polling.{looks_lost, looks_read}
use Rattle.scan_drive.proofs.looking.poll_slot.Goals as goal

pub returns-in-Waits-clause-looks : goal.returns-in-Waits-clause-looks
returns-in-Waits-clause-looks g c = record {
  run = c.in-Reads.run';
  next = c.poll.new.self;
  was = c.in-Reads.is;
  now = refl;
  ready = search rules;
  same = c.poll.ensures.same;
  inbox = c.poll.ensures.inbox;
  lacking = c.in-Waits.ensures.answer;
}

pub returns-in-Corrupt-clause-keeps : goal.returns-in-Corrupt-clause-keeps
returns-in-Corrupt-clause-keeps g c p store =
    let mid : Slot g.row.W.Denot g.row.W-Rows.Denot = record { file = c.args.slot.now.file; stage = stage.Reads c.poll.new.self } in
    keeps_halted g.W.SplitWork.split g.W.SplitWork.comes g.W.SplitWork.items p store c.args.slot.now mid c.given_up.new.slot c.in-Reads.run' c.poll.new.self (halt.Corrupt c.in-Corrupt.id) c.in-Reads.is c.given_up.ensures.slot refl c.poll.ensures.same c.poll.ensures.inbox
    (λ o. o.within c.in-Reads.run'.inbox (spoils c.in-Corrupt.id) (extends_refl c.in-Reads.run'.inbox) o.agrees (c.in-Corrupt.ensures.answer.bad store o.agrees))

pub returns-in-Corrupt-clause-looks : goal.returns-in-Corrupt-clause-looks
returns-in-Corrupt-clause-looks g c =
    looks_lost g.W.SplitWork.split g.W.SplitWork.comes g.W.SplitWork.items c.args.slot.now.file c.args.slot.now.stage c.given_up.new.slot c.in-Reads.run' c.poll.new.self
    (halt.Corrupt c.in-Corrupt.id) c.given_up.result c.in-Reads.is (search rules) c.poll.ensures.inbox c.given_up.ensures.slot c.given_up.ensures.done (ap not c.in-Corrupt.ensures.answer.arrived)

pub returns-in-Overflow-clause-looks : goal.returns-in-Overflow-clause-looks
returns-in-Overflow-clause-looks g c =
    looks_lost g.W.SplitWork.split g.W.SplitWork.comes g.W.SplitWork.items c.args.slot.now.file c.args.slot.now.stage c.given_up-in-Overflow.new.slot c.in-Reads.run' c.poll.new.self
    (halt.Overflow) c.given_up-in-Overflow.result c.in-Reads.is (search rules) c.poll.ensures.inbox c.given_up-in-Overflow.ensures.slot c.given_up-in-Overflow.ensures.done tt

pub returns-in-NoMemory-clause-looks : goal.returns-in-NoMemory-clause-looks
returns-in-NoMemory-clause-looks g c =
    looks_lost g.W.SplitWork.split g.W.SplitWork.comes g.W.SplitWork.items c.args.slot.now.file c.args.slot.now.stage c.given_up-in-NoMemory.new.slot c.in-Reads.run' c.poll.new.self
    (halt.NoMemory) c.given_up-in-NoMemory.result c.in-Reads.is (search rules) c.poll.ensures.inbox c.given_up-in-NoMemory.ensures.slot c.given_up-in-NoMemory.ensures.done tt

pub returns-in-Ready-clause-looks : goal.returns-in-Ready-clause-looks
returns-in-Ready-clause-looks g c = looks_read g.W.SplitWork.split g.W.SplitWork.comes g.W.SplitWork.items c.args.slot.now.stage c.in-Reads.run' c.in-Ready.rows c.in-Reads.is (search rules)
