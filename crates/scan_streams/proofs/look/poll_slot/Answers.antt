use Rattle.std.proofs.Common.{rules, refl}
use Rattle.scan_streams.proofs.look.poll_slot.Goals as goal

pub returns-in-Waits-clause-looks : goal.returns-in-Waits-clause-looks
returns-in-Waits-clause-looks c = record {
  run = c.in-Run.run';
  next = c.poll.new.self;
  was = c.in-Run.is;
  now = refl;
  ready = search rules;
  same = c.poll.ensures.same;
  inbox = c.poll.ensures.inbox;
  lacking = c.in-Waits.ensures.answer;
}

pub returns-in-Ready-clause-looks : goal.returns-in-Ready-clause-looks
returns-in-Ready-clause-looks c = record {
  run = c.in-Run.run';
  array = c.in-Ready.array;
  was = c.in-Run.is;
  ready = search rules;
  gives = c.in-Ready.ensures.answer;
  now = refl;
}
