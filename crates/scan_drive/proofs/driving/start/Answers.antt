use Rattle.std.proofs.Common.{rules}
use Rattle.scan_drive.proofs.driving.start.Goals as goal

pub returns-clause-starts : goal.returns-clause-starts
returns-clause-starts g c =
    let none = c.default-2.ensures in
    record {
      lens = search rules;
      shut = c.loop.invariant.shut;
      first = search rules;
      seated = c.new.ensures.seated;
      turns = c.new.ensures.turns;
      chunks = c.new-2.ensures;
      tally = (c.default.ensures.0, c.default.ensures.1);
      left = search rules;
      report = λ i. record { wants = none.0 i; hits = none.1.0 i; shared = none.1.1.0 i; asks = none.1.1.1 i };
      budget = c.in_ok-budget_of.ensures;
    }
