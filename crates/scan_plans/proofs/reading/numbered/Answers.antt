use borrow.Author.Rules.{rules}
use Rattle.std.proofs.Common.{◌≡◌, ◌+◌}
use Rattle.scan_plans.proofs.Numbering.{numbers_ok}
use Rattle.scan_plans.proofs.reading.numbered.Goals as goal

pub returns-in_ok-row_numbers-in-Some : goal.returns-in_ok-row_numbers-in-Some
returns-in_ok-row_numbers-in-Some c = λ here.
    let from : c.in-Some.from ≡ c.args.number + c.args.first = search (rules, c.checked_add.ensures, c.in-Some.is, c.in-Some.ensures) in
    numbers_ok c.args.number c.args.first c.in-Some.from here c.args.bits.now c.in_ok-row_numbers-in-Some.field-0 from c.in_ok-row_numbers-in-Some.ensures
