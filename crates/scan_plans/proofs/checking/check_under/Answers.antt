use borrow.Author.Rules.{rules}
use Rattle.std.proofs.Common.{◌≡◌, true, false, refl}
use Rattle.std.specs.List.{list_any}
use Rattle.scan_plans.proofs.checking.check_under.Goals as goal

pub returns-then-not-any_true : goal.returns-then-not-any_true
returns-then-not-any_true c =
    let none : list_any (λ b. b) c.args.bits.now ≡ false = search (rules, c.any_true.ensures, c.if-not-any_true.true) in
    rw none (λ id. refl)

pub returns : goal.returns
returns c =
    let some : list_any (λ b. b) c.args.bits.now ≡ true = search (rules, c.any_true.ensures, c.if-not-any_true.false) in
    rw some c.check_segment.ensures
