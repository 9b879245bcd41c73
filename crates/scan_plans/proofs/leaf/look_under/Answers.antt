use borrow.Author.Rules.{rules}
use Rattle.std.proofs.Common.{◌≡◌, true}
use Rattle.std.specs.List.{list_any}
use Rattle.scan_plans.proofs.leaf.look_under.Goals as goal

pub returns : goal.returns
returns c =
    let some : list_any (λ b. b) c.args.bits.now ≡ true = search (rules, c.any_true.ensures, c.if-not-any_true.false) in
    rw some c.look.ensures
