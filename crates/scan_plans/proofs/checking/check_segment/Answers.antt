use borrow.Author.Rules.{rules}
use Rattle.std.proofs.Common.{◌≡◌, Some}
use Rattle.scan_plans.specs.Came.{came}
use Rattle.scan_plans.proofs.checking.check_segment.Goals as goal

pub returns-in-Some-Bytes : goal.returns-in-Some-Bytes
returns-in-Some-Bytes c =
    let here = came c.args.inbox.now in
    let there : here c.args.id ≡ Some (Some c.in-Some-Bytes.bytes) = search (rules, c.get.ensures, c.in-Some-Bytes.is) in
    search (rules, c.check_bytes.ensures here, there)
