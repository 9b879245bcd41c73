use borrow.Author.Rules.{rules}
use Rattle.std.proofs.Common.{◌≡◌, Some}
use Rattle.scan_spelling.specs.Places.{place_of}
use Rattle.scan_spelling.specs.Spelling.{decode}
use Rattle.scan_plans.specs.Came.{came, arrived}
use Rattle.scan_plans.proofs.Segments.{read_there}
use Rattle.scan_plans.proofs.leaf.read_segment.Goals as goal

pub returns-in-Ok : goal.returns-in-Ok
returns-in-Ok c =
    let p = place_of c.args.dtype.now.value c.args.spelling (c.args.id, c.args.rows) in
    let store = arrived (came c.args.inbox.now) in
    let read : decode c.args.spelling c.args.dtype.now.value c.args.rows c.in_ok-try_clone.field-0 ≡ Some c.in-Ok.leaf.items = search (rules, c.in-Ok.ensures.exact, c.deref.ensures) in
    let there : store c.args.id ≡ Some c.in_ok-try_clone.field-0 = search (rules, c.bytes_of.ensures, c.in_ok-try_clone.ensures, c.in-Some.is) in
    let dtype : c.in-Ok.leaf.dtype ≡ c.args.dtype.now.value = search (rules, c.in-Ok.ensures.dtype, c.deref.ensures) in
    (dtype, read_there store p c.in_ok-try_clone.field-0 c.in-Ok.leaf.items there read)
