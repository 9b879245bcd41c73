use borrow.Author.Rules.{rules}
use Rattle.std.proofs.Common.{◌≡◌, IfOk}
use Rattle.scan_readers.proofs.RowWalk.{child_made}
use Rattle.scan_readers.proofs.row_idx.part_node.Goals as goal

pub returns-in_ok-plan-in-Child-clause-plan : goal.returns-in_ok-plan-in-Child-clause-plan
returns-in_ok-plan-in-Child-clause-plan g c =
    let q = c.in_ok-plan-in-Child.field-0.value in
    let copied : IfOk c.copy_node.result (λ n. n ≡ q.tree) = search (rules, c.copy_node.ensures.node, c.deref.ensures) in
    rw c.in-Child.is (child_made (g.R.LayoutReader.state c.args.child.now) c.args.first c.args.part.now q c.copy_node.result c.in_ok-plan-in-Child.ensures.plan c.requires.over.1 copied)
