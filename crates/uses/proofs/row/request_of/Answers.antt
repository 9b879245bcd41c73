use Rattle.uses.proofs.LookingUp.{is_for_row}
use Rattle.uses.proofs.row.request_of.Goals as goal

pub returns : goal.returns
returns c =
    let n = c.new-request.ensures in
    is_for_row c.new-request.result c.args.projection c.args.filter c.args.row c.in_ok-selection.selection n.projection n.row_range c.in_ok-selection.ensures n.partition_selection n.partition_range n.ordered n.limit
