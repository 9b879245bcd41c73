use Rattle.std.proofs.Common.{◌∙◌, sym}
use Rattle.scan_lookup.proofs.Grouping.{row_there}
use Rattle.scan_lookup.proofs.groups.add_row.Goals as goal

pub returns-in-Some : goal.returns-in-Some
returns-in-Some c = row_there c.args.group.now c.requires c.args.row c.in-Some.number (sym c.number.ensures ∙ c.in-Some.is)
