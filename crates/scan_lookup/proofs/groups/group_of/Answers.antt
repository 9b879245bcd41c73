use Rattle.std.proofs.Common.{◌∙◌, sym}
use Rattle.scan_lookup.proofs.Grouping.{group_there}
use Rattle.scan_lookup.proofs.groups.group_of.Goals as goal

pub returns-in-Some : goal.returns-in-Some
returns-in-Some c = group_there c.args.numbers.now c.args.groups.now.items c.requires c.args.file c.in-Some.number (sym c.number.ensures ∙ c.in-Some.is)
