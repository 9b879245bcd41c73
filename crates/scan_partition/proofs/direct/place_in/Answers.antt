use Rattle.std.proofs.Common.{◌∙◌}
use Rattle.scan_expr.proofs.Placing.{found_place, lost_place}
use Rattle.scan_partition.proofs.direct.place_in.Goals as goal

pub returns-in-Some : goal.returns-in-Some
returns-in-Some c = found_place c.args.name.now c.args.fields.now c.in-Some.i c.in-Some.ensures

pub returns-in-None : goal.returns-in-None
returns-in-None c = c.nfields.ensures ∙ lost_place c.args.name.now c.args.fields.now c.in-None.ensures
