use Rattle.std.proofs.Common.{ap, ◌∙◌}
use Rattle.scan_expr.specs.Infer.{fields_or_none}
use Rattle.scan_partition.specs.Direct.{place}
use Rattle.scan_partition.proofs.direct.place.Goals as goal

pub returns-in-Some : goal.returns-in-Some
returns-in-Some c = c.place_in.ensures ∙ ap (λ o. place (fields_or_none o) c.args.name.now) c.in-Some.ensures

pub returns-in-None : goal.returns-in-None
returns-in-None c = ap (λ o. place (fields_or_none o) c.args.name.now) c.in-None.ensures
