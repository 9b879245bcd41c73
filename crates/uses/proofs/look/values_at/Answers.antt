use Rattle.std.proofs.Common.{ap, ◌∙◌, map}
use Rattle.vortex_scan.specs.Values.Val.{marked}
use Rattle.uses.proofs.look.values_at.Goals as goal

pub returns-in_err-found-clause-lawful : goal.returns-in_err-found-clause-lawful
returns-in_err-found-clause-lawful g c = c.look_up.ensures.moves.lawful

pub returns-clause-values : goal.returns-clause-values
returns-clause-values g c =
    λ l. ap (map marked) c.into_vec.ensures.items ∙ c.in_ok-found.ensures.ok.values l

pub returns-clause-lawful : goal.returns-clause-lawful
returns-clause-lawful g c = c.look_up.ensures.moves.lawful
