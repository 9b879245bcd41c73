use Rattle.std.proofs.Common.{◌≡◌, subst, sym}
use Rattle.scan_values.specs.DataType.{DataType}
use Rattle.scan_seek.specs.Keeps.{IsFlawed, RowIs}
use Rattle.scan_seek.specs.declared.keeping.RowStanding.TheVariants as standing
use Rattle.scan_places.proofs.Walking.{row_there, row_missing, row_other, row_ill}
use Rattle.scan_places.proofs.walk.check_row.Goals as goal

pub row-requires-clause-flawed : goal.row-requires-clause-flawed
row-requires-clause-flawed c = subst (λ (d : DataType). IsFlawed d c.args.kept.now) (sym c.scope.ensures) c.requires.flawed

pub returns-in-There-clause-there : goal.returns-in-There-clause-there
returns-in-There-clause-there c = row_there c.scope.result.now c.args.place.row c.args.kept.now c.in-There.ensures

pub returns-in-Missing-clause-fault : goal.returns-in-Missing-clause-fault
returns-in-Missing-clause-fault c =
    row_missing (c.args.projection.now).scope c.args.number c.args.place c.args.kept.now (subst (λ (d : DataType). RowIs d c.args.place.row c.args.kept.now standing.Missing) c.scope.ensures c.in-Missing.ensures)

pub returns-in-OtherDType-clause-fault : goal.returns-in-OtherDType-clause-fault
returns-in-OtherDType-clause-fault c =
    row_other (c.args.projection.now).scope c.args.number c.args.place c.args.kept.now (subst (λ (d : DataType). RowIs d c.args.place.row c.args.kept.now standing.OtherDType) c.scope.ensures c.in-OtherDType.ensures)

pub returns-in-IllFormed-clause-fault : goal.returns-in-IllFormed-clause-fault
returns-in-IllFormed-clause-fault c =
    row_ill (c.args.projection.now).scope c.args.number c.args.place c.args.kept.now c.in-IllFormed.fault (subst (λ (d : DataType). RowIs d c.args.place.row c.args.kept.now (standing.IllFormed c.in-IllFormed.fault)) c.scope.ensures c.in-IllFormed.ensures)
