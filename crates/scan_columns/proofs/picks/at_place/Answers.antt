use Rattle.scan_columns.proofs.PickLemmas.{kept_places}
use Rattle.scan_columns.proofs.picks.at_place.Goals as goal

pub returns-clause-later : goal.returns-clause-later
returns-clause-later c ps h = kept_places c.args.columns.now c.args.place c.replace.new.dest ps (h c.if-not-is_last.false)
