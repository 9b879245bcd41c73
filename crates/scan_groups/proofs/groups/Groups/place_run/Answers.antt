use Rattle.std.proofs.Common.{refl}
use Rattle.scan_groups.specs.Cells.{run_vals}
use Rattle.scan_groups.specs.declared.groups.Groups.{Groups}
use Rattle.scan_groups.proofs.Totalling.{have_places}
use Rattle.scan_groups.proofs.groups.Groups.place_run.Goals as goal

pub returns : goal.returns
returns c = λ keys scalars.
    let old = c.args.self.now in
    let new : Groups = record { places = c.place_run.new.self; tallies = old.tallies } in
    have_places c.place_run.result keys (run_vals c.args.run) old new refl c.place_run.ensures.even (λ rows run e h. c.place_run.ensures.places keys rows run e h scalars)
