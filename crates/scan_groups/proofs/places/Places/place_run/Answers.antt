use Rattle.std.proofs.Common.{◌≡◌, ◌∷◌, [], length, map, sym, ap, ◌∙◌, subst}
use Rattle.std.specs.Prelude.{IfOk}
use Rattle.scan_groups.specs.Cells.{run_vals}
use Rattle.scan_groups.proofs.places.Places.place_run.Goals as goal

pub returns-in-Numbers-clause-even : goal.returns-in-Numbers-clause-even
returns-in-Numbers-clause-even c = subst (λ vs. IfOk c.place_numbers.result (λ ps. length ps ≡ length vs)) (ap run_vals (sym c.in-Numbers.is)) c.place_numbers.ensures.even

pub returns-in-Numbers-clause-places : goal.returns-in-Numbers-clause-places
returns-in-Numbers-clause-places c = λ keys rows more e h scalars.
    c.place_numbers.ensures.places keys rows more (e ∙ ap (λ r. map (λ v. v ∷ []) (run_vals r)) c.in-Numbers.is) h
