use Rattle.std.proofs.Common.{◌≡◌, refl, sym, ap, ◌∙◌}
use Rattle.std.specs.Prelude.{Some, None}
use Rattle.scan_groups.specs.Order.{are_scalars}
use Rattle.scan_groups.specs.Places.{place_of}
use Rattle.scan_groups.proofs.Placing.{place_found, begun_ok, some_same, not_none}
use Rattle.scan_groups.proofs.places.Places.place.Goals as goal

pub returns-in-Some-clause-places : goal.returns-in-Some-clause-places
returns-in-Some-clause-places c = λ keys rows row e h scalar.
    let old = c.args.self.now in
    let found : place_of old c.args.key ≡ Some c.in-Some.place = sym c.find.ensures ∙ c.in-Some.is in
    place_found keys rows row old c.in-Some.place h (ap are_scalars e ∙ scalar) (ap (place_of old) e ∙ found)

pub returns-in-Some-clause-found : goal.returns-in-Some-clause-found
returns-in-Some-clause-found c = λ i e.
    let found : place_of c.args.self.now c.args.key ≡ Some c.in-Some.place = sym c.find.ensures ∙ c.in-Some.is in
    (refl, some_same c.in-Some.place i (sym found ∙ e))

pub begin-requires : goal.begin-requires
begin-requires c = sym c.find.ensures ∙ c.in_default.is

pub returns-clause-places : goal.returns-clause-places
returns-clause-places c = λ keys rows row e h scalar.
    let none : place_of c.args.self.now c.args.key ≡ None = sym c.find.ensures ∙ c.in_default.is in
    begun_ok c.begin.result keys rows row c.args.key c.args.self.now c.begin.new.self e h scalar none c.begin.ensures

pub returns-clause-found : goal.returns-clause-found
returns-clause-found c = λ i e.
    let none : place_of c.args.self.now c.args.key ≡ None = sym c.find.ensures ∙ c.in_default.is in
    absurd (not_none (place_of c.args.self.now c.args.key) i e none)
