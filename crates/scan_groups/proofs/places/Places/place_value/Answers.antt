use Rattle.std.proofs.Common.{refl, sym, ap, ◌∙◌}
use Rattle.scan_groups.specs.Cells.{cell_val}
use Rattle.scan_groups.specs.Order.{are_scalars}
use Rattle.scan_groups.specs.declared.places.Places.{Places}
use Rattle.scan_groups.proofs.Placing.{place_known, place_learnt, one_scalar}
use Rattle.scan_groups.proofs.places.Places.place_value.Goals as goal

pub returns-in-Some : goal.returns-in-Some
returns-in-Some c = λ keys rows row e h scalar. place_known keys rows row (cell_val c.args.cell) c.args.self.now c.in-Some.place e h scalar c.in-Some.ensures

pub returns : goal.returns
returns c = λ keys rows row e h scalar.
    let v = cell_val c.args.cell in
    let mid = c.place.new.self in
    let new : Places = record { keys = mid.keys; count = mid.count; known = c.learn.new.self; near = mid.near } in
    let key = c.in_ok-of.ensures in
    let placed = c.in_ok-place.ensures.places keys rows row (e ∙ sym key) h (ap are_scalars key ∙ one_scalar v scalar) in
    place_learnt keys rows row v c.args.self.now mid new c.in_ok-place.place e placed refl refl refl c.in_ok-learn.ensures
