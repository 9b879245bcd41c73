use Rattle.std.proofs.Common.{ℕ, List, [], ◌∷◌, length, map, refl, sym, ap, ◌∙◌, subst}
use Rattle.scan_values.specs.Values.{val_of}
use Rattle.scan_groups.specs.Order.{are_scalars}
use Rattle.scan_groups.specs.Rows.{Row}
use Rattle.scan_groups.specs.Running.{IsUnder}
use Rattle.scan_groups.specs.declared.groups.Groups.{Groups}
use Rattle.scan_groups.proofs.Placing.{placed_one}
use Rattle.scan_groups.proofs.Totalling.{under_begins}
use Rattle.scan_groups.proofs.groups.Groups.add.Goals as goal

pub read_row-requires : goal.read_row-requires
read_row-requires c = ap length c.in_ok-places.ensures

pub returns : goal.returns
returns c = λ keys ms rows h scalar.
    let old = c.args.self.now in
    let new : Groups = record { places = c.place.new.self; tallies = old.tallies } in
    let key = c.new.ensures in
    let row : Row = record { key = c.args.key; read = map val_of c.args.read.now } in
    let one = c.in_ok-place.ensures.places keys rows row (sym key) h.places (ap are_scalars key ∙ scalar) in
    let begun = under_begins keys ms rows (row ∷ []) (c.in_ok-place.place ∷ []) old new h refl refl (placed_one keys rows row old.places c.place.new.self c.in_ok-place.place one) in
    c.read_row.ensures keys ms rows row (subst (λ (ps : List ℕ). IsUnder keys ms rows (row ∷ []) ps 0 new) (sym c.in_ok-places.ensures) begun) refl
