use Rattle.std.proofs.Common.{◌<◌, [], ◌∷◌, ◌++◌, length, get_or, take, sym, ap, ◌∙◌, arith}
use Rattle.std.proofs.lemmas.List.{length-set, get_or_default}
use Rattle.scan_values.specs.Val.{null_val}
use Rattle.scan_groups.specs.Cells.{run_vals}
use Rattle.scan_groups.specs.Order.{is_scalar}
use Rattle.scan_groups.specs.Places.{PlacedAll}
use Rattle.scan_groups.specs.Rows.{Row}
use Rattle.scan_groups.proofs.Placing.{keys_long, key_at, places_all, places_more, places_none, scalar_at}
use Rattle.scan_groups.proofs.Slots.{as_same}
use Rattle.scan_groups.proofs.places.Places.place_cells.Goals as goal

pub loop-i-init : goal.loop-i-init
loop-i-init c = record {
  even = omega (arith, c.in_ok-places.ensures.len, c.in_ok-places.places.ok.0, c.len.ensures);
  places = λ keys rows more e h scalars. places_none keys rows more c.args.self.now c.in_ok-places.places.items h;
}

pub cell-requires : goal.cell-requires
cell-requires c = omega (arith, c.loop-i-test.true, c.len-i-end.ensures, c.in_ok-places.ensures.len, c.len.ensures)

pub index_mut-requires : goal.index_mut-requires
index_mut-requires c = omega (arith, c.loop-i-test.true, c.len-i-end.ensures, c.in_ok-places.ensures.len, c.len.ensures, c.loop-i.invariant.even, c.loop-i.places.ok.0)

pub loop-i-preserved : goal.loop-i-preserved
loop-i-preserved c =
    let vs = run_vals c.args.run in
    let i = c.loop-i.i in
    let q = c.in_ok-places-2.field-0 in
    let given = c.loop-i.places.items in
    let within : i < length vs = omega (arith, c.loop-i-test.true, c.len-i-end.ensures, c.in_ok-places.ensures.len, c.len.ensures) in
    let inside : i < length given = omega (arith, within, c.loop-i.invariant.even) in
    let blank : Row = record { key = []; read = [] } in
    record {
      even = length-set given i q ∙ c.loop-i.invariant.even;
      places = λ keys rows more e h scalars.
          let long = keys_long more vs e in
          let lt : i < length more = omega (arith, within, long) in
          let row = get_or more i blank in
          let before = c.loop-i.invariant.places keys rows more e h scalars in
          let key = key_at more vs i blank null_val lt e ∙ ap (λ v. v ∷ []) (sym c.cell.ensures) in
          let one = c.in_ok-places-2.ensures keys (rows ++ take i more) row key before.places (ap is_scalar c.cell.ensures ∙ scalar_at vs i null_val within scalars) in
          places_more keys rows more i row c.args.self.now c.loop-i.self c.place_cell.new.self given q lt inside (get_or_default more i blank row lt) before one;
    }

pub returns-clause-places : goal.returns-clause-places
returns-clause-places c = λ keys rows more e h scalars.
    let long = keys_long more (run_vals c.args.run) e in
    as_same c.new.result (PlacedAll keys rows more c.args.self.now c.loop-i.self) c.loop-i.places.items c.new.ensures
    (places_all keys rows more c.loop-i.i c.args.self.now c.loop-i.self c.loop-i.places.items
    (omega (arith, long, c.loop-i-test.false, c.len-i-end.ensures, c.in_ok-places.ensures.len, c.len.ensures)) (c.loop-i.invariant.places keys rows more e h scalars))
