use Rattle.std.proofs.Common.{◌≡◌, ◌+◌, ◌∷◌, [], List, None, Some, drop, length, map, sym, ap, ◌∙◌, refl, subst, arith}
use Rattle.std.specs.Prelude.{position}
use Rattle.std.specs.Str.{bytes_eq}
use Rattle.std.proofs.lemmas.List.{map-append}
use Rattle.scan_values.specs.DataType.{Name}
use Rattle.scan_values.specs.FieldLists.{names_of}
use Rattle.scan_import.specs.Csv.{AreNoColumns, places_in}
use Rattle.scan_import.specs.Lists.{StopsAt}
use Rattle.scan_import.specs.declared.fault.ImportFault.{ImportFault}
use Rattle.scan_import.proofs.Columns.{columns_all, place_next, places_count, stops_here}
use Rattle.scan_import.proofs.Meant.{count_step, item_at, made_step}
use Rattle.scan_import.proofs.csv_rows.columns_of.Goals as goal

pub loop-column-preserved : goal.loop-column-preserved
loop-column-preserved c =
    let ns = c.names-wanted.result.now in
    let names = c.args.names.now in
    let i = c.loop-column.column in
    let n = c.index-wanted-column.result in
    let found : position (bytes_eq n) names ≡ Some c.in-Some.place = sym c.place_of-found.ensures ∙ c.in-Some.is in
    record {
      same = made_step (map Some c.loop-column.columns.items) (map Some c.push.new.self.items) (Some c.in-Some.place) (places_in (drop i ns) names) (places_in (drop (i + 1) ns) names) (places_in ns names)
          (ap (map Some) c.in_ok-push-in-Some.ensures.items ∙ map-append Some c.loop-column.columns.items (c.in-Some.place ∷ []))
          (place_next ns names i n (item_at ns i n c.loop-column-test.true c.index-wanted-column.is) ∙ ap (λ o. o ∷ places_in (drop (i + 1) ns) names) found) c.loop-column.invariant.same;
      count = count_step c.loop-column.columns.items c.push.new.self.items c.in-Some.place i c.in_ok-push-in-Some.ensures.items c.loop-column.invariant.count;
    }

pub returns-in-None-clause-err : goal.returns-in-None-clause-err
returns-in-None-clause-err c =
    let ns = c.names-wanted.result.now in
    let names = c.args.names.now in
    let i = c.loop-column.column in
    let n = c.index-wanted-column.result in
    let none : position (bytes_eq n) names ≡ None = sym c.place_of-found.ensures ∙ c.in-None.is in
    let stops = stops_here c.loop-column.columns.items i (places_in (drop i ns) names) (places_in (drop (i + 1) ns) names) (places_in ns names)
    (place_next ns names i n (item_at ns i n c.loop-column-test.true c.index-wanted-column.is) ∙ ap (λ o. o ∷ places_in (drop (i + 1) ns) names) none) c.loop-column.invariant.same c.loop-column.invariant.count in
    subst (λ (e : ImportFault). AreNoColumns (names_of c.args.fields.now) names e.cause) (sym c.new-lacking.ensures) (subst (λ (m : List Name). StopsAt i (places_in m names)) c.names-wanted.ensures stops)

pub returns-then-found-count-clause-err : goal.returns-then-found-count-clause-err
returns-then-found-count-clause-err c =
    let ns = names_of c.args.fields.now in
    let names = c.args.names.now in
    let cs = c.loop-column.columns.items in
    let places = columns_all ns c.names-wanted.result.now names cs c.loop-column.column c.names-wanted.ensures c.loop-column-test.false c.loop-column.invariant.same in
    let even = places_count ns names cs places in
    let wanted : c.len-count.result ≡ length ns = omega (arith, even, c.loop-column.columns.ok.0) in
    subst (λ (e : ImportFault). AreNoColumns ns names e.cause) (sym c.new-uneven.ensures) (wanted, refl, λ h. c.if-found-count.true (sym h))

pub returns-clause-ok : goal.returns-clause-ok
returns-clause-ok c =
    let ns = names_of c.args.fields.now in
    let names = c.args.names.now in
    let cs = c.loop-column.columns.items in
    let places = columns_all ns c.names-wanted.result.now names cs c.loop-column.column c.names-wanted.ensures c.loop-column-test.false c.loop-column.invariant.same in
    let even = places_count ns names cs places in
    record { places = places; count = omega (arith, even, c.loop-column.columns.ok.0) }
