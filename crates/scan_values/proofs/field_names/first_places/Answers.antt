use Rattle.std.proofs.Common.{◌-◌, Some, cond, bytes_eq, length, string_bytes, refl, ap, ◌∙◌}
use Rattle.std.specs.BTreeMap.{get_by_text}
use Rattle.std.proofs.lemmas.Map.Text.{btree_map_updates_text}
use Rattle.scan_values.proofs.FirstPlaces.{place_turn, place_all}
use Rattle.scan_values.proofs.field_names.first_places.Goals as goal

pub loop-k-preserved : goal.loop-k-preserved
loop-k-preserved c =
    let names = c.args.names.now in
    let k = c.loop-k.k in
    let i = length names - 1 - k in
    place_turn names k i c.index-names-i.result (get_by_text c.loop-k.firsts) (get_by_text c.insert.new.self) c.loop-k-test.true refl c.index-names-i.is c.loop-k.invariant
    (λ n. btree_map_updates_text (string_bytes c.in_ok-name.name) c.loop-k.firsts c.insert.new.self (Some i) c.in_ok-insert.ensures.updates n ∙ ap (λ b. cond (bytes_eq b n) (Some i) (get_by_text c.loop-k.firsts n)) (c.in_ok-name.ensures.ok ∙ c.as_str.ensures))

pub returns : goal.returns
returns c = λ n. c.loop-k.invariant n ∙ place_all c.args.names.now c.loop-k.k n c.loop-k-test.false
