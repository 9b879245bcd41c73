use Rattle.std.proofs.Common.{◌-◌, Some, cond, bytes_eq, length, refl, ap, ◌∙◌}
use Rattle.std.specs.List.{position}
use Rattle.std.specs.HashMap.{get_by}
use Rattle.std.proofs.lemmas.Map.Text.{hash_map_updates_str}
use Rattle.scan_layout.proofs.Placing.{index_turn, index_all}
use Rattle.scan_layout.proofs.layouts.field_places.FieldPlaces.of.Goals as goal

pub loop-k-preserved : goal.loop-k-preserved
loop-k-preserved c =
    let names = c.names-names.result.now in
    let k = c.loop-k.k in
    let i = length names - 1 - k in
    index_turn names k i c.index-names-i.result (λ n. get_by (λ q. bytes_eq n q.now) c.loop-k.places) (λ n. get_by (λ q. bytes_eq n q.now) c.insert.new.self) c.loop-k-test.true refl c.index-names-i.is c.loop-k.invariant
    (λ n. hash_map_updates_str c.as_str.result.now c.loop-k.places c.insert.new.self (Some i) c.in_ok-insert.ensures.updates n ∙ ap (λ b. cond (bytes_eq b n) (Some i) (get_by (λ q. bytes_eq n q.now) c.loop-k.places)) c.as_str.ensures)

pub invariant_of-result : goal.invariant_of-result
invariant_of-result c = record { placed = λ n. c.loop-k.invariant n ∙ index_all c.names-names.result.now c.loop-k.k n c.loop-k-test.false ∙ ap (position (bytes_eq n)) c.names-names.ensures }
