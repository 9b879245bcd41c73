use Rattle.std.proofs.Common.{◌+◌, ◌++◌, drop, option_map, sym, ap, ◌∙◌}
use Rattle.serde_json.specs.View.{items_view, view}
use Rattle.scan_manifest.specs.Json.{each_from}
use Rattle.scan_manifest.proofs.Lists.{each_more}
use Rattle.scan_lookup_run.specs.Jobs.{place_in}
use Rattle.scan_lookup_run.proofs.reading.read_place_list.Goals as goal

pub loop-json-preserved : goal.loop-json-preserved
loop-json-preserved c =
    each_more (λ _. place_in) c.args.list.now c.loop-json.places.items c.loop-json.json-index c.json-item.result c.in_ok-read_place.field-0
    c.loop-json-test.true c.loop-json.invariant (ap (λ v. place_in (view v)) (sym c.json-item.is) ∙ c.in_ok-read_place.ensures)
    ∙ ap (λ ws. option_map (λ xs. ws ++ xs) (each_from (λ _. place_in) (c.loop-json.json-index + 1) (items_view (drop (c.loop-json.json-index + 1) c.args.list.now)))) (sym c.in_ok-push.ensures.items)
