use Rattle.std.proofs.Common.{◌+◌, ◌++◌, drop, option_map, sym, ap, ◌∙◌}
use Rattle.serde_json.specs.View.{items_view, view}
use Rattle.scan_manifest.specs.Json.{each_from}
use Rattle.scan_manifest.proofs.Lists.{each_more}
use Rattle.scan_table.specs.Jobs.{measure_in}
use Rattle.scan_table.proofs.reading.read_measure_list.Goals as goal

pub loop-json-preserved : goal.loop-json-preserved
loop-json-preserved c =
    each_more (λ _. measure_in) c.args.list.now c.loop-json.measures.items c.loop-json.json-index c.json-item.result c.in_ok-read_measure.field-0
    c.loop-json-test.true c.loop-json.invariant (ap (λ v. measure_in (view v)) (sym c.json-item.is) ∙ c.in_ok-read_measure.ensures)
    ∙ ap (λ ws. option_map (λ xs. ws ++ xs) (each_from (λ _. measure_in) (c.loop-json.json-index + 1) (items_view (drop (c.loop-json.json-index + 1) c.args.list.now)))) (sym c.in_ok-push.ensures.items)
