use Rattle.std.proofs.Common.{◌∙◌, ap, arith}
use Rattle.std.proofs.lemmas.List.{drop_all}
use Rattle.serde_json.specs.Data.{array}
use Rattle.serde_json.proofs.Views.{view-Array}
use Rattle.serde_json.specs.View.{items_of}
use Rattle.scan_disk_writer.specs.Json.{json_of_places}
use Rattle.scan_disk_writer.proofs.Jsons.{item_next, place_step, places_end}
use Rattle.scan_disk_writer.proofs.footer.places_json.Goals as goal

pub loop-i-preserved : goal.loop-i-preserved
loop-i-preserved c =
    let ps = c.args.places.now in
    let i = c.loop-i.i in
    place_step c.loop-i.made.items c.push.new.self.items c.in_ok-json.json ps i _ (json_of_places 0 ps) c.in_ok-push.ensures.items c.in_ok-json.ensures (item_next ps i _ (omega arith)) c.loop-i.invariant

pub returns : goal.returns
returns c =
    let ps = c.args.places.now in
    view-Array c.loop-i.made ∙ ap (λ z. array (items_of z)) (places_end c.loop-i.made.items ps c.loop-i.i (json_of_places 0 ps) (drop_all c.loop-i.i ps (omega arith)) c.loop-i.invariant)
