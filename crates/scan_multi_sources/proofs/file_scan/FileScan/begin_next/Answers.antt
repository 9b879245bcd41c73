use Rattle.std.proofs.Common.{◌≡◌, ◌∷◌, [], ap, map, sym, subst, true, Ok, ◌∙◌}
use Rattle.std.proofs.lemmas.List.{map-append}
use Rattle.scan_multi_sources.specs.FileView.{slot_view}
use Rattle.scan_multi_sources.specs.MultiScans.{BeginsNext, multi_scan}
use Rattle.scan_multi_sources.specs.declared.slot.Stage.TheVariants.{Opening}
use Rattle.scan_multi_sources.proofs.file_scan.FileScan.begin_next.Goals as goal

pub returns : goal.returns
returns g c =
    let i = c.self.inside in
    let place = c.in-Some.place in
    let rest = c.pop_front.new.self.items in
    let waiting : i.waiting.items ≡ place ∷ rest = c.in-Some.ensures ∙ ap (λ xs. place ∷ xs) (sym c.pop_front.ensures.rest) in
    let window = ap (map slot_view) c.in_ok-push.ensures.items ∙ map-append slot_view i.window.items (record { place = place; stage = Opening } ∷ []) in
    subst (λ z. BeginsNext z (multi_scan i.source i.request i.numbers (map slot_view c.push.new.self.items) rest i.row_limit i.given_rows i.delivered) (Ok true))
    c.self.view_is (place, rest, waiting, ap (λ ws. multi_scan i.source i.request i.numbers ws rest i.row_limit i.given_rows i.delivered) window)
