use Rattle.std.proofs.Common.{◌≡◌, ap, sym, subst, map, set}
use Rattle.std.proofs.lemmas.List.{map-set}
use Rattle.scan_multi_sources.specs.FileView.{slot_view, stage_view}
use Rattle.scan_multi_sources.specs.MultiScans.{IsMultiScan, MayKeep, kept_at, multi_scan}
use Rattle.scan_multi_sources.proofs.Standing.{kept_stands}
use Rattle.scan_multi_sources.proofs.file_scan.FileScan.keep.Goals as goal

pub invariant_of-self : goal.invariant_of-self
invariant_of-self g c =
    let i = c.self.inside in
    let st = stage_view c.args.stage in
    let may = subst (λ z. MayKeep z st) (sym c.self.view_is) c.requires.kept in
    subst (λ ws. IsMultiScan (multi_scan i.source i.request i.numbers ws i.waiting.items i.row_limit i.given_rows i.delivered))
    (sym (map-set slot_view i.window.items c.args.at (record { place = c.args.place; stage = c.args.stage })))
    (kept_stands (multi_scan i.source i.request i.numbers (map slot_view i.window.items) i.waiting.items i.row_limit i.given_rows i.delivered) c.self.invariant c.args.at c.args.place st may)

pub returns : goal.returns
returns g c =
    let i = c.self.inside in
    let st = stage_view c.args.stage in
    subst (λ z. multi_scan i.source i.request i.numbers (map slot_view (set i.window.items c.args.at (record { place = c.args.place; stage = c.args.stage }))) i.waiting.items i.row_limit i.given_rows i.delivered ≡ kept_at z c.args.at c.args.place st)
    c.self.view_is
    (ap (λ ws. multi_scan i.source i.request i.numbers ws i.waiting.items i.row_limit i.given_rows i.delivered) (map-set slot_view i.window.items c.args.at (record { place = c.args.place; stage = c.args.stage })))
