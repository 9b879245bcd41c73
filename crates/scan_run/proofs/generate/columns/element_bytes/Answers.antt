use Rattle.std.proofs.Common.{◌∙◌, refl, rules}
use Rattle.std.proofs.lemmas.Iterator.{YieldsList-from_range, YieldsList-from_map_by, items_from_collect}
use Rattle.std.proofs.lemmas.Result.{IfOk-weaker}
use Rattle.scan_run.proofs.Making.{byte_at, elements_made}
use Rattle.scan_run.proofs.generate.columns.element_bytes.Goals as goal

pub returns : goal.returns
returns c =
    let a = c.elements_before.result in
    let b = c.elements_before-2.result in
    let made = elements_made c.args.first c.args.count a b c.elements_before.ensures c.elements_before-2.ensures in
    IfOk-weaker c.collect.result _ _ (λ v h. h ∙ made)
    (items_from_collect c.collect.result c.collect.ensures.ran (YieldsList-from_map_by _ (λ r. r) byte_at (YieldsList-from_range a b _ c.map.ensures.source refl) c.map.ensures.closure (λ x r q k. search rules)))
