use Rattle.std.proofs.Common.{ℕ, ◌+◌, ◌-◌, ◌≤◌, ◌∙◌, ap, refl, rules, length, arith}
use Rattle.std.specs.List.{flat_map}
use Rattle.std.specs.declared.ops.Range.{Range}
use Rattle.std.proofs.lemmas.Iterator.{YieldsList-from_range, YieldsList-from_map_by, items_from_collect, serves_from_Range}
use Rattle.std.proofs.lemmas.Result.{IfOk-weaker}
use Rattle.scan_values.specs.Selections.{numbers}
use Rattle.scan_values.specs.Val.{Val}
use Rattle.scan_spelling.specs.Written.{slot_bytes, slots}
use Rattle.scan_run.specs.Generated.{id_of, elements}
use Rattle.scan_run.specs.GeneratedBytes.{longs}
use Rattle.scan_run.proofs.Making.{slots_joined, offsets_joined, behind_start}
use Rattle.scan_run.proofs.generate.columns.offset_words.Goals as goal

pub collect-requires-clause-can : goal.collect-requires-clause-can
collect-requires-clause-can c =
    let from = ap (λ (r : Range ℕ). r.start) c.map.ensures.source in
    let to = ap (λ (r : Range ℕ). r.end) c.map.ensures.source in (
      tt,
      serves_from_Range (λ x q k. search rules) (λ x lo hi.
          let below : x ≤ 300000 = omega (arith, hi, to, c.requires) in
          let behind = behind_start c.args.first x c.elements_before-start.result c.elements_before-start.ensures (omega (arith, lo, from)) in
          search (rules, below, behind)),
    )

pub returns : goal.returns
returns c =
    let a = c.args.first in
    let b = a + c.args.count + 1 in
    let start = c.elements_before-start.result in
    let f : ℕ → Val = λ g. id_of (length (elements 0 g) - start) in
    IfOk-weaker c.collect.result _ _ (λ v h. ap (flat_map (λ x. x)) h ∙ (slots_joined longs f (numbers a b) ∙ ap (slots longs) (offsets_joined a c.args.count start c.elements_before-start.ensures)))
    (items_from_collect c.collect.result c.collect.ensures.ran (YieldsList-from_map_by _ (λ r. r) (λ g. slot_bytes longs (f g)) (YieldsList-from_range a b _ c.map.ensures.source refl) c.map.ensures.closure (λ x r q k. search rules)))
