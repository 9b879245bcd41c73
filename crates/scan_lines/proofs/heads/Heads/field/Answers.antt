use Rattle.std.proofs.Common.{◌≡◌, ◌<◌, rules, length, sym, ap, ◌∙◌, arith, subst, get_or, true, Some, None}
use Rattle.std.specs.Prelude.{slice_get}
use Rattle.scan_lines.specs.Heads.{heads_of}
use Rattle.scan_lines.specs.Line.{fields_in}
use Rattle.scan_lines.proofs.Heading.{parts_many, field_there, field_past}
use Rattle.scan_lines.proofs.heads.Heads.field.Goals as goal

pub bounds-parts-k : goal.bounds-parts-k
bounds-parts-k c =
    let many = parts_many c.self.inside.dtype c.self.inside.texts.items c.self.inside.parts.items c.self.invariant.0 c.self.invariant.1 in
    let t = ap length c.as_slice-texts.ensures.value in
    let p = ap length c.as_slice-parts.ensures.value in
    omega (arith, many, t, p)

pub offset_bounds-parts-k : goal.offset_bounds-parts-k
offset_bounds-parts-k c =
    let many = parts_many c.self.inside.dtype c.self.inside.texts.items c.self.inside.parts.items c.self.invariant.0 c.self.invariant.1 in
    let t = ap length c.as_slice-texts.ensures.value in
    let p = ap length c.as_slice-parts.ensures.value in
    let lt : c.args.k < length c.as_slice-parts.result.now = omega (arith, many, t, p) in
    search (rules, lt)

pub returns-then-k-texts : goal.returns-then-k-texts
returns-then-k-texts c =
    subst (λ d. Some (c.index-texts-k.result, c.index-parts-k.result) ≡ slice_get (heads_of true (fields_in d)) c.args.k) c.self.view_is
    (field_there c.self.inside.dtype c.as_slice-texts.result.now c.as_slice-parts.result.now c.args.k c.index-texts-k.result c.index-parts-k.result
    (c.as_slice-parts.ensures.value ∙ c.self.invariant.0) (c.as_slice-texts.ensures.value ∙ c.self.invariant.1) (omega arith) c.index-texts-k.is c.index-parts-k.is)

pub returns-else-k-texts : goal.returns-else-k-texts
returns-else-k-texts c =
    subst (λ d. None ≡ slice_get (heads_of true (fields_in d)) c.args.k) c.self.view_is
    (field_past c.self.inside.dtype c.as_slice-texts.result.now c.args.k (c.as_slice-texts.ensures.value ∙ c.self.invariant.1) (omega arith))
