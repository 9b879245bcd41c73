use Rattle.std.proofs.Common.{◌≡◌, length, sym, ap, ◌∙◌, subst, arith}
use Rattle.scan_lines.specs.Line.{element_in}
use Rattle.scan_lines.proofs.Heading.{element_there, element_is, no_element}
use Rattle.scan_lines.proofs.heads.Heads.element.Goals as goal

pub bounds-parts-0 : goal.bounds-parts-0
bounds-parts-0 c =
    let p = ap length c.as_slice-parts.ensures.value in
    let e = element_there c.self.inside.dtype c.self.inside.parts.items _ c.self.invariant.0 c.in-Some.ensures in
    omega (arith, p, e)

pub returns-in-Some : goal.returns-in-Some
returns-in-Some c =
    element_is c.self.inside.dtype c.as_slice-parts.result.now _ c.index-parts-0.result (c.as_slice-parts.ensures.value ∙ c.self.invariant.0) c.in-Some.ensures c.index-parts-0.is ∙ ap element_in c.self.view_is

pub returns-in-None : goal.returns-in-None
returns-in-None c = subst (λ d. d ≡ element_in d) c.self.view_is (no_element c.self.inside.dtype c.in-None.ensures)
