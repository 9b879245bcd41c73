use Rattle.std.proofs.Common.{◌≡◌, ◌∙◌, ◌<◌, List, length, length-set, get_or-set_same, get_or-set_other, refl, sym, ap, subst, arith}
use Rattle.std.proofs.lemmas.List.{get_or_default}
use Rattle.scan_drive.specs.Turns.{IsTooMany}
use Rattle.scan_drive.specs.declared.phase.Phase.{Phase}
use Rattle.scan_drive.specs.declared.phase.Phase.TheVariants as phases
use Rattle.scan_drive.proofs.Resting.{set_again}
use Rattle.scan_drive.proofs.Ending.{too_many, fits_in, not_end}
use Rattle.scan_drive.proofs.settling.end_of.Goals as goal

pub returns-then-not-fits : goal.returns-then-not-fits
returns-then-not-fits g c =
    let ps : List (Phase g.row.W.Denot g.row.F.Denot) = c.args.phases.now.items in
    let i = c.args.first in
    let lt : i < length ps = omega (arith, c.if-first-len.false, c.len.ensures, c.args.phases.now.ok) in
    let at = c.index.ensures ∙ get_or_default ps i c.index.result.now phases.Unopened lt in
    (refl, subst (λ (p : Phase g.row.W.Denot g.row.F.Denot). IsTooMany i c.args.tally.now p) at (too_many i c.args.tally.now c.index.result.now c.fits.result c.if-not-fits.true c.fits.ensures))

pub returns-in-Some : goal.returns-in-Some
returns-in-Some g c =
    let ps : List (Phase g.row.W.Denot g.row.F.Denot) = c.args.phases.now.items in
    let i = c.args.first in
    let lt : i < length ps = omega (arith, c.if-first-len.false, c.len.ensures, c.args.phases.now.ok) in
    let x = c.index_mut.result.now in
    let at : x ≡ Rattle.std.proofs.Common.get_or ps i phases.Unopened = c.index_mut.ensures.value ∙ get_or_default ps i x phases.Unopened lt in (
      sym at ∙ c.in-Some.ensures.0,
      record {
        len = length-set ps i c.take_held.new.phase;
        here = get_or-set_same ps i c.take_held.new.phase phases.Unopened lt ∙ c.in-Some.ensures.1;
        others = λ k n. get_or-set_other ps i k c.take_held.new.phase phases.Unopened n;
      },
    )

pub returns-in-None : goal.returns-in-None
returns-in-None g c =
    let ps : List (Phase g.row.W.Denot g.row.F.Denot) = c.args.phases.now.items in
    let i = c.args.first in
    let lt : i < length ps = omega (arith, c.if-first-len.false, c.len.ensures, c.args.phases.now.ok) in
    let x = c.index_mut.result.now in
    let at : x ≡ Rattle.std.proofs.Common.get_or ps i phases.Unopened = c.index_mut.ensures.value ∙ get_or_default ps i x phases.Unopened lt in
    let over = c.index.ensures ∙ get_or_default ps i c.index.result.now phases.Unopened lt in (
      set_again ps i x c.take_held.new.phase c.index_mut.ensures.value c.in-None.ensures.0,
      not_end i c.args.tally.now ps lt (λ why e. c.in-None.ensures.1 why (at ∙ e)) (subst (λ (p : Phase g.row.W.Denot g.row.F.Denot). IsTooMany i c.args.tally.now p → ⊥) over (fits_in i c.args.tally.now c.index.result.now c.fits.result c.if-not-fits.false c.fits.ensures)),
    )
