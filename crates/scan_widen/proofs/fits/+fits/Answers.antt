use Rattle.std.proofs.Common.{◌≡◌, ◌&&◌, ◌+◌, ◌∙◌, IfOk, sym, ap, subst, drop, true, false}
use Rattle.std.specs.Option.{is_none}
use Rattle.scan_values.specs.DataType.{fields_of, is_nullable}
use Rattle.scan_values.specs.FieldLists.{dtype_named}
use Rattle.scan_widen.specs.FitsUnder.{are_lawful, passes_or, fits_under, fields_fit}
use Rattle.scan_widen.proofs.Fitting.{fits_at, fits_short, fits_past, lawful_names}
use Rattle.scan_widen.proofs.fits.+fits.Goals as goal

pub fields_fit-returns-then-not-branch : goal.fields_fit-returns-then-not-branch
fields_fit-returns-then-not-branch t c =
    let fs = fields_of c.args.from.now in
    let xs = c.args.to.now in
    let i = c.loop-i.i in
    let step = fits_at fs xs c.names-names.result.now i c.index-names-i.result c.in-Some.wanted.now c.names-names.ensures c.loop-i-test.true c.index-names-i.is c.in-Some.ensures in
    let no = sym c.in_ok-field_fits-in-Some.ensures ∙ c.if-not-branch.true in
    sym (sym c.loop-i.invariant ∙ step ∙ ap (λ b. b && fields_fit fs (fields_of (drop (i + 1) xs))) no)

pub fields_fit-returns-in-None : goal.fields_fit-returns-in-None
fields_fit-returns-in-None t c =
    sym (fits_short (fields_of c.args.from.now) c.args.to.now c.loop-i.i c.in-None.ensures) ∙ c.loop-i.invariant

pub fields_fit-loop-i-preserved : goal.fields_fit-loop-i-preserved
fields_fit-loop-i-preserved t c =
    let fs = fields_of c.args.from.now in
    let xs = c.args.to.now in
    let i = c.loop-i.i in
    let step = fits_at fs xs c.names-names.result.now i c.index-names-i.result c.in-Some.wanted.now c.names-names.ensures c.loop-i-test.true c.index-names-i.is c.in-Some.ensures in
    let yes = sym c.in_ok-field_fits-in-Some.ensures ∙ c.if-not-branch.false in
    sym (ap (λ b. b && fields_fit fs (fields_of (drop (i + 1) xs))) yes) ∙ sym step ∙ c.loop-i.invariant

pub fields_fit-returns : goal.fields_fit-returns
fields_fit-returns t c =
    sym (fits_past (fields_of c.args.from.now) c.args.to.now c.names-names.result.now c.loop-i.i c.names-names.ensures c.loop-i-test.false) ∙ c.loop-i.invariant

pub lawful_fit-returns-in-Some : goal.lawful_fit-returns-in-Some
lawful_fit-returns-in-Some t c =
    let xs = c.args.from.now in
    let bad = lawful_names xs c.names.result.now c.in_ok-names_fault.field-0 c.names.ensures c.in_ok-names_fault.ensures ∙ ap is_none c.in-Some.is in
    sym (ap (λ b. b && fields_fit (fields_of xs) (fields_of c.args.to.now)) bad)

pub lawful_fit-returns-in-None : goal.lawful_fit-returns-in-None
lawful_fit-returns-in-None t c =
    let xs = c.args.from.now in
    let good = lawful_names xs c.names.result.now c.in_ok-names_fault.field-0 c.names.ensures c.in_ok-names_fault.ensures ∙ ap is_none c.in-None.is in
    subst (λ z. IfOk c.fields_fit.result (λ b. b ≡ z)) (sym (ap (λ b. b && fields_fit (fields_of xs) (fields_of c.args.to.now)) good)) c.fields_fit.ensures
