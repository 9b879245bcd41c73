use Rattle.std.proofs.Common.{◌≡◌, sym, subst, true}
use Rattle.scan_layout.specs.Layout.{dtype_of}
use Rattle.scan_widen.specs.FitsUnder.{fits_under}
use Rattle.scan_widen.proofs.Forming.{elements_fit_in, list_validity_of}
use Rattle.scan_widen.proofs.parts.list_parts.Goals as goal

pub returns-clause-fits : goal.returns-clause-fits
returns-clause-fits c =
    subst (λ l. fits_under (dtype_of l) c.element_of.result.now ≡ true) (sym c.child_at.ensures)
    (elements_fit_in c.args.node.now c.args.dtype.now c.element_of.result.now c.requires.form c.requires.list c.requires.fits c.element_of.ensures)

pub returns-clause-validity : goal.returns-clause-validity
returns-clause-validity c = list_validity_of c.args.node.now c.args.dtype.now c.requires.form c.requires.list c.requires.fits
