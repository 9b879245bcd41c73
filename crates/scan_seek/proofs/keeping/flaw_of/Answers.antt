use Rattle.std.proofs.Common.{◌≡◌, ◌∙◌, Some, sym, rules}
use Rattle.scan_layout.specs.Check.{first_fault}
use Rattle.scan_layout.specs.Layout.{dtype_of}
use Rattle.scan_seek.proofs.Standing.{one_type, other_type}
use Rattle.scan_seek.proofs.keeping.flaw_of.Goals as goal

pub returns-then-ne : goal.returns-then-ne
returns-then-ne c =
    let at : c.dtype.result.now ≡ dtype_of c.args.layout.now.value = search rules in
    λ row e. other_type c.dtype.result.now c.args.dtype.now (sym c.if-ne.true ∙ c.ne.ensures) (at ∙ e)

pub returns : goal.returns
returns c =
    let at : c.dtype.result.now ≡ dtype_of c.args.layout.now.value = search rules in
    let why : first_fault c.args.layout.now.value c.args.dtype.now ≡ Some c.in-Err.fault = search rules in
    λ row. (sym at ∙ one_type c.dtype.result.now c.args.dtype.now (sym c.if-ne.false ∙ c.ne.ensures), why)
