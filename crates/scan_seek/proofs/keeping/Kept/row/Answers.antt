use Rattle.std.proofs.Common.{◌∙◌, ap, sym, subst}
use Rattle.scan_seek.specs.KeptData.{KeptData}
use Rattle.scan_seek.specs.KeptView.{kept_of}
use Rattle.scan_seek.specs.Keeps.{RowIs}
use Rattle.scan_seek.proofs.keeping.Kept.row.Goals as goal

pub returns-in-Flawed : goal.returns-in-Flawed
returns-in-Flawed c = subst (λ (k : KeptData). RowIs c.args.dtype.now c.args.row k c.flaw_of.result) (sym (ap kept_of c.in-Flawed.is) ∙ c.self.view_is) (c.flaw_of.ensures c.args.row)
