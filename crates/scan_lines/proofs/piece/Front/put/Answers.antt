use Rattle.std.proofs.Common.{◌≡◌, ap, ◌∙◌, subst}
use Rattle.scan_lines.specs.Heads.{front_of}
use Rattle.scan_lines.specs.Writes.{Writes}
use Rattle.scan_lines.proofs.piece.Front.put.Goals as goal

pub returns : goal.returns
returns c = subst (λ t. Writes t c.args.at c.args.buf.now c.put.new.buf c.put.result) (c.self.invariant ∙ ap front_of c.self.view_is) c.put.ensures
