use Rattle.std.proofs.Common.{refl, sym}
use Rattle.std.proofs.lemmas.List.{take_rest}
use Rattle.scan_run.proofs.Pieces.{nothing_wrote, wrote_more}
use Rattle.scan_run.proofs.output.write_all.Goals as goal

pub writing-init : goal.writing-init
writing-init g c = (nothing_wrote c.args.bytes.now (g.O.Output.output c.args.output.now), refl)

pub writing-preserved : goal.writing-preserved
writing-preserved g c = (wrote_more c.args.bytes.now c.in-Took.n _ (g.O.Output.output c.writing.output) (g.O.Output.output c.write_some.new.self) c.writing.invariant.0 c.writing.rest.now c.writing.invariant.1 c.in-Took.ensures, sym (take_rest c.writing.rest.now c.in-Took.n))
