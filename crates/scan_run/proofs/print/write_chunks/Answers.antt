use Rattle.std.proofs.Common.{◌≡◌, ◌++◌, subst}
use Rattle.std.specs.Prelude.{OnOk, option_map}
use Rattle.scan_run.specs.Printed.{chunks_lines}
use Rattle.scan_run.specs.WriteAll.{WroteFront}
use Rattle.scan_run.proofs.Sending.{writes_last}
use Rattle.scan_run.proofs.print.write_chunks.Goals as goal

pub returns-in_ok-write_each-in-len1-up : goal.returns-in_ok-write_each-in-len1-up
returns-in_ok-write_each-in-len1-up g c =
    let a = g.O.Output.output c.args.output.now in
    let b = g.O.Output.output c.write_each.new.output in
    let d = g.O.Output.output c.write_all.new.output in
    let front = subst (λ t. WroteFront t b d) c.as_slice.ensures c.write_all.ensures.front in
    let whole = subst (λ t. OnOk c.write_all.result (d.written ≡ option_map (λ before. before ++ t) b.written)) c.as_slice.ensures c.write_all.ensures.ok in
    writes_last (chunks_lines c.args.chunks.now) c.in_ok-piece-in-len1-up.piece c.write_each.new.piece a b d c.write_all.result c.in_ok-piece-in-len1-up.ensures c.in_ok-write_each-in-len1-up.ensures.ok front whole c.write_all.ensures.failed c.write_all.ensures.able
