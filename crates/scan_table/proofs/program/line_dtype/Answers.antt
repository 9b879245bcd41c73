use Rattle.std.proofs.Common.{length, sym, ap, ◌∙◌, arith}
use Rattle.scan_table.proofs.Lines.{named_dtype, truth_last, truth_more, truths, truths-length}
use Rattle.scan_table.proofs.program.line_dtype.Goals as goal

pub loop-i-preserved : goal.loop-i-preserved
loop-i-preserved c =
    let ns = c.args.names.items in
    truth_more (truths ns) c.loop-i.dtypes.items c.push.new.self.items ns c.loop-i.i c.bool.result (omega (arith, c.loop-i-test.true, c.len-i-end.ensures, c.args.names.ok.0)) c.bool.ensures c.in_ok-push.ensures.items c.loop-i.invariant

pub new-requires : goal.new-requires
new-requires c =
    let ns = c.args.names.items in
    let is = truth_last (truths ns) c.loop-i.dtypes.items ns c.loop-i.i (omega (arith, c.loop-i-test.false, c.len-i-end.ensures, c.args.names.ok.0)) c.loop-i.invariant in
    sym (ap length is ∙ truths-length ns)

pub returns-in-Ok : goal.returns-in-Ok
returns-in-Ok c =
    let ns = c.args.names.items in
    let is = truth_last (truths ns) c.loop-i.dtypes.items ns c.loop-i.i (omega (arith, c.loop-i-test.false, c.len-i-end.ensures, c.args.names.ok.0)) c.loop-i.invariant in
    named_dtype ns c.loop-i.dtypes.items c.new.result c.in-Ok.dtype is c.new.ensures c.in-Ok.ensures.ok
