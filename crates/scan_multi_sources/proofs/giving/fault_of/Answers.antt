use Rattle.std.proofs.Common.{None, Some, ap, sym, ◌∙◌}
use Rattle.scan_multi_sources.specs.FileFaults.{ends_past, past_fault}
use Rattle.scan_multi_sources.proofs.Parting.{fault_formed, fault_other}
use Rattle.scan_multi_sources.proofs.giving.fault_of.Goals as goal

pub returns-then-ne : goal.returns-then-ne
returns-then-ne c = fault_other c.args.dtype.now c.args.range.now c.args.place c.args.layout.now c.dtype.result.now c.dtype.ensures (sym c.if-ne.true ∙ c.ne.ensures)

pub returns-in-Ok : goal.returns-in-Ok
returns-in-Ok c =
    c.past_fault.ensures ∙ ap (λ n. past_fault c.args.place (ends_past c.args.range.now n)) c.row_count.ensures
    ∙ sym (fault_formed c.args.dtype.now c.args.range.now c.args.place c.args.layout.now c.dtype.result.now c.dtype.ensures (sym c.if-ne.false ∙ c.ne.ensures) None c.in-Ok.ensures.first)

pub returns-in-Err : goal.returns-in-Err
returns-in-Err c = sym (fault_formed c.args.dtype.now c.args.range.now c.args.place c.args.layout.now c.dtype.result.now c.dtype.ensures (sym c.if-ne.false ∙ c.ne.ensures) (Some c.in-Err.fault) c.in-Err.ensures.first)
