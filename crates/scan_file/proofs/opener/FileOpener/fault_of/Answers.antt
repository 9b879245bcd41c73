use Rattle.std.proofs.Common.{None, Some, ap, sym, ◌∙◌}
use Rattle.scan_file.specs.FileAsks.{asked_dtype}
use Rattle.scan_file.specs.Openings.{ends_past, past_fault}
use Rattle.scan_file.proofs.Choosing.{fault_formed, fault_other}
use Rattle.scan_file.proofs.opener.FileOpener.fault_of.Goals as goal

pub returns-then-ne : goal.returns-then-ne
returns-then-ne c =
    fault_other c.args.self.now c.args.layout.now c.dtype.result.now c.scope-dtype.result.now c.dtype.ensures (c.scope-dtype.ensures ∙ ap asked_dtype c.self.view_is) (sym c.if-ne.true ∙ c.ne.ensures)

pub returns-in-Ok : goal.returns-in-Ok
returns-in-Ok c =
    c.past_fault.ensures ∙ ap (λ n. past_fault (ends_past (c.args.self.now).range n)) c.row_count.ensures
    ∙ sym (fault_formed c.args.self.now c.args.layout.now c.dtype.result.now c.scope-dtype.result.now c.dtype.ensures (c.scope-dtype.ensures ∙ ap asked_dtype c.self.view_is) (sym c.if-ne.false ∙ c.ne.ensures) None c.in-Ok.ensures.first)

pub returns-in-Err : goal.returns-in-Err
returns-in-Err c =
    sym (fault_formed c.args.self.now c.args.layout.now c.dtype.result.now c.scope-dtype.result.now c.dtype.ensures (c.scope-dtype.ensures ∙ ap asked_dtype c.self.view_is) (sym c.if-ne.false ∙ c.ne.ensures) (Some c.in-Err.fault) c.in-Err.ensures.first)
