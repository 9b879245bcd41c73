use Rattle.std.proofs.Common.{sym, ◌∙◌}
use Rattle.scan_conditions.proofs.Faultless.{binds_to_bool}
use Rattle.scan_conditions.proofs.condition.bind_test.Goals as goal

pub returns : goal.returns
returns c =
    binds_to_bool c.args.rows.now c.args.filter.now c.in_ok-bound.bound c.dtype.result.now (c.in_ok-bound.ensures (λ h. cc)) c.dtype.ensures.dtype (sym c.is_bool.ensures ∙ c.if-not-is_bool.false)
