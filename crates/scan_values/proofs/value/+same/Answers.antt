use Rattle.std.proofs.Common.{sym, arith}
use Rattle.scan_values.proofs.Uneven.{same_vals-uneven}
use Rattle.scan_values.proofs.value.+same.Goals as goal

pub Values::same-returns-then-len-others : goal.Values::same-returns-then-len-others
Values::same-returns-then-len-others t c =
    rw (← c.self.view_is, ← c.as_slice-others.ensures) (sym (same_vals-uneven c.self.inside.items.items c.as_slice-others.result.now (λ e. absurd (omega arith))))
