use Rattle.std.proofs.Common.{not, ap}
use Rattle.std.proofs.Math.Bool.{beq}
use Rattle.scan_columns.proofs.SideLemmas.{by_order}
use Rattle.scan_columns.proofs.compared.Sides.of.Goals as goal

pub returns : goal.returns
returns c =
    let other = not c.holds_of-other.result in
    let below = beq c.holds_of.result other in
    let above = beq c.holds_of-2.result other in
    by_order c.args.op (record { below = below; above = above; other = other }) (ap not c.holds_of-other.ensures) (ap (λ b. beq b other) c.holds_of.ensures) (ap (λ b. beq b other) c.holds_of-2.ensures)
