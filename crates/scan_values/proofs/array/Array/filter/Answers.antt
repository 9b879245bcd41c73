use Rattle.scan_values.proofs.Fitting.{fit-where_true}
use Rattle.scan_values.proofs.array.Array.filter.Goals as goal

pub invariant_of-result : goal.invariant_of-result
invariant_of-result c =
    rw (c.new.ensures, c.in_ok-items.ensures, c.as_slice.ensures, c.in_ok-dtype.ensures) (fit-where_true c.args.m.now c.self.inside.items c.self.inside.dtype c.self.invariant)
