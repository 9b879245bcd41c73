use Rattle.scan_values.proofs.Fitting.{fit-null_where_false}
use Rattle.scan_values.proofs.array.Array.mask.Goals as goal

pub invariant_of-result : goal.invariant_of-result
invariant_of-result c =
    rw (c.new.ensures, c.in_ok-items.ensures, c.as_slice.ensures, c.with_nullability-dtype.ensures, c.in_ok-try_clone.ensures)
    (fit-null_where_false c.args.m.now c.self.inside.items c.self.inside.dtype c.self.invariant)
