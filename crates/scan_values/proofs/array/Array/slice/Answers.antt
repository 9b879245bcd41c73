use Rattle.std.proofs.Common.{refl}
use Rattle.scan_values.specs.Values.{val_of}
use Rattle.scan_values.proofs.Fitting.{fit-range, map-range}
use Rattle.scan_values.proofs.array.Array.slice.Goals as goal

pub invariant_of-result : goal.invariant_of-result
invariant_of-result c =
    let r = c.args.r in
    rw (c.new.ensures, c.in_ok-items.ensures, map-range val_of r.start r.end c.as_slice.result.now, c.as_slice.ensures, c.in_ok-dtype.ensures)
    (fit-range r.start r.end c.self.inside.items c.self.inside.dtype c.self.invariant)

pub returns : goal.returns
returns c =
    let r = c.args.r in
    rw (c.new.ensures, c.in_ok-items.ensures, map-range val_of r.start r.end c.as_slice.result.now, c.as_slice.ensures, c.in_ok-dtype.ensures, ← c.self.view_is) refl
