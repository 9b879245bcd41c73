use Rattle.std.proofs.Common.{◌≡◌, ◌<◌, length, arith, rules, subst, sym, Some, slice_get, true}
use Rattle.scan_values.specs.Fits.{fits}
use Rattle.scan_values.specs.Val.{marked}
use Rattle.scan_spelling.specs.LeafColumns.{spelled}
use Rattle.scan_spelling.specs.SlotValues.{slot_val}
use Rattle.scan_spelling.proofs.LeafCells.{value_fits}
use Rattle.scan_spelling.proofs.Lengths.{decode_length}
use Rattle.scan_spelling.proofs.column.LeafColumn.slot_value.Goals as goal

pub value_at-requires-clause-within : goal.value_at-requires-clause-within
value_at-requires-clause-within c =
    let same : length c.args.self.now.items ≡ c.self.inside.rows =
    rw (← c.self.view_is) (decode_length c.self.inside.spelling c.self.inside.dtype c.self.inside.rows c.self.inside.bytes (spelled c.self.inside.spelling c.self.inside.dtype c.self.inside.rows c.self.inside.bytes) c.self.invariant.0) in
    omega (arith, c.requires.within, same)

pub returns-clause-fits : goal.returns-clause-fits
returns-clause-fits c =
    let there : Some (slot_val c.value_at.result) ≡ slice_get c.args.self.now.items c.args.i = search rules in
    subst (λ a. fits (marked (slot_val c.value_at.result)) a.dtype ≡ true) c.self.view_is
    (value_fits c.self.inside.spelling c.self.inside.dtype c.self.inside.rows c.self.inside.bytes (spelled c.self.inside.spelling c.self.inside.dtype c.self.inside.rows c.self.inside.bytes) c.args.i (slot_val c.value_at.result) c.self.invariant.0
    (subst (λ a. c.args.i < length a.items) (sym c.self.view_is) c.requires.within) (subst (λ a. Some (slot_val c.value_at.result) ≡ slice_get a.items c.args.i) (sym c.self.view_is) there))
