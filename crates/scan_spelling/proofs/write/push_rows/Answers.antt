use Rattle.std.proofs.Common.{arith, OnOk, Result, Ok, Err}
use Rattle.scan_spelling.specs.declared.spelling.EncodeFault.{EncodeFault}
use Rattle.scan_spelling.proofs.Bytes.{small_items}
use Rattle.scan_spelling.proofs.write.push_rows.Goals as goal

on_ok : (r : Result (Unit {0}) EncodeFault) (P : Type 0) → P → OnOk r P
on_ok (Ok u) P p = p
on_ok (Err e) P p = tt

pub returns-in-NonNullable-clause-bytes : goal.returns-in-NonNullable-clause-bytes
returns-in-NonNullable-clause-bytes c = on_ok _ _ (small_items c.push_values.new.out.items (λ i h. omega (arith, c.type_inv.out i, h)))

pub returns-else-is_err-clause-bytes : goal.returns-else-is_err-clause-bytes
returns-else-is_err-clause-bytes c = on_ok _ _ (small_items c.push_values-in-Nullable.new.out.items (λ i h. omega (arith, c.type_inv.out i, h)))
