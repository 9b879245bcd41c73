use Rattle.std.proofs.Common.{arith, ◌≡◌, ◌/◌, ◌≤◌, ◌+◌, ℕ, List, length, map, slice_range, replicate, Some, sym, ap, ◌∙◌}
use Rattle.std.proofs.Math.ListN.{length-replicate}
use Rattle.std.specs.List.{items_where_true}
use Rattle.std.specs.Simd.{first_chunks}
use Rattle.scan_values.specs.declared.dtype.DTypeKind.{DTypeKind}
use Rattle.scan_values.specs.Val.{Val, int_val}
use Rattle.scan_spelling.specs.Spelling.{cells, int_of, width, decode_slots}
use Rattle.scan_spelling.specs.LeafColumns.{or_none}
use Rattle.scan_spelling.proofs.Runs.{plain_ints_are, numbers_long, slots_within, int_slots}
use Rattle.scan_spelling.proofs.run.plain_ints.Goals as goal

pub numbers_of-requires-clause-within : goal.numbers_of-requires-clause-within
numbers_of-requires-clause-within c =
    let s = c.args.spelling in
    let p = c.args.ptype in
    let n = c.args.rows in
    let first = c.args.first in
    let k = length c.args.mask.now in
    let slots = c.args.slots.now in
    let flags : List ℕ = replicate n 1 in
    let vs : List Val = or_none (decode_slots s (DTypeKind.Primitive p) n flags slots) in
    let cs : cells (DTypeKind.Primitive p) flags slots ≡ Some vs = sym (int_slots s p n flags slots) ∙ c.requires.spelled in
    let within : first + k ≤ length flags = rw (length-replicate {A = ℕ} n 1) c.requires.within in
    let there : first + k ≤ length slots / width p = slots_within p flags slots vs (first + k) cs within in
    there

pub full_ints-requires : goal.full_ints-requires
full_ints-requires c =
    let s = c.args.spelling in
    let p = c.args.ptype in
    let n = c.args.rows in
    let first = c.args.first in
    let k = length c.args.mask.now in
    let slots = c.args.slots.now in
    let flags : List ℕ = replicate n 1 in
    let vs : List Val = or_none (decode_slots s (DTypeKind.Primitive p) n flags slots) in
    let cs : cells (DTypeKind.Primitive p) flags slots ≡ Some vs = sym (int_slots s p n flags slots) ∙ c.requires.spelled in
    let within : first + k ≤ length flags = rw (length-replicate {A = ℕ} n 1) c.requires.within in
    let there : first + k ≤ length slots / width p = slots_within p flags slots vs (first + k) cs within in
    let numbers : c.in-Some.numbers.items ≡ map (int_of p) (slice_range (first_chunks (width p) (length slots / width p) slots) first (first + k)) = (rw c.in-Some.is at c.in_ok-numbers.ensures) in
    let long : length c.in-Some.numbers.items ≡ k = ap length numbers ∙ numbers_long p slots first (first + k) (omega arith) there ∙ omega arith in
    sym long

pub returns : goal.returns
returns c =
    let s = c.args.spelling in
    let p = c.args.ptype in
    let n = c.args.rows in
    let first = c.args.first in
    let k = length c.args.mask.now in
    let slots = c.args.slots.now in
    let flags : List ℕ = replicate n 1 in
    let vs : List Val = or_none (decode_slots s (DTypeKind.Primitive p) n flags slots) in
    let cs : cells (DTypeKind.Primitive p) flags slots ≡ Some vs = sym (int_slots s p n flags slots) ∙ c.requires.spelled in
    let within : first + k ≤ length flags = rw (length-replicate {A = ℕ} n 1) c.requires.within in
    let there : first + k ≤ length slots / width p = slots_within p flags slots vs (first + k) cs within in
    let numbers : c.in-Some.numbers.items ≡ map (int_of p) (slice_range (first_chunks (width p) (length slots / width p) slots) first (first + k)) = (rw c.in-Some.is at c.in_ok-numbers.ensures) in
    let long : length c.in-Some.numbers.items ≡ k = ap length numbers ∙ numbers_long p slots first (first + k) (omega arith) there ∙ omega arith in
    c.in_ok-run.ensures ∙ ap (items_where_true c.args.mask.now) (ap (map int_val) numbers ∙ plain_ints_are p n slots vs first k cs c.requires.within)
