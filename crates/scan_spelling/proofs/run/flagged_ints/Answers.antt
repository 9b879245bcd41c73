use Rattle.std.proofs.Common.{arith, ◌≡◌, ◌/◌, ◌≤◌, ◌+◌, List, length, map, slice_range, Some, sym, ap, ◌∙◌}
use Rattle.std.specs.List.{items_where_true}
use Rattle.std.specs.Simd.{first_chunks}
use Rattle.scan_values.specs.declared.dtype.DTypeKind.{DTypeKind}
use Rattle.scan_values.specs.Val.{Val, int_val}
use Rattle.scan_spelling.specs.Spelling.{cells, int_of, width, decode_slots}
use Rattle.scan_spelling.specs.LeafColumns.{is_set, or_none, spread}
use Rattle.scan_spelling.specs.Typed.{typed}
use Rattle.scan_spelling.proofs.Runs.{run_is, numbers_long, slots_within, int_slots, spread_length, spread_long}
use Rattle.scan_spelling.proofs.run.flagged_ints.Goals as goal

pub numbers_of-requires-clause-within : goal.numbers_of-requires-clause-within
numbers_of-requires-clause-within c =
    let s = c.args.spelling in
    let p = c.args.ptype in
    let n = c.args.rows in
    let first = c.args.first in
    let k = length c.args.mask.now in
    let slots = c.args.slots.now in
    let flags = spread s n c.args.flags.now in
    let vs : List Val = or_none (decode_slots s (DTypeKind.Primitive p) n flags slots) in
    let cs : cells (DTypeKind.Primitive p) flags slots ≡ Some vs = sym (int_slots s p n flags slots) ∙ c.requires.spelled in
    let within : first + k ≤ length flags = rw (spread_length s n c.args.flags.now c.requires.flags) c.requires.within in
    let there : first + k ≤ length slots / width p = slots_within p flags slots vs (first + k) cs within in
    there

pub picked_ints-requires-clause-even : goal.picked_ints-requires-clause-even
picked_ints-requires-clause-even c =
    let s = c.args.spelling in
    let p = c.args.ptype in
    let n = c.args.rows in
    let first = c.args.first in
    let k = length c.args.mask.now in
    let slots = c.args.slots.now in
    let flags = spread s n c.args.flags.now in
    let vs : List Val = or_none (decode_slots s (DTypeKind.Primitive p) n flags slots) in
    let cs : cells (DTypeKind.Primitive p) flags slots ≡ Some vs = sym (int_slots s p n flags slots) ∙ c.requires.spelled in
    let within : first + k ≤ length flags = rw (spread_length s n c.args.flags.now c.requires.flags) c.requires.within in
    let there : first + k ≤ length slots / width p = slots_within p flags slots vs (first + k) cs within in
    let numbers : c.in-Some.numbers.items ≡ map (int_of p) (slice_range (first_chunks (width p) (length slots / width p) slots) first (first + k)) = (rw c.in-Some.is at c.in_ok-numbers.ensures) in
    let long : length c.in-Some.numbers.items ≡ k = ap length numbers ∙ numbers_long p slots first (first + k) (omega arith) there ∙ omega arith in
    let valid : c.in_ok-valid.valid.items ≡ map is_set (slice_range flags first (first + k)) = c.in_ok-valid.ensures in
    let same : length c.in_ok-valid.valid.items ≡ k = ap length valid ∙ spread_long s n c.args.flags.now first k c.requires.flags c.requires.within in
    same ∙ sym long

pub picked_ints-requires-clause-mask : goal.picked_ints-requires-clause-mask
picked_ints-requires-clause-mask c =
    let s = c.args.spelling in
    let p = c.args.ptype in
    let n = c.args.rows in
    let first = c.args.first in
    let k = length c.args.mask.now in
    let slots = c.args.slots.now in
    let flags = spread s n c.args.flags.now in
    let vs : List Val = or_none (decode_slots s (DTypeKind.Primitive p) n flags slots) in
    let cs : cells (DTypeKind.Primitive p) flags slots ≡ Some vs = sym (int_slots s p n flags slots) ∙ c.requires.spelled in
    let within : first + k ≤ length flags = rw (spread_length s n c.args.flags.now c.requires.flags) c.requires.within in
    let there : first + k ≤ length slots / width p = slots_within p flags slots vs (first + k) cs within in
    let numbers : c.in-Some.numbers.items ≡ map (int_of p) (slice_range (first_chunks (width p) (length slots / width p) slots) first (first + k)) = (rw c.in-Some.is at c.in_ok-numbers.ensures) in
    let long : length c.in-Some.numbers.items ≡ k = ap length numbers ∙ numbers_long p slots first (first + k) (omega arith) there ∙ omega arith in
    sym long

pub returns : goal.returns
returns c =
    let s = c.args.spelling in
    let p = c.args.ptype in
    let n = c.args.rows in
    let first = c.args.first in
    let k = length c.args.mask.now in
    let slots = c.args.slots.now in
    let flags = spread s n c.args.flags.now in
    let vs : List Val = or_none (decode_slots s (DTypeKind.Primitive p) n flags slots) in
    let cs : cells (DTypeKind.Primitive p) flags slots ≡ Some vs = sym (int_slots s p n flags slots) ∙ c.requires.spelled in
    let within : first + k ≤ length flags = rw (spread_length s n c.args.flags.now c.requires.flags) c.requires.within in
    let there : first + k ≤ length slots / width p = slots_within p flags slots vs (first + k) cs within in
    let numbers : c.in-Some.numbers.items ≡ map (int_of p) (slice_range (first_chunks (width p) (length slots / width p) slots) first (first + k)) = (rw c.in-Some.is at c.in_ok-numbers.ensures) in
    let long : length c.in-Some.numbers.items ≡ k = ap length numbers ∙ numbers_long p slots first (first + k) (omega arith) there ∙ omega arith in
    let valid : c.in_ok-valid.valid.items ≡ map is_set (slice_range flags first (first + k)) = c.in_ok-valid.ensures in
    let same : length c.in_ok-valid.valid.items ≡ k = ap length valid ∙ spread_long s n c.args.flags.now first k c.requires.flags c.requires.within in
    let run : typed int_val c.in-Some.numbers.items c.in_ok-valid.valid.items ≡ slice_range vs first (first + k) = rw (numbers, valid) (run_is p flags slots vs first (first + k) cs) in
    c.picked_ints.ensures ∙ ap (items_where_true c.args.mask.now) run
