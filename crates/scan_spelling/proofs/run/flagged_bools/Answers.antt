use Rattle.std.proofs.Common.{◌≡◌, ◌+◌, List, length, map, slice_range, sym, ap, ◌∙◌}
use Rattle.std.specs.List.{items_where_true}
use Rattle.scan_values.specs.declared.dtype.DTypeKind.{DTypeKind}
use Rattle.scan_values.specs.Val.{Val, bool_val}
use Rattle.scan_spelling.specs.Spelling.{decode_slots}
use Rattle.scan_spelling.specs.LeafColumns.{is_set, or_none, spread}
use Rattle.scan_spelling.specs.Typed.{typed}
use Rattle.scan_spelling.proofs.Runs.{bools_are, bool_size, bool_slots, spread_length, spread_long}
use Rattle.scan_spelling.proofs.run.flagged_bools.Goals as goal

pub flags_between-requires-clause-flags : goal.flags_between-requires-clause-flags
flags_between-requires-clause-flags c =
    let s = c.args.spelling in
    let n = c.args.rows in
    let first = c.args.first in
    let k = length c.args.mask.now in
    let slots = c.args.slots.now in
    let flags = spread s n c.args.flags.now in
    let vs : List Val = or_none (decode_slots s DTypeKind.Bool n flags slots) in
    let size = bool_size s n flags slots vs c.requires.spelled (spread_length s n c.args.flags.now c.requires.flags) in
    size

pub picked_bools-requires-clause-even : goal.picked_bools-requires-clause-even
picked_bools-requires-clause-even c =
    let s = c.args.spelling in
    let n = c.args.rows in
    let first = c.args.first in
    let k = length c.args.mask.now in
    let slots = c.args.slots.now in
    let flags = spread s n c.args.flags.now in
    let vs : List Val = or_none (decode_slots s DTypeKind.Bool n flags slots) in
    let size = bool_size s n flags slots vs c.requires.spelled (spread_length s n c.args.flags.now c.requires.flags) in
    let bits : c.in_ok-bits.bits.items ≡ map is_set (slice_range (spread s n slots) first (first + k)) = c.in_ok-bits.ensures in
    let long : length c.in_ok-bits.bits.items ≡ k = ap length bits ∙ spread_long s n slots first k size c.requires.within in
    let valid : c.in_ok-valid.valid.items ≡ map is_set (slice_range flags first (first + k)) = c.in_ok-valid.ensures in
    let same : length c.in_ok-valid.valid.items ≡ k = ap length valid ∙ spread_long s n c.args.flags.now first k c.requires.flags c.requires.within in
    same ∙ sym long

pub picked_bools-requires-clause-mask : goal.picked_bools-requires-clause-mask
picked_bools-requires-clause-mask c =
    let s = c.args.spelling in
    let n = c.args.rows in
    let first = c.args.first in
    let k = length c.args.mask.now in
    let slots = c.args.slots.now in
    let flags = spread s n c.args.flags.now in
    let vs : List Val = or_none (decode_slots s DTypeKind.Bool n flags slots) in
    let size = bool_size s n flags slots vs c.requires.spelled (spread_length s n c.args.flags.now c.requires.flags) in
    let bits : c.in_ok-bits.bits.items ≡ map is_set (slice_range (spread s n slots) first (first + k)) = c.in_ok-bits.ensures in
    let long : length c.in_ok-bits.bits.items ≡ k = ap length bits ∙ spread_long s n slots first k size c.requires.within in
    sym long

pub returns : goal.returns
returns c =
    let s = c.args.spelling in
    let n = c.args.rows in
    let first = c.args.first in
    let k = length c.args.mask.now in
    let slots = c.args.slots.now in
    let flags = spread s n c.args.flags.now in
    let vs : List Val = or_none (decode_slots s DTypeKind.Bool n flags slots) in
    let size = bool_size s n flags slots vs c.requires.spelled (spread_length s n c.args.flags.now c.requires.flags) in
    let bits : c.in_ok-bits.bits.items ≡ map is_set (slice_range (spread s n slots) first (first + k)) = c.in_ok-bits.ensures in
    let long : length c.in_ok-bits.bits.items ≡ k = ap length bits ∙ spread_long s n slots first k size c.requires.within in
    let valid : c.in_ok-valid.valid.items ≡ map is_set (slice_range flags first (first + k)) = c.in_ok-valid.ensures in
    let same : length c.in_ok-valid.valid.items ≡ k = ap length valid ∙ spread_long s n c.args.flags.now first k c.requires.flags c.requires.within in
    let run : typed bool_val c.in_ok-bits.bits.items c.in_ok-valid.valid.items ≡ slice_range vs first (first + k) = rw (bits, valid) (bools_are flags (spread s n slots) vs first (first + k) (bool_slots s n flags slots vs c.requires.spelled)) in
    c.picked_bools.ensures ∙ ap (items_where_true c.args.mask.now) run
