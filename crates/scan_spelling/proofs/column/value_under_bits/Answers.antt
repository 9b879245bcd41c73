use Rattle.std.proofs.Common.{◌≡◌, ◌∙◌, ◌<◌, ℕ, List, ap, sym, refl, take, get_or, length, Some}
use Rattle.std.proofs.lemmas.List.{get_or-take}
use Rattle.scan_values.specs.Val.{Val}
use Rattle.scan_spelling.specs.declared.spelling.Spelling.TheVariants.{Two}
use Rattle.scan_spelling.specs.Spelling.{decode_slots, cells, bits_of, under_flag, bool_of}
use Rattle.scan_spelling.specs.LeafColumns.{or_none}
use Rattle.scan_spelling.proofs.BitGroups.{bits_small}
use Rattle.scan_spelling.proofs.Rows.{row_bits_length}
use Rattle.scan_spelling.proofs.Columns.{slot_within, slot_long, slot_is_there, value_place}
use Rattle.scan_spelling.proofs.BitColumns.{bool_within, bool_place, two_bools, no_bits}
use Rattle.scan_spelling.proofs.column.value_under_bits.Goals as goal

pub bit-requires : goal.bit-requires
bit-requires c =
    let fs : List ℕ = take c.args.rows (bits_of c.args.flags.now) in
    let vs : List Val = or_none (decode_slots Two c.args.kind c.args.rows fs c.args.bytes.now) in
    let long : length fs ≡ c.args.rows = row_bits_length c.args.rows c.args.flags.now c.requires.flags in
    bool_within c.args.rows fs c.args.bytes.now vs c.args.i (two_bools Two c.args.kind c.args.rows fs c.args.bytes.now vs refl c.in-Bool.is c.requires.spelled) long c.requires.within

pub of_bits-requires-clause-flag : goal.of_bits-requires-clause-flag
of_bits-requires-clause-flag c = rw c.bit-flag.ensures (bits_small c.args.flags.now c.args.i)

pub of_bits-requires-clause-bit : goal.of_bits-requires-clause-bit
of_bits-requires-clause-bit c = rw c.bit.ensures (bits_small c.args.bytes.now c.args.i)

pub slot_at-requires : goal.slot_at-requires
slot_at-requires c =
    let fs : List ℕ = take c.args.rows (bits_of c.args.flags.now) in
    let vs : List Val = or_none (decode_slots Two c.args.kind c.args.rows fs c.args.bytes.now) in
    let long : length fs ≡ c.args.rows = row_bits_length c.args.rows c.args.flags.now c.requires.flags in
    let cs : cells c.args.kind fs c.args.bytes.now ≡ Some vs = sym (no_bits c.args.kind c.args.rows fs c.args.bytes.now c.in_default.not-Bool) ∙ c.requires.spelled in
    let low : c.args.i < length fs = rw long c.requires.within in
    let flag : get_or fs c.args.i 0 ≡ c.bit-flag.result = get_or-take c.args.rows (bits_of c.args.flags.now) c.args.i 0 c.requires.within ∙ sym c.bit-flag.ensures in
    rw c.slot_width-width.ensures.same (slot_within c.args.kind fs c.args.bytes.now vs c.args.i c.requires.width cs low)

pub of_slot-requires-clause-long : goal.of_slot-requires-clause-long
of_slot-requires-clause-long c =
    let fs : List ℕ = take c.args.rows (bits_of c.args.flags.now) in
    let vs : List Val = or_none (decode_slots Two c.args.kind c.args.rows fs c.args.bytes.now) in
    let long : length fs ≡ c.args.rows = row_bits_length c.args.rows c.args.flags.now c.requires.flags in
    let cs : cells c.args.kind fs c.args.bytes.now ≡ Some vs = sym (no_bits c.args.kind c.args.rows fs c.args.bytes.now c.in_default.not-Bool) ∙ c.requires.spelled in
    let low : c.args.i < length fs = rw long c.requires.within in
    let flag : get_or fs c.args.i 0 ≡ c.bit-flag.result = get_or-take c.args.rows (bits_of c.args.flags.now) c.args.i 0 c.requires.within ∙ sym c.bit-flag.ensures in
    rw (c.slot_at.ensures, c.slot_width-width.ensures.same) (slot_long c.args.kind fs c.args.bytes.now vs c.args.i c.requires.width cs low)

pub of_slot-requires-clause-there : goal.of_slot-requires-clause-there
of_slot-requires-clause-there c =
    let fs : List ℕ = take c.args.rows (bits_of c.args.flags.now) in
    let vs : List Val = or_none (decode_slots Two c.args.kind c.args.rows fs c.args.bytes.now) in
    let long : length fs ≡ c.args.rows = row_bits_length c.args.rows c.args.flags.now c.requires.flags in
    let cs : cells c.args.kind fs c.args.bytes.now ≡ Some vs = sym (no_bits c.args.kind c.args.rows fs c.args.bytes.now c.in_default.not-Bool) ∙ c.requires.spelled in
    let low : c.args.i < length fs = rw long c.requires.within in
    let flag : get_or fs c.args.i 0 ≡ c.bit-flag.result = get_or-take c.args.rows (bits_of c.args.flags.now) c.args.i 0 c.requires.within ∙ sym c.bit-flag.ensures in
    rw (c.slot_at.ensures, c.slot_width-width.ensures.same, ← flag) (slot_is_there c.args.kind fs c.args.bytes.now vs c.args.i c.requires.width cs low)

pub returns-in-Bool : goal.returns-in-Bool
returns-in-Bool c =
    let fs : List ℕ = take c.args.rows (bits_of c.args.flags.now) in
    let vs : List Val = or_none (decode_slots Two c.args.kind c.args.rows fs c.args.bytes.now) in
    let long : length fs ≡ c.args.rows = row_bits_length c.args.rows c.args.flags.now c.requires.flags in
    let flag : get_or fs c.args.i 0 ≡ c.bit-flag.result = get_or-take c.args.rows (bits_of c.args.flags.now) c.args.i 0 c.requires.within ∙ sym c.bit-flag.ensures in
    c.of_bits.ensures ∙ ap (λ b. under_flag c.bit-flag.result (bool_of b)) c.bit.ensures
    ∙ ap (λ f. under_flag f (bool_of (get_or (bits_of c.args.bytes.now) c.args.i 0))) (sym flag)
    ∙ bool_place c.args.rows fs c.args.bytes.now vs c.args.i (two_bools Two c.args.kind c.args.rows fs c.args.bytes.now vs refl c.in-Bool.is c.requires.spelled) long c.requires.within

pub returns-in_default : goal.returns-in_default
returns-in_default c =
    let fs : List ℕ = take c.args.rows (bits_of c.args.flags.now) in
    let vs : List Val = or_none (decode_slots Two c.args.kind c.args.rows fs c.args.bytes.now) in
    let long : length fs ≡ c.args.rows = row_bits_length c.args.rows c.args.flags.now c.requires.flags in
    let cs : cells c.args.kind fs c.args.bytes.now ≡ Some vs = sym (no_bits c.args.kind c.args.rows fs c.args.bytes.now c.in_default.not-Bool) ∙ c.requires.spelled in
    let low : c.args.i < length fs = rw long c.requires.within in
    let flag : get_or fs c.args.i 0 ≡ c.bit-flag.result = get_or-take c.args.rows (bits_of c.args.flags.now) c.args.i 0 c.requires.within ∙ sym c.bit-flag.ensures in
    c.of_slot.ensures ∙ rw (c.slot_at.ensures, c.slot_width-width.ensures.same, ← flag) (value_place c.args.kind fs c.args.bytes.now vs c.args.i c.requires.width cs low)
