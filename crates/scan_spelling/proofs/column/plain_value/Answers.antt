use Rattle.std.proofs.Common.{◌∙◌, ℕ, List, ap, sym, replicate, get_or}
use Rattle.std.proofs.Math.ListN.{length-replicate, get_or-replicate}
use Rattle.scan_values.specs.Val.{Val}
use Rattle.scan_spelling.specs.Spelling.{decode_slots, bits_of, under_flag, bool_of}
use Rattle.scan_spelling.specs.LeafColumns.{or_none}
use Rattle.scan_spelling.proofs.BitGroups.{bits_small}
use Rattle.scan_spelling.proofs.BitColumns.{bool_within, bool_place, two_bools}
use Rattle.scan_spelling.proofs.column.plain_value.Goals as goal

pub bit-requires : goal.bit-requires
bit-requires c =
    let vs : List Val = or_none (decode_slots c.args.spelling c.args.kind c.args.rows (replicate c.args.rows 1) c.args.bytes.now) in
    bool_within c.args.rows (replicate c.args.rows 1) c.args.bytes.now vs c.args.i
    (two_bools c.args.spelling c.args.kind c.args.rows (replicate c.args.rows 1) c.args.bytes.now vs c.in-Two-Bool.is-0 c.in-Two-Bool.is-1 c.requires.spelled)
    (length-replicate {A = ℕ} c.args.rows 1) c.requires.within

pub of_bits-requires-clause-bit : goal.of_bits-requires-clause-bit
of_bits-requires-clause-bit c = rw c.bit.ensures (bits_small c.args.bytes.now c.args.i)

pub returns-in-Two-Bool : goal.returns-in-Two-Bool
returns-in-Two-Bool c =
    let vs : List Val = or_none (decode_slots c.args.spelling c.args.kind c.args.rows (replicate c.args.rows 1) c.args.bytes.now) in
    c.of_bits.ensures ∙ ap (λ b. under_flag 1 (bool_of b)) c.bit.ensures
    ∙ ap (λ f. under_flag f (bool_of (get_or (bits_of c.args.bytes.now) c.args.i 0))) (sym (get_or-replicate c.args.rows c.args.i 1 0 c.requires.within))
    ∙ bool_place c.args.rows (replicate c.args.rows 1) c.args.bytes.now vs c.args.i
    (two_bools c.args.spelling c.args.kind c.args.rows (replicate c.args.rows 1) c.args.bytes.now vs c.in-Two-Bool.is-0 c.in-Two-Bool.is-1 c.requires.spelled)
    (length-replicate {A = ℕ} c.args.rows 1) c.requires.within
