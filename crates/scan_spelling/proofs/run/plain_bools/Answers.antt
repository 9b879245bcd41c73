use Rattle.std.proofs.Common.{◌≡◌, ◌+◌, ℕ, List, length, map, slice_range, replicate, IfOk, sym, ap, subst, ◌∙◌}
use Rattle.std.proofs.Math.ListN.{length-replicate}
use Rattle.std.specs.List.{items_where_true}
use Rattle.scan_values.specs.declared.dtype.DTypeKind.{DTypeKind}
use Rattle.scan_values.specs.Val.{Val, bool_val}
use Rattle.scan_spelling.specs.Spelling.{decode_slots}
use Rattle.scan_spelling.specs.LeafColumns.{is_set, or_none, spread}
use Rattle.scan_spelling.proofs.Runs.{plain_bools_are, bool_size, bool_slots, spread_long}
use Rattle.scan_spelling.proofs.run.plain_bools.Goals as goal

pub flags_between-requires-clause-flags : goal.flags_between-requires-clause-flags
flags_between-requires-clause-flags c =
    let s = c.args.spelling in
    let n = c.args.rows in
    let first = c.args.first in
    let k = length c.args.mask.now in
    let slots = c.args.slots.now in
    let flags : List ℕ = replicate n 1 in
    let vs : List Val = or_none (decode_slots s DTypeKind.Bool n flags slots) in
    let size = bool_size s n flags slots vs c.requires.spelled (length-replicate {A = ℕ} n 1) in
    size

pub full_bools-requires : goal.full_bools-requires
full_bools-requires c =
    let s = c.args.spelling in
    let n = c.args.rows in
    let first = c.args.first in
    let k = length c.args.mask.now in
    let slots = c.args.slots.now in
    let flags : List ℕ = replicate n 1 in
    let vs : List Val = or_none (decode_slots s DTypeKind.Bool n flags slots) in
    let size = bool_size s n flags slots vs c.requires.spelled (length-replicate {A = ℕ} n 1) in
    let bits : c.in_ok-bits.bits.items ≡ map is_set (slice_range (spread s n slots) first (first + k)) = c.in_ok-bits.ensures in
    let long : length c.in_ok-bits.bits.items ≡ k = ap length bits ∙ spread_long s n slots first k size c.requires.within in
    sym long

pub returns : goal.returns
returns c =
    let s = c.args.spelling in
    let n = c.args.rows in
    let first = c.args.first in
    let k = length c.args.mask.now in
    let slots = c.args.slots.now in
    let flags : List ℕ = replicate n 1 in
    let vs : List Val = or_none (decode_slots s DTypeKind.Bool n flags slots) in
    let size = bool_size s n flags slots vs c.requires.spelled (length-replicate {A = ℕ} n 1) in
    let bits : c.in_ok-bits.bits.items ≡ map is_set (slice_range (spread s n slots) first (first + k)) = c.in_ok-bits.ensures in
    let long : length c.in_ok-bits.bits.items ≡ k = ap length bits ∙ spread_long s n slots first k size c.requires.within in
    let same = ap (map bool_val) bits ∙ plain_bools_are n (spread s n slots) vs first k (bool_slots s n flags slots vs c.requires.spelled) c.requires.within in
    subst (λ b. IfOk c.full_bools.result (λ r. r ≡ items_where_true c.args.mask.now b)) same c.full_bools.ensures
