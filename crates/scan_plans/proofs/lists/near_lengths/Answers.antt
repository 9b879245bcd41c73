use borrow.Author.Rules.{rules}
use Rattle.std.proofs.Common.{◌≡◌, ◌<◌, ◌^◌, length, map, get_or, arith, ap, sym, ◌∙◌, subst, pos}
use Rattle.scan_values.specs.Arrays.{ArrayData, of_parts}
use Rattle.scan_values.specs.DataType.{int_type}
use Rattle.scan_values.specs.Val.{int_val}
use Rattle.scan_values.specs.declared.ptype.Nullability.TheVariants.{NonNullable}
use Rattle.scan_values.specs.declared.ptype.PType.TheVariants.{U64}
use Rattle.scan_plans.specs.ListItems.{length_val, sizes_in, last_from}
use Rattle.scan_plans.proofs.LastOffsets.{lengths_are, opened_last}
use Rattle.scan_plans.proofs.ListCells.{climbs_rises, ends_in, opened_climbs, opened_sizes, lengths_fit, lengths_long}
use Rattle.scan_plans.proofs.lists.near_lengths.Goals as goal

pub sizes_of-requires-clause-rises : goal.sizes_of-requires-clause-rises
sizes_of-requires-clause-rises c =
    let some : 0 < length c.args.offsets.now = omega (arith, c.requires.length) in
    search (rules, climbs_rises c.args.most (get_or c.args.offsets.now 0 0) (ends_in c.args.offsets.now) (opened_climbs c.args.most c.args.offsets.now some c.requires.climbs))

pub sizes_of-requires-clause-low : goal.sizes_of-requires-clause-low
sizes_of-requires-clause-low c =
    let some : 0 < length c.args.offsets.now = omega (arith, c.requires.length) in
    let low : last_from (get_or c.args.offsets.now 0 0) (ends_in c.args.offsets.now) < 2 ^ 63 = subst (λ n. n < 2 ^ 63) (sym (opened_last c.args.offsets.now some)) c.requires.near in
    search (rules, low)

pub of_numbers-requires : goal.of_numbers-requires
of_numbers-requires c =
    let some : 0 < length c.args.offsets.now = omega (arith, c.requires.length) in
    let read : c.in_ok-sizes.sizes.items ≡ map pos (sizes_in c.args.offsets.now) = search (rules, c.in_ok-sizes.ensures, opened_sizes c.args.offsets.now some) in
    let made : map int_val c.in_ok-sizes.sizes.items ≡ map length_val (sizes_in c.args.offsets.now) = ap (map int_val) read ∙ lengths_are (sizes_in c.args.offsets.now) in
    let typed : c.in_ok-dtype.dtype.value ≡ int_type U64 NonNullable = search (rules, c.in_ok-dtype.ensures, c.primitive-dtype.ensures) in
    rw (made, typed) (lengths_fit c.args.most c.args.offsets.now (omega (arith, c.ranges.most.fits)) c.requires.climbs)

pub filter-requires : goal.filter-requires
filter-requires c =
    let some : 0 < length c.args.offsets.now = omega (arith, c.requires.length) in
    let read : c.in_ok-sizes.sizes.items ≡ map pos (sizes_in c.args.offsets.now) = search (rules, c.in_ok-sizes.ensures, opened_sizes c.args.offsets.now some) in
    let typed : c.in_ok-dtype.dtype.value ≡ int_type U64 NonNullable = search (rules, c.in_ok-dtype.ensures, c.primitive-dtype.ensures) in
    let made : c.in_ok-column.column ≡ of_parts (int_type U64 NonNullable) (map length_val (sizes_in c.args.offsets.now)) =
    c.in_ok-column.ensures ∙ ap (λ d. of_parts d (map int_val c.in_ok-sizes.sizes.items)) typed ∙ ap (of_parts (int_type U64 NonNullable)) (ap (map int_val) read ∙ lengths_are (sizes_in c.args.offsets.now)) in
    sym (ap (λ (x : ArrayData). length x.items) made ∙ lengths_long c.args.offsets.now (length c.args.mask.now) c.requires.length)

pub returns : goal.returns
returns c =
    let some : 0 < length c.args.offsets.now = omega (arith, c.requires.length) in
    let read : c.in_ok-sizes.sizes.items ≡ map pos (sizes_in c.args.offsets.now) = search (rules, c.in_ok-sizes.ensures, opened_sizes c.args.offsets.now some) in
    let typed : c.in_ok-dtype.dtype.value ≡ int_type U64 NonNullable = search (rules, c.in_ok-dtype.ensures, c.primitive-dtype.ensures) in
    let made : c.in_ok-column.column ≡ of_parts (int_type U64 NonNullable) (map length_val (sizes_in c.args.offsets.now)) =
    c.in_ok-column.ensures ∙ ap (λ d. of_parts d (map int_val c.in_ok-sizes.sizes.items)) typed ∙ ap (of_parts (int_type U64 NonNullable)) (ap (map int_val) read ∙ lengths_are (sizes_in c.args.offsets.now)) in
    search (rules, c.filter.ensures, made)
