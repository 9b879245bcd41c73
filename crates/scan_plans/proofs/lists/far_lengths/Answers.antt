use borrow.Author.Rules.{rules}
use Rattle.std.proofs.Common.{◌≡◌, ◌<◌, length, map, get_or, arith, ap, sym, ◌∙◌}
use Rattle.scan_values.specs.Arrays.{ArrayData, of_parts}
use Rattle.scan_values.specs.DataType.{int_type}
use Rattle.scan_values.specs.declared.ptype.Nullability.TheVariants.{NonNullable}
use Rattle.scan_values.specs.declared.ptype.PType.TheVariants.{U64}
use Rattle.scan_values.specs.Values.{val_of}
use Rattle.scan_plans.specs.ListItems.{length_val, sizes_in}
use Rattle.scan_plans.proofs.ListCells.{climbs_rises, ends_in, opened_climbs, opened_sizes, lengths_fit, lengths_long}
use Rattle.scan_plans.proofs.lists.far_lengths.Goals as goal

pub size_values-requires : goal.size_values-requires
size_values-requires c =
    let some : 0 < length c.args.offsets.now = omega (arith, c.requires.length) in
    search (rules, climbs_rises c.args.most (get_or c.args.offsets.now 0 0) (ends_in c.args.offsets.now) (opened_climbs c.args.most c.args.offsets.now some c.requires.climbs))

pub of_fitting-requires : goal.of_fitting-requires
of_fitting-requires c =
    let some : 0 < length c.args.offsets.now = omega (arith, c.requires.length) in
    let made : map val_of c.in_ok-sizes.sizes.items ≡ map length_val (sizes_in c.args.offsets.now) = search (rules, c.in_ok-sizes.ensures, opened_sizes c.args.offsets.now some) in
    let typed : c.primitive-dtype.result ≡ int_type U64 NonNullable = search (rules, c.primitive-dtype.ensures) in
    rw (made, typed) (lengths_fit c.args.most c.args.offsets.now (omega (arith, c.ranges.most.fits)) c.requires.climbs)

pub filter-requires : goal.filter-requires
filter-requires c =
    let some : 0 < length c.args.offsets.now = omega (arith, c.requires.length) in
    let made : c.in_ok-column.column ≡ of_parts (int_type U64 NonNullable) (map length_val (sizes_in c.args.offsets.now)) = search (rules, c.in_ok-column.ensures, c.of_fitting.ensures, c.in_ok-sizes.ensures, c.primitive-dtype.ensures, opened_sizes c.args.offsets.now some) in
    sym (ap (λ (x : ArrayData). length x.items) made ∙ lengths_long c.args.offsets.now (length c.args.mask.now) c.requires.length)

pub returns : goal.returns
returns c =
    let some : 0 < length c.args.offsets.now = omega (arith, c.requires.length) in
    let made : c.in_ok-column.column ≡ of_parts (int_type U64 NonNullable) (map length_val (sizes_in c.args.offsets.now)) = search (rules, c.in_ok-column.ensures, c.of_fitting.ensures, c.in_ok-sizes.ensures, c.primitive-dtype.ensures, opened_sizes c.args.offsets.now some) in
    search (rules, c.filter.ensures, made)
