use borrow.Author.Rules.{rules}
use Rattle.std.proofs.Common.{◌≡◌, length}
use Rattle.std.specs.List.{items_where_true}
use Rattle.scan_values.specs.DataType.{int_type}
use Rattle.scan_values.specs.declared.ptype.PType.TheVariants.{U64}
use Rattle.scan_values.specs.declared.ptype.Nullability.TheVariants.{NonNullable}
use Rattle.scan_columns.specs.Numbers.{numbers_from}
use Rattle.scan_columns.proofs.NumberLemmas.{taken_fit}
use Rattle.scan_columns.proofs.column.Column.row_numbers.Goals as goal

pub of_fitting-requires : goal.of_fitting-requires
of_fitting-requires c =
    let made : c.in_ok-ints.ints ≡ items_where_true c.args.mask.now (numbers_from c.args.first (length c.args.mask.now)) = search (rules, c.in_ok-ints.ensures) in
    let typed : c.in_ok-dtype.dtype.value ≡ int_type U64 NonNullable = search (rules, c.in_ok-dtype.ensures.ok, c.primitive-dtype.ensures) in
    rw (made, typed) (taken_fit c.args.mask.now c.args.first (length c.args.mask.now) c.requires)
