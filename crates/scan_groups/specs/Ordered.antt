-- The order of keys is one.
use Rattle.std.specs.Prelude.{refl}
use Rattle.std.specs.Cmp.{IsTotalOrder, IsEquivalence, IsPartialEquivalence, IsPartialOrder, nat_cmp_total, int_cmp_total, bool_cmp_total, on_total, then_total, eq_by_cmp_equiv, partial_equiv_from_equiv, po}
use Rattle.std.specs.Cmp.Lexicographic.{lists_total}
use Rattle.std.specs.Ordering.{as_partial_cmp}
use Rattle.scan_groups.specs.Order.{kind_of, truth_of, number_of, text_of, value_cmp, key_cmp, same_key}

pub value_cmp-total : IsTotalOrder value_cmp
value_cmp-total = then_total (on_total kind_of nat_cmp_total) (then_total (on_total truth_of bool_cmp_total)
    (then_total (on_total number_of int_cmp_total) (on_total text_of (lists_total nat_cmp_total))))

pub key_cmp-total : IsTotalOrder key_cmp
key_cmp-total = lists_total value_cmp-total

pub same_key-equivalence : IsEquivalence same_key
same_key-equivalence = eq_by_cmp_equiv key_cmp-total

pub same_key-partial : IsPartialEquivalence same_key
same_key-partial = partial_equiv_from_equiv same_key-equivalence

pub key_cmp-partial : IsPartialOrder same_key (as_partial_cmp key_cmp)
key_cmp-partial = po key_cmp-total (λ x y. refl)
