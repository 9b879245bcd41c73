use borrow.Author.Rules.{rules}
use Rattle.std.proofs.Common.{◌≡◌, ◌∙◌, true, map, ap, subst}
use Rattle.scan_values.specs.Arrays.{ArrayData, of_parts}
use Rattle.scan_values.specs.DataType.{with_nullability}
use Rattle.scan_values.specs.declared.ptype.Nullability.TheVariants.{Nullable}
use Rattle.scan_values.specs.Fits.{fits_all}
use Rattle.scan_values.specs.Marked.{is_true}
use Rattle.scan_values.specs.Masks.{null_where_false}
use Rattle.scan_values.specs.Val.{vals_of, marked, marked_all}
use Rattle.scan_plans.proofs.ListRows.{valid_ok}
use Rattle.scan_plans.proofs.reading.validated.Goals as goal

pub returns : goal.returns
returns c = λ p v here is w h.
    let t = c.args.validity in
    let same : c.in_ok-validity.validity ≡ t = search (rules, c.in_ok-validity.ensures) in
    let fit : fits_all (marked_all (vals_of t.items)) t.dtype ≡ true = subst (λ (x : ArrayData). fits_all (marked_all (vals_of x.items)) x.dtype ≡ true) same c.as_slice-truths.ensures.fit in
    let bits = c.in_ok-mask.ensures ∙ ap (λ (x : ArrayData). map (λ v. is_true (marked v)) x.items) same in
    let made : c.in_ok-mask-2.field-0 ≡ of_parts (with_nullability Nullable c.args.values.now.dtype) (null_where_false (map (λ v. is_true (marked v)) t.items) c.args.values.now.items) = search (rules, c.in_ok-mask-2.ensures, bits) in
    valid_ok p v here is c.args.values.now t c.in_ok-mask-2.field-0 w h c.requires.dtype fit made
