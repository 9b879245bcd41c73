use Rattle.std.proofs.Common.{length, get_or, refl, sym, ◌∙◌}
use Rattle.std.specs.List.{list_all}
use Rattle.scan_conditions.specs.Spelling.{is_digit}
use Rattle.scan_conditions.specs.Written.{digits_behind}
use Rattle.scan_conditions.proofs.Places.{nonempty}
use Rattle.scan_conditions.proofs.Steps.{all_step, are_digits, digit_at, digits_end, digits_step}
use Rattle.scan_conditions.proofs.leaf.number_of.Goals as goal

pub loop-c-preserved : goal.loop-c-preserved
loop-c-preserved c =
    let ds = c.args.digits.now in
    let i = c.loop-c.c-index in
    let here = digit_at ds i c.loop-c-test.true in record {
      same = digits_step ds i (get_or ds i 0) c.loop-c.number c.in_ok-more.more (digits_behind 0 ds) here c.in_ok-more.ensures c.loop-c.invariant.same;
      all = all_step ds i (get_or ds i 0) (list_all is_digit ds) here (sym c.is_digit.ensures ∙ c.if-not-is_digit.false) c.loop-c.invariant.all;
    }

pub returns : goal.returns
returns c =
    let some = nonempty (length c.args.digits.now) (length c.args.digits.now) c.is_empty.result c.is_empty.ensures c.if-is_empty.false refl in
    (are_digits c.args.digits.now c.loop-c.c-index some c.loop-c-test.false c.loop-c.invariant.all, digits_end c.args.digits.now c.loop-c.c-index c.loop-c.number c.loop-c-test.false c.loop-c.invariant.same)
